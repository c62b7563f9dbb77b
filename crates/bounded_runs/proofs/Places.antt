-- Two memories that differ in marked bytes alone.
use Rattle.std.proofs.Common.{◌≡◌, ℕ, zero, suc, ◌+◌, ◌*◌, ◌/◌, ◌%◌, ◌<◌, ◌≤◌, ◌⊎◌, Bool, true, false, List, Option, length, ◌==◌, ◌&&◌, not, refl, sym, ◌∙◌, subst, ap, arith, inl, inr}
use Rattle.std.specs.Prelude.{slice_get, slice_set}
use Rattle.std.proofs.lemmas.Bool.{and_parts, cases_eq, cases_lt, eqb-true, or_parts, true≢false}
use Rattle.std.proofs.lemmas.List.{length-set}
use Rattle.std.proofs.lemmas.Option.{slice_get_past}
use Rattle.bpf_machine.specs.Step.{number_at, with_number}
use Rattle.bpf_run.proofs.FlatWords.{set_found, set_other}
use Rattle.bounded_runs.specs.Bounded.{Bound, is_kept}
use Rattle.bounded_runs.specs.inner.Marks.{all_marked, has_mark, is_whole_word, takes_large, touches_marked, with_byte_marks}
use Rattle.bounded_runs.specs.inner.Similar.{AreSimilarMemories, IsLargeWord}
use Rattle.bounded_runs.proofs.Similar.{cleared_mark, marked_other, marked_same}

-- ---- numbers

-- a number is that of its bytes
pub number_same : (f g : ℕ → Option ℕ) (k count : ℕ) → ((p : ℕ) → k ≤ p → p < k + count → f p ≡ g p)
    → number_at f k count ≡ number_at g k count
number_same f g k zero h = refl
number_same f g k (suc count) h =
    rw (
      h k (omega arith) (omega arith),
      number_same f g (suc k) count (λ p le lt. h p (omega (arith, le)) (omega (arith, lt))),
    ) refl

-- of what isn't touched no byte is marked
pub untouched : (bytes : List Bool) (k count p : ℕ) → touches_marked bytes k count ≡ false → k ≤ p → p < k + count
    → has_mark bytes p ≡ false
untouched bytes k zero p plain le lt = absurd (omega (arith, le, lt))
untouched bytes k (suc count) p plain le lt =
    let parts = or_parts (has_mark bytes k) (touches_marked bytes (suc k) count) plain in
    elim (cases_eq p k) [
      | inl same ↦ ap (has_mark bytes) same ∙ parts.0
      | inr other ↦ untouched bytes (suc k) count p parts.1 (omega (arith, le, other)) (omega (arith, lt))
    ]

-- of what is marked whole each byte is
pub each_marked : (bytes : List Bool) (k count p : ℕ) → all_marked bytes k count ≡ true → k ≤ p → p < k + count
    → has_mark bytes p ≡ true
each_marked bytes k zero p all le lt = absurd (omega (arith, le, lt))
each_marked bytes k (suc count) p all le lt =
    let parts = and_parts (has_mark bytes k) (all_marked bytes (suc k) count) all in
    elim (cases_eq p k) [
      | inl same ↦ ap (has_mark bytes) same ∙ parts.0
      | inr other ↦ each_marked bytes (suc k) count p parts.1 (omega (arith, le, other)) (omega (arith, lt))
    ]

pub all_marked_from : (bytes : List Bool) (k count : ℕ)
    → ((p : ℕ) → k ≤ p → p < k + count → has_mark bytes p ≡ true) → all_marked bytes k count ≡ true
all_marked_from bytes k zero each = refl
all_marked_from bytes k (suc count) each = rw (
  each k (omega arith) (omega arith),
  all_marked_from bytes (suc k) count (λ p le lt. each p (omega (arith, le)) (omega (arith, lt))),
) refl

-- what a large word is that isn't kept
pub large_taken : (kept bytes : List Bool) (first count : ℕ) → takes_large kept bytes first count ≡ true
    → (count ≡ 4) × (first ≡ 4 * (first / 4)) × (is_kept kept (first / 4) ≡ false)
    × (all_marked bytes first count ≡ true)
large_taken kept bytes first count h =
    let both = and_parts (is_whole_word first count)
    (not (is_kept kept (first / 4)) && all_marked bytes first count) h in
    let parts = and_parts (count == 4) (first % 4 == 0) both.0 in
    let rest = and_parts (not (is_kept kept (first / 4))) (all_marked bytes first count) both.1 in
    let even : first % 4 ≡ 0 = eqb-true (first % 4) 0 parts.1 in
    (eqb-true count 4 parts.0, omega (arith, even), not_true (is_kept kept (first / 4)) rest.0, rest.1)
  where
    not_true : (b : Bool) → not b ≡ true → b ≡ false
    not_true true e = absurd (true≢false (sym e))
    not_true false e = refl

-- ---- marks of bytes

pub length-with_byte_marks : (bytes : List Bool) (k count : ℕ) (b : Bool)
    → length (with_byte_marks bytes k count b) ≡ length bytes
length-with_byte_marks bytes k zero b = refl
length-with_byte_marks bytes k (suc count) b =
    length-with_byte_marks (slice_set bytes k b) (suc k) count b ∙ length-set bytes k b

-- ---- bytes that are written

abbrev pub IsOutside : ℕ → ℕ → ℕ → Type 0
IsOutside k count p = (p < k) ⊎ (k + count ≤ p)

pub written_length : (m : List ℕ) (k count n : ℕ) → length (with_number slice_set m k count n) ≡ length m
written_length m k zero n = refl
written_length m k (suc count) n =
    written_length (slice_set m k (n % 256)) (suc k) count (n / 256) ∙ length-set m k (n % 256)

-- the others stay
pub written_other : (m : List ℕ) (k count n p : ℕ) → IsOutside k count p
    → slice_get (with_number slice_set m k count n) p ≡ slice_get m p
written_other m k zero n p outside = refl
written_other m k (suc count) n p outside =
    written_other (slice_set m k (n % 256)) (suc k) count (n / 256) p (further outside)
    ∙ set_other m p k (n % 256) (λ same. apart same outside)
  where
    further : IsOutside k (suc count) p → IsOutside (suc k) count p
    further (inl lt) = inl (omega (arith, lt))
    further (inr le) = inr (omega (arith, le))

    apart : p ≡ k → IsOutside k (suc count) p → ⊥
    apart same (inl lt) = omega (arith, same, lt)
    apart same (inr le) = omega (arith, same, le)

set_alike : (m l : List ℕ) (k v p : ℕ) → length m ≡ length l → p ≡ k
    → slice_get (slice_set m k v) p ≡ slice_get (slice_set l k v) p
set_alike m l k v p size same = subst (λ (q : ℕ). slice_get (slice_set m k v) q ≡ slice_get (slice_set l k v) q)
    (sym same) (elim (cases_lt k (length m)) [
      | inl lt ↦ set_found m k v lt ∙ sym (set_found l k v (omega (arith, lt, size)))
      | inr le ↦
          slice_get_past (slice_set m k v) k (omega (arith, le, length-set m k v))
          ∙ sym (slice_get_past (slice_set l k v) k (omega (arith, le, size, length-set l k v)))
    ])

-- one number in both: bytes are alike if they were so outside
pub written_alike : (m l : List ℕ) (k count n p : ℕ) → length m ≡ length l
    → (IsOutside k count p → slice_get m p ≡ slice_get l p)
    → slice_get (with_number slice_set m k count n) p ≡ slice_get (with_number slice_set l k count n) p
written_alike m l k zero n p size h = h (elim (cases_lt p k) [
  | inl lt ↦ inl lt
  | inr le ↦ inr (omega (arith, le))
])
written_alike m l k (suc count) n p size h =
    let v = n % 256 in
    written_alike (slice_set m k v) (slice_set l k v) (suc k) count (n / 256) p
    (length-set m k v ∙ (size ∙ sym (length-set l k v))) (λ outside.
    elim (cases_eq p k) [
      | inl same ↦ set_alike m l k v p size same
      | inr other ↦
          set_other m p k v other
          ∙ (h (nearer other outside) ∙ sym (set_other l p k v other))
    ])
  where
    nearer : (p ≡ k → ⊥) → IsOutside (suc k) count p → IsOutside k (suc count) p
    nearer other (inl lt) = inl (omega (arith, lt, other))
    nearer other (inr le) = inr (omega (arith, le))

-- ---- marks that are set

-- the others stay
pub marks_outside : (bytes : List Bool) (k count p : ℕ) (b : Bool) → IsOutside k count p
    → has_mark (with_byte_marks bytes k count b) p ≡ has_mark bytes p
marks_outside bytes k zero p b outside = refl
marks_outside bytes k (suc count) p b outside =
    marks_outside (slice_set bytes k b) (suc k) count p b (further outside)
    ∙ marked_other bytes k p b (λ same. apart same outside)
  where
    further : IsOutside k (suc count) p → IsOutside (suc k) count p
    further (inl lt) = inl (omega (arith, lt))
    further (inr le) = inr (omega (arith, le))

    apart : p ≡ k → IsOutside k (suc count) p → ⊥
    apart same (inl lt) = omega (arith, same, lt)
    apart same (inr le) = omega (arith, same, le)

pub marks_inside : (bytes : List Bool) (k count p : ℕ) (b : Bool) → k + count ≤ length bytes → k ≤ p → p < k + count
    → has_mark (with_byte_marks bytes k count b) p ≡ b
marks_inside bytes k zero p b within le lt = absurd (omega (arith, le, lt))
marks_inside bytes k (suc count) p b within le lt = elim (cases_eq p k) [
  | inl same ↦
      marks_outside (slice_set bytes k b) (suc k) count p b (inl (omega (arith, same)))
      ∙ (ap (has_mark (slice_set bytes k b)) same ∙ marked_same bytes k b (omega (arith, within)))
  | inr other ↦ marks_inside (slice_set bytes k b) (suc k) count p b (omega (arith, within, length-set bytes k b))
      (omega (arith, le, other)) (omega (arith, lt))
]

-- marks that are taken away are gone
pub marks_cleared : (bytes : List Bool) (k count p : ℕ) → k ≤ p → p < k + count
    → has_mark (with_byte_marks bytes k count false) p ≡ false
marks_cleared bytes k zero p le lt = absurd (omega (arith, le, lt))
marks_cleared bytes k (suc count) p le lt = elim (cases_eq p k) [
  | inl same ↦
      marks_outside (slice_set bytes k false) (suc k) count p false (inl (omega (arith, same)))
      ∙ (ap (has_mark (slice_set bytes k false)) same ∙ cleared_mark bytes k)
  | inr other ↦ marks_cleared (slice_set bytes k false) (suc k) count p (omega (arith, le, other)) (omega (arith, lt))
]

-- so a byte that is marked still isn't one of them
pub marked_outside : (bytes : List Bool) (k count p : ℕ) → has_mark (with_byte_marks bytes k count false) p ≡ true
    → IsOutside k count p
marked_outside bytes k count p marked = elim (cases_lt p k) [
  | inl below ↦ inl below
  | inr from ↦ elim (cases_lt p (k + count)) [
    | inl inside ↦ absurd (true≢false (sym marked ∙ marks_cleared bytes k count p from inside))
    | inr past ↦ inr past
  ]
]

-- ---- memories after a store

-- a word of which no byte is written stays large
kept_large : (bound : ℕ) (m : List ℕ) (k count n j : ℕ)
    → ((p : ℕ) → 4 * j ≤ p → p < 4 * j + 4 → IsOutside k count p) → IsLargeWord bound m j
    → IsLargeWord bound (with_number slice_set m k count n) j
kept_large bound m k count n j apart large = (
  large.0,
  number_same (slice_get (with_number slice_set m k count n)) (slice_get m) (4 * j) 4
      (λ p le lt. written_other m k count n p (apart p le lt))
      ∙ large.1,
  large.2,
)

-- bytes that are stored have no marks any more
pub stored_similar : (bound : Bound) (begun : List ℕ) (bytes : List Bool) (m l : List ℕ) (k count n : ℕ)
    → AreSimilarMemories bound begun bytes m l
    → AreSimilarMemories bound begun (with_byte_marks bytes k count false) (with_number slice_set m k count n)
    (with_number slice_set l k count n)
stored_similar bound begun bytes m l k count n similar = record {
  size = written_length m k count n ∙ (similar.size ∙ sym (written_length l k count n));
  plain = λ p shown. written_alike m l k count n p similar.size (λ outside.
      similar.plain p (sym (marks_outside bytes k count p false outside) ∙ shown));
  large = λ j all seen.
      let both = similar.large j (all_marked_from bytes (4 * j) 4 (λ p le lt.
      sym (marks_outside bytes k count p false (apart j all p le lt)) ∙ each_marked cleared (4 * j) 4 p all le lt))
      seen in (
        kept_large bound.number m k count n j (apart j all) both.0,
        kept_large bound.number l k count n j (apart j all) both.1,
      );
  stays = λ p marked.
      let outside = marked_outside bytes k count p marked in
      written_other l k count n p outside
      ∙ similar.stays p (sym (marks_outside bytes k count p false outside) ∙ marked);
}
  where
    cleared : List Bool
    cleared = with_byte_marks bytes k count false

    apart : (j : ℕ) → all_marked cleared (4 * j) 4 ≡ true → (p : ℕ) → 4 * j ≤ p → p < 4 * j + 4 → IsOutside k count p
    apart j all p le lt = marked_outside bytes k count p (each_marked cleared (4 * j) 4 p all le lt)
