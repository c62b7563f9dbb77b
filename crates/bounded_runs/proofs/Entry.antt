-- The states in which runs from alike inputs begin.
use Rattle.std.proofs.Common.{◌≡◌, ℕ, zero, suc, ◌+◌, ◌*◌, ◌/◌, ◌%◌, ◌^◌, ◌<◌, ◌≤◌, ◌⊎◌, Bool, true, false, List, Some, Ok, length, ◌||◌, nat_lt, nat_le, All, refl, sym, ◌∙◌, subst, ap, arith, inl, inr}
use Rattle.std.specs.Prelude.{replicate, slice_get, slice_index, slice_set}
use Rattle.std.specs.Ordering.{nat_cmp}
use Rattle.std.specs.FinMap.{FinMap, get}
use Rattle.std.proofs.lemmas.Bool.{and_cases, and_parts, cases_eq, cases_lt, leb-false, leb-true, ltb-false, ltb-true, or_parts}
use Rattle.std.proofs.lemmas.Option.{slice_get-get_or, slice_get_past}
use Rattle.std.proofs.lemmas.List.{get_or_past}
use Rattle.node_env.specs.Env.{Setting}
use Rattle.bpf_machine.specs.declared.word.Word.{Word}
use Rattle.bpf_machine.specs.Machine.{entry}
use Rattle.bpf_machine.specs.Step.{number_at}
use Rattle.bounded_runs.specs.declared.marks.Marks.{Marks}
use Rattle.bounded_runs.specs.Bounded.{AlikeFrom, AreAlikeMemories, Bound, is_kept, memory_word}
use Rattle.bounded_runs.specs.inner.Marks.{AreMarksOf, all_marked, has_mark, is_unseen, with_byte_marks}
use Rattle.bounded_runs.specs.inner.Similar.{AreSimilar, AreSimilarMemories, AreSimilarRegisters, HoldAlike, IsLargeWord}
use Rattle.bounded_runs.proofs.Places.{each_marked, marks_inside, marks_outside}
use Rattle.bounded_runs.proofs.Parts.{with_inbox}

-- ---- words

pub byte_small : (m : List ℕ) → All (λ byte. byte < 256) m → (p : ℕ) → slice_index m p < 256
byte_small m bytes p = elim (cases_lt p (length m)) [
  | inl lt ↦ bytes p 0 lt
  | inr le ↦ let none : slice_index m p ≡ 0 = get_or_past m p 0 le in omega (arith, none)
]

byte_found : (m : List ℕ) (p : ℕ) → p < length m → slice_get m p ≡ Some (slice_index m p)
byte_found m p lt = slice_get-get_or m p 0 lt

byte_next : (m : List ℕ) (p q : ℕ) → p ≡ q → p < length m → slice_get m q ≡ Some (slice_index m p)
byte_next m p q same lt = subst (λ (n : ℕ). slice_get m n ≡ Some (slice_index m p)) same (byte_found m p lt)

-- a word is a number
word_number : (m : List ℕ) (k : ℕ) → 4 * k + 4 ≤ length m → number_at (slice_get m) (4 * k) 4 ≡ Ok (memory_word m k)
word_number m k le =
    rw (
      byte_found m (4 * k) (omega (arith, le)),
      byte_next m (4 * k + 1) (suc (4 * k)) (omega arith) (omega (arith, le)),
      byte_next m (4 * k + 2) (suc (suc (4 * k))) (omega arith) (omega (arith, le)),
      byte_next m (4 * k + 3) (suc (suc (suc (4 * k)))) (omega arith) (omega (arith, le)),
    ) (ap Ok (omega arith))

word_small : (m : List ℕ) (k : ℕ) → All (λ byte. byte < 256) m → memory_word m k < 2 ^ 32
word_small m k bytes =
    let a = byte_small m bytes (4 * k) in
    let b = byte_small m bytes (4 * k + 1) in
    let c = byte_small m bytes (4 * k + 2) in
    let d = byte_small m bytes (4 * k + 3) in
    omega (arith, a, b, c, d)

-- equal words have equal bytes
word_bytes : (m l : List ℕ) (k p : ℕ) → All (λ byte. byte < 256) m → All (λ byte. byte < 256) l
    → memory_word m k ≡ memory_word l k → p / 4 ≡ k → slice_index m p ≡ slice_index l p
word_bytes m l k p mine theirs same at =
    let a = byte_small m mine (4 * k) in
    let b = byte_small m mine (4 * k + 1) in
    let c = byte_small m mine (4 * k + 2) in
    let d = byte_small m mine (4 * k + 3) in
    let e = byte_small l theirs (4 * k) in
    let f = byte_small l theirs (4 * k + 1) in
    let g = byte_small l theirs (4 * k + 2) in
    let h = byte_small l theirs (4 * k + 3) in
    let first : slice_index m (4 * k) ≡ slice_index l (4 * k) = omega (arith, a, b, c, d, e, f, g, h, same) in
    let second : slice_index m (4 * k + 1) ≡ slice_index l (4 * k + 1) = omega (arith, a, b, c, d, e, f, g, h, same) in
    let third : slice_index m (4 * k + 2) ≡ slice_index l (4 * k + 2) = omega (arith, a, b, c, d, e, f, g, h, same) in
    let fourth : slice_index m (4 * k + 3) ≡ slice_index l (4 * k + 3) = omega (arith, a, b, c, d, e, f, g, h, same) in
    by (p % 4) refl first second third fourth
  where
    by : (r : ℕ) → p % 4 ≡ r → slice_index m (4 * k) ≡ slice_index l (4 * k)
        → slice_index m (4 * k + 1) ≡ slice_index l (4 * k + 1) → slice_index m (4 * k + 2) ≡ slice_index l (4 * k + 2)
        → slice_index m (4 * k + 3) ≡ slice_index l (4 * k + 3) → slice_index m p ≡ slice_index l p
    by zero e first second third fourth =
        subst (λ (q : ℕ). slice_index m q ≡ slice_index l q) (omega (arith, e, at)) first
    by (suc zero) e first second third fourth =
        subst (λ (q : ℕ). slice_index m q ≡ slice_index l q) (omega (arith, e, at)) second
    by (suc (suc zero)) e first second third fourth =
        subst (λ (q : ℕ). slice_index m q ≡ slice_index l q) (omega (arith, e, at)) third
    by (suc (suc (suc zero))) e first second third fourth =
        subst (λ (q : ℕ). slice_index m q ≡ slice_index l q) (omega (arith, e, at)) fourth
    by (suc (suc (suc (suc r)))) e first second third fourth = absurd (omega (arith, e))

-- ---- memories

pub memories_similar : (bound : Bound) (marks : List Bool) (m l : List ℕ) → AreMarksOf bound marks m
    → length m % 4 ≡ 0 → All (λ byte. byte < 256) m → All (λ byte. byte < 256) l → AreAlikeMemories bound m l
    → AreSimilarMemories bound l marks m l
memories_similar bound marks m l are whole mine theirs alike = record {
  size = sym alike.size;
  plain = plain;
  large = large;
  stays = λ p marked. refl;
}
  where
    -- the word of a marked byte is in the memory, and large if it isn't kept
    large_at : (p : ℕ) → has_mark marks p ≡ true → is_kept bound.kept (p / 4) ≡ false
        → (p < length m) × (bound.number ≤ memory_word m (p / 4))
    large_at p e seen =
        let parts = and_parts (nat_lt p (length m)) (is_unseen bound (p / 4) (memory_word m (p / 4))) (sym (are p) ∙ e)
        in (
          ltb-true p (length m) parts.0,
          leb-true bound.number (memory_word m (p / 4))
              (subst (λ (b : Bool). (b || nat_le bound.number (memory_word m (p / 4))) ≡ true) seen parts.1),
        )

    still : (k : ℕ) → bound.number ≤ memory_word m k → AlikeFrom bound.number (memory_word m k) (memory_word l k)
        → bound.number ≤ memory_word l k
    still k le (inl same) = omega (arith, le, same)
    still k le (inr both) = both.1

    large_word : (k : ℕ) → 4 * k < length m → bound.number ≤ memory_word m k → is_kept bound.kept k ≡ false
        → IsLargeWord bound.number m k × IsLargeWord bound.number l k
    large_word k lt le seen = (
      (
        memory_word m k,
        word_number m k (omega (arith, lt, whole)),
        (le, word_small m k mine),
      ),
      (
        memory_word l k,
        word_number l k (omega (arith, lt, whole, alike.size)),
        (still k le (alike.words k lt seen), word_small l k theirs),
      ),
    )

    large : (k : ℕ) → all_marked marks (4 * k) 4 ≡ true → is_kept bound.kept k ≡ false
        → IsLargeWord bound.number m k × IsLargeWord bound.number l k
    large k all seen =
        let quarter : 4 * k / 4 ≡ k = omega arith in
        let at = large_at (4 * k) (each_marked marks (4 * k) 4 (4 * k) all (omega arith) (omega arith))
        (ap (is_kept bound.kept) quarter ∙ seen) in
        large_word k at.0 (subst (λ (j : ℕ). bound.number ≤ memory_word m j) quarter at.1) seen

    small_word : (p : ℕ) → has_mark marks p ≡ false → p < length m
        → memory_word m (p / 4) ≡ memory_word l (p / 4)
    small_word p e lt =
        by (and_cases (nat_lt p (length m)) (is_unseen bound (p / 4) (memory_word m (p / 4))) (sym (are p) ∙ e))
      where
        k : ℕ
        k = p / 4

        below : nat_le bound.number (memory_word m k) ≡ false
            → AlikeFrom bound.number (memory_word m k) (memory_word l k) → memory_word m k ≡ memory_word l k
        below low (inl same) = same
        below low (inr both) =
            let less : memory_word m k < bound.number = leb-false bound.number (memory_word m k) low in
            absurd (omega (arith, less, both.0))

        by : (nat_lt p (length m) ≡ false) ⊎ (is_unseen bound k (memory_word m k) ≡ false)
            → memory_word m k ≡ memory_word l k
        by (inl past) =
            let le : length m ≤ p = ltb-false p (length m) past in absurd (omega (arith, le, lt))
        by (inr unmarked) =
            let parts = or_parts (is_kept bound.kept k) (nat_le bound.number (memory_word m k)) unmarked in
            below parts.1 (alike.words k (omega (arith, lt)) parts.0)

    plain : (p : ℕ) → has_mark marks p ≡ false → slice_get m p ≡ slice_get l p
    plain p e = elim (cases_lt p (length m)) [
      | inl lt ↦
          byte_found m p lt
          ∙ (ap Some (word_bytes m l (p / 4) p mine theirs (small_word p e lt) refl)
          ∙ sym (byte_found l p (omega (arith, lt, alike.size))))
      | inr le ↦ slice_get_past m p le ∙ sym (slice_get_past l p (omega (arith, le, alike.size)))
    ]

-- ---- the entry

plain_registers : (bound : ℕ) (marks : List Bool) (m : FinMap nat_cmp Word) → ((n : ℕ) → has_mark marks n ≡ false)
    → AreSimilarRegisters bound marks m m
plain_registers bound marks m plain n =
    subst (λ (b : Bool). HoldAlike bound b (get m n) (get m n)) (sym (plain n)) refl

pub entry_similar : (bound : Bound) (m : Marks) (env : Setting) (inbox : FinMap nat_cmp ℕ) (before start : List ℕ)
    → length m.registers ≡ 11 → ((n : ℕ) → has_mark m.registers n ≡ false) → AreMarksOf bound m.bytes before
    → length before % 4 ≡ 0 → All (λ byte. byte < 256) before → All (λ byte. byte < 256) start
    → AreAlikeMemories bound before start
    → AreSimilar bound start m (entry env before) (entry (with_inbox env inbox) start)
entry_similar bound m env inbox before start wide plain marks whole mine theirs alike = record {
  frame = record {
    wide = wide;
    slot = refl;
    registers = plain_registers bound.number m.registers _ plain;
    stack = refl;
    kept = refl;
  };
  memory = memories_similar bound m.bytes before start marks whole mine theirs alike;
  sent = refl;
}

-- ---- marks of the entry

pub none_marked : (n j : ℕ) → has_mark (replicate n false) j ≡ false
none_marked zero j = refl
none_marked (suc n) zero = refl
none_marked (suc n) (suc j) = none_marked n j

-- the bytes of word k are marked if it is kept or large
pub marked_next : (bytes : List Bool) (m : List ℕ) (bound : Bound) (k : ℕ) (b : Bool)
    → b ≡ is_unseen bound k (memory_word m k) → 4 * k + 4 ≤ length bytes
    → ((p : ℕ) → p < 4 * k → has_mark bytes p ≡ is_unseen bound (p / 4) (memory_word m (p / 4)))
    → (p : ℕ) → p < 4 * (k + 1)
    → has_mark (with_byte_marks bytes (4 * k) 4 b) p ≡ is_unseen bound (p / 4) (memory_word m (p / 4))
marked_next bytes m bound k b is within before p lt = elim (cases_lt p (4 * k)) [
  | inl below ↦ marks_outside bytes (4 * k) 4 p b (inl below) ∙ before p below
  | inr from ↦
      let at : k ≡ p / 4 = omega (arith, from, lt) in
      marks_inside bytes (4 * k) 4 p b within from (omega (arith, lt))
      ∙ (is ∙ ap (λ (n : ℕ). is_unseen bound n (memory_word m n)) at)
]

-- the bytes after it aren't yet
pub rest_next : (bytes : List Bool) (k : ℕ) (b : Bool) → ((p : ℕ) → 4 * k ≤ p → has_mark bytes p ≡ false)
    → (p : ℕ) → 4 * (k + 1) ≤ p → has_mark (with_byte_marks bytes (4 * k) 4 b) p ≡ false
rest_next bytes k b rest p le =
    marks_outside bytes (4 * k) 4 p b (inr (omega (arith, le))) ∙ rest p (omega (arith, le))
