-- Longest spans: which numbers they have, and how many.
use Rattle.std.proofs.Common.{◌≡◌, ◌⊎◌, ◌↔◌, ◌+◌, ◌-◌, ◌<◌, ◌≤◌, ℕ, List, [], ◌∷◌, length, ◌≢◌}
use Rattle.std.proofs.Common.{Any, Contains, take, subst, fold, get_or, set, zero, suc, ◌++◌, arith, eq-eqb, ne_eqb}
use Rattle.std.proofs.Common.{inl, inr, ⊎_elim, refl, sym, ap, ◌∙◌}
use Rattle.std.proofs.lemmas.Bool.{cases_eq}
use Rattle.std.proofs.lemmas.List.{take_more}
use Rattle.command_line.proofs.NumberLemmas.{map_push}
use Rattle.explored.specs.declared.options.ByteSpan.{ByteSpan}
use Rattle.explored.specs.declared.options.MailSpan.{MailSpan}
use Rattle.std.specs.List.{AllByRecursion}
use Rattle.std.specs.List.Sorted.{IsStrictlySortedBy}
use Rattle.std.specs.Ordering.{nat_cmp}
use Rattle.std.specs.declared.cmp.Ordering.TheVariants.{Less}
use Rattle.std.proofs.lemmas.Bool.Decides.{nat_tests, eqb_tells}
use Rattle.command_line.proofs.Among.{Among, any-among, among-any, contains-among, among-contains}
use Rattle.command_line.specs.Lists.{IsInSpan, AreLongest, byte_spans, span_length, mail_spans}
use Rattle.command_line.specs.inner.Spans.{with_span_number}

-- every span ends below the number
abbrev pub Below : List (ℕ × ℕ) → ℕ → Type 0
Below [] n = Unit {0}
Below (span ∷ more) n = (span.1 < n) × Below more n

pub below_more : (spans : List (ℕ × ℕ)) (m n : ℕ) → m ≤ n → Below spans m → Below spans n
below_more [] m n le h = tt
below_more (span ∷ more) m n le h = (omega arith, below_more more m n le h.1)

-- how many numbers there are, by recursion
pub size : List (ℕ × ℕ) → ℕ
size [] = 0
size (span ∷ more) = (span.1 + 1 - span.0) + size more

size_none : size [] ≡ 0
unfolding size
size_none = refl

fold_size : (spans : List (ℕ × ℕ)) (n : ℕ) → fold (λ a span. a + (span.1 + 1 - span.0)) n spans ≡ n + size spans
unfolding size
fold_size [] n = omega arith
fold_size (span ∷ more) n = omega (arith, fold_size more (n + (span.1 + 1 - span.0)))

-- ---- one more number

-- it joins the last span, or is one of its own
last : (P : List (ℕ × ℕ) → Type 0) (span : ℕ × ℕ) (n : ℕ)
    → (span.1 + 1 ≡ n → P ((span.0, n) ∷ [])) → (span.1 + 1 ≢ n → P (span ∷ (n, n) ∷ []))
    → P (with_span_number (span ∷ []) n)
last P span n same other =
    ⊎_elim (λ yes. rw yes.0 (same yes.1)) (λ no. rw no.0 (other no.1)) (eqb_tells (span.1 + 1) n)

pub with_below : (spans : List (ℕ × ℕ)) (n : ℕ) → Below spans n → Below (with_span_number spans n) (n + 1)
with_below [] n h = (omega arith, tt)
with_below (span ∷ []) n h = last (λ spans. Below spans (n + 1)) span n
    (λ same. (omega arith, tt)) (λ other. (omega arith, (omega arith, tt)))
with_below (span ∷ next ∷ more) n h = (omega arith, with_below (next ∷ more) n h.1)

-- a span before longest spans
precedes : (span next : ℕ × ℕ) (more : List (ℕ × ℕ)) (n : ℕ) → span.0 ≤ span.1 → span.1 + 1 < next.0
    → AreLongest (with_span_number (next ∷ more) n) → AreLongest (span ∷ with_span_number (next ∷ more) n)
precedes span next [] n rises apart = last
    (λ spans. AreLongest spans → AreLongest (span ∷ spans)) next n
    (λ same h. (rises, apart, h)) (λ other h. (rises, apart, h))
precedes span next (other ∷ more) n rises apart = λ h. (rises, apart, h)

pub with_longest : (spans : List (ℕ × ℕ)) (n : ℕ) → AreLongest spans → Below spans n
    → AreLongest (with_span_number spans n)
with_longest [] n h below = omega arith
with_longest (span ∷ []) n h below = last AreLongest span n
    (λ same. omega arith) (λ other. (h, omega arith, omega arith))
with_longest (span ∷ next ∷ more) n h below =
    precedes span next more n h.0 h.1 (with_longest (next ∷ more) n h.2 below.1)

pub with_size : (spans : List (ℕ × ℕ)) (n : ℕ) → AreLongest spans → size (with_span_number spans n) ≡ size spans + 1
unfolding size
with_size [] n h = omega arith
with_size (span ∷ []) n h = last (λ spans. size spans ≡ (span.1 + 1 - span.0) + 0 + 1) span n
    (λ same. omega arith) (λ other. omega arith)
with_size (span ∷ next ∷ more) n h = omega (arith, with_size (next ∷ more) n h.2)

pub with_among : (spans : List (ℕ × ℕ)) (n m : ℕ) → AreLongest spans
    → Among (IsInSpan m) (with_span_number spans n) → Among (IsInSpan m) spans ⊎ (m ≡ n)
with_among [] n m h = λ p. ⊎_elim (λ w. inr (omega arith)) (λ none. elim none [ ]) p
with_among (span ∷ []) n m h =
    last (λ spans. Among (IsInSpan m) spans → Among (IsInSpan m) (span ∷ []) ⊎ (m ≡ n)) span n
    (λ same p. ⊎_elim
    (λ w. ⊎_elim (λ e. inr e) (λ ne. inl (inl (w.0, omega arith))) (cases_eq m n))
    (λ none. elim none [ ]) p)
    (λ other p. ⊎_elim (λ w. inl (inl w))
    (λ later. ⊎_elim (λ w. inr (omega arith)) (λ none. elim none [ ]) later) p)
with_among (span ∷ next ∷ more) n m h = λ p. ⊎_elim (λ w. inl (inl w))
    (λ later. ⊎_elim (λ a. inl (inr a)) (λ e. inr e) (with_among (next ∷ more) n m h.2 later)) p

pub among_with : (spans : List (ℕ × ℕ)) (n m : ℕ) → AreLongest spans
    → Among (IsInSpan m) spans ⊎ (m ≡ n) → Among (IsInSpan m) (with_span_number spans n)
among_with [] n m h = λ p. ⊎_elim (λ none. elim none [ ]) (λ e. inl (omega arith, omega arith)) p
among_with (span ∷ []) n m h =
    last (λ spans. Among (IsInSpan m) (span ∷ []) ⊎ (m ≡ n) → Among (IsInSpan m) spans) span n
    (λ same p. inl (⊎_elim (λ a. ⊎_elim (λ w. (w.0, omega arith)) (λ none. elim none [ ]) a)
    (λ e. (omega arith, omega arith)) p))
    (λ other p. ⊎_elim (λ a. ⊎_elim (λ w. inl w) (λ none. elim none [ ]) a)
    (λ e. inr (inl (omega arith, omega arith))) p)
among_with (span ∷ next ∷ more) n m h = λ p. ⊎_elim
    (λ a. ⊎_elim (λ w. inl w) (λ later. inr (among_with (next ∷ more) n m h.2 (inl later))) a)
    (λ e. inr (among_with (next ∷ more) n m h.2 (inr e))) p

-- ---- all numbers of a list that rises

below_first : (n : ℕ) (more : List ℕ) (spans : List (ℕ × ℕ)) → AllByRecursion (λ m. nat_cmp n m ≡ Less) more
    → Below spans (n + 1) → AllByRecursion (λ m. Below spans m) more
below_first n [] spans h below = tt
below_first n (m ∷ more) spans h below =
    let is : nat_cmp n m ≡ Less = h.0 in
    let less : n < m = grind (arith, nat_tests) in
    (below_more spans (n + 1) m (omega arith) below, below_first n more spans h.1 below)

-- the spans of rising numbers, after those of others that all of them exceed
pub record Grows (spans : List (ℕ × ℕ)) (numbers : List ℕ) : Type 0 where
  pub longest : AreLongest (fold with_span_number spans numbers)
  pub size_is : size (fold with_span_number spans numbers) ≡ size spans + length numbers
  pub among : (m : ℕ) → Among (IsInSpan m) (fold with_span_number spans numbers)
      → Among (IsInSpan m) spans ⊎ Among (λ n. n ≡ m) numbers
  pub within : (m : ℕ) → Among (IsInSpan m) spans ⊎ Among (λ n. n ≡ m) numbers
      → Among (IsInSpan m) (fold with_span_number spans numbers)

pub grows : (spans : List (ℕ × ℕ)) (numbers : List ℕ) → AreLongest spans
    → AllByRecursion (λ n. Below spans n) numbers → IsStrictlySortedBy nat_cmp numbers → Grows spans numbers
unfolding IsStrictlySortedBy
grows spans [] h below sorted = record {
  longest = h;
  size_is = omega arith;
  among = λ m a. inl a;
  within = λ m a. ⊎_elim (λ w. w) (λ none. elim none [ ]) a;
}
grows spans (n ∷ more) h below sorted =
    let rest = grows (with_span_number spans n) more (with_longest spans n h below.0)
    (below_first n more (with_span_number spans n) sorted.0 (with_below spans n below.0)) sorted.1 in
    record {
      longest = rest.longest;
      size_is = omega (arith, rest.size_is, with_size spans n h);
      among = λ m a. ⊎_elim
          (λ w. ⊎_elim (λ old. inl old) (λ e. inr (inl (sym e))) (with_among spans n m h w))
          (λ later. inr (inr later)) (rest.among m a);
      within = λ m a. rest.within m (⊎_elim
          (λ old. inl (among_with spans n m h (inl old)))
          (λ b. ⊎_elim (λ e. inl (among_with spans n m h (inr (sym e)))) (λ later. inr later) b) a);
    }

-- ---- the last span of a list

pub joined : (xs : List MailSpan) (i n : ℕ) (span : MailSpan) → i + 1 ≡ length xs → get_or xs i span ≡ span
    → span.last + 1 ≡ n
    → mail_spans (set xs i (record { first = span.first; last = n })) ≡ with_span_number (mail_spans xs) n
joined [] i n span l is next = absurd (omega arith)
joined (x ∷ []) zero n span l is next =
    let same : x.last + 1 ≡ n = ap (λ s. s.last + 1) is ∙ next in
    rw (eq-eqb (x.last + 1) n same) (ap (λ s. (s.first, n) ∷ []) (sym is))
joined (x ∷ []) (suc i) n span l is next = absurd (omega arith)
joined (x ∷ y ∷ more) zero n span l is next = absurd (omega arith)
joined (x ∷ y ∷ more) (suc i) n span l is next =
    ap (λ rest. (x.first, x.last) ∷ rest) (joined (y ∷ more) i n span (omega arith) is next)

pub apart : (xs : List MailSpan) (i n : ℕ) (span : MailSpan) → i + 1 ≡ length xs → get_or xs i span ≡ span
    → span.last + 1 ≢ n
    → mail_spans (xs ++ record { first = n; last = n } ∷ []) ≡ with_span_number (mail_spans xs) n
apart [] i n span l is other = absurd (omega arith)
apart (x ∷ []) zero n span l is other =
    rw (ne_eqb (x.last + 1) n (λ same. other (ap (λ s. s.last + 1) (sym is) ∙ same))) refl
apart (x ∷ []) (suc i) n span l is other = absurd (omega arith)
apart (x ∷ y ∷ more) zero n span l is other = absurd (omega arith)
apart (x ∷ y ∷ more) (suc i) n span l is other =
    ap (λ rest. (x.first, x.last) ∷ rest) (apart (y ∷ more) i n span (omega arith) is other)

pub alone : (xs : List MailSpan) (n : ℕ) → length xs ≡ 0
    → mail_spans (xs ++ record { first = n; last = n } ∷ []) ≡ with_span_number (mail_spans xs) n
alone [] n none = refl
alone (x ∷ xs) n none = absurd (omega arith)

-- ---- the spans of rising numbers

below_none : (numbers : List ℕ) → AllByRecursion (λ n. Below [] n) numbers
below_none [] = tt
below_none (n ∷ more) = (tt, below_none more)

-- what spans that were made one number after another have
module _ (spans : List (ℕ × ℕ)) (numbers : List ℕ) (made : spans ≡ fold with_span_number [] numbers)
    (sorted : IsStrictlySortedBy nat_cmp numbers) where
  all_grow : Grows [] numbers
  all_grow = grows [] numbers tt (below_none numbers) sorted

  pub made_longest : AreLongest spans
  made_longest = subst AreLongest (sym made) all_grow.longest

  pub made_count : span_length spans ≡ length numbers
  made_count = omega (arith, fold_size spans 0, ap size made, all_grow.size_is, size_none)

  pub made_numbers : (n : ℕ) → Any (IsInSpan n) spans ↔ Contains numbers n
  made_numbers n = (
    (λ h. contains-among numbers n (⊎_elim (λ none. elim none [ ]) (λ a. a)
        (all_grow.among n (subst (Among (IsInSpan n)) made (among-any (IsInSpan n) spans h))))),
    (λ h. any-among (IsInSpan n) spans (subst (Among (IsInSpan n)) (sym made)
        (all_grow.within n (inr (among-contains numbers n h))))),
  )

-- ---- spans of bytes

pub narrow_more : (wide : List MailSpan) (i : ℕ) (old new : List ByteSpan) (narrow : ByteSpan) (d : MailSpan)
    → i < length wide → byte_spans old ≡ mail_spans (take i wide) → new ≡ old ++ narrow ∷ []
    → (narrow.first ≡ (get_or wide i d).first) × (narrow.last ≡ (get_or wide i d).last)
    → byte_spans new ≡ mail_spans (take (i + 1) wide)
narrow_more wide i old new narrow d inside same made is =
    ap byte_spans made ∙ map_push (λ span. (span.first, span.last)) old narrow
    ∙ (λ k. same k ++ (is.0 k, is.1 k) ∷ [])
    ∙ sym (map_push (λ span. (span.first, span.last)) (take i wide) (get_or wide i d))
    ∙ ap mail_spans (sym (take_more wide i d inside))
