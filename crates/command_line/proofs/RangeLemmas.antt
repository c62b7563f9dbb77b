-- A part of a list is one range.
use Rattle.std.proofs.Common.{◌≡◌, ◌≢◌, ◌↔◌, ◌<◌, ◌≤◌, ◌^◌, ℕ, zero, suc, ◌+◌, List, [], ◌∷◌, ◌++◌, get_or, length, codes}
use Rattle.std.proofs.Common.{arith, inl, inr, ⊎_elim, refl, sym, ap, subst, ◌∙◌}
use Rattle.std.specs.Char.{digit_value}
use Rattle.std.specs.Str.Parse.{AllDigits, digits_value}
use Rattle.command_line.specs.Lists.{IsPart, IsRange, IsInSpan, Names}
use Rattle.command_line.specs.inner.Spans.{AddsPart, AddsSpan}

pub no_dot : (a b : List ℕ) → AllDigits 10 (a ++ (46 ∷ b)) → ⊥
no_dot [] b h = absurd (omega (arith, h.0))
no_dot (x ∷ a) b h = no_dot a b h.1

pub dot_is_no_digit : (x : ℕ) → digit_value x < 10 → x ≡ 46 → ⊥
dot_is_no_digit x h e =
    let dot : digit_value 46 < 10 = subst (λ y. digit_value y < 10) e h in absurd (omega (arith, dot))

one_cut : (a c b d : List ℕ) → AllDigits 10 a → AllDigits 10 c → a ++ (46 ∷ b) ≡ c ++ (46 ∷ d) → (a ≡ c) × (b ≡ d)
one_cut [] [] b d left right e = (refl, cc)
one_cut [] (x ∷ c) b d left right e = absurd (dot_is_no_digit x right.0 cc)
one_cut (x ∷ a) [] b d left right e = absurd (dot_is_no_digit x left.0 cc)
one_cut (x ∷ a) (y ∷ c) b d left right e =
    let same = one_cut a c b d left.1 right.1 cc in
    let head : x ≡ y = cc in
    let tail = same.0 in (cc, same.1)

pub one_range : (part : List ℕ) (first last low high : ℕ) → IsRange part first last → IsRange part low high
    → (first ≡ low) × (last ≡ high)
one_range part first last low high (inl p) (inl q) = (sym p.0.1 ∙ q.0.1, sym p.1.1 ∙ q.1.1)
one_range part first last low high (inl p) (inr (a, b, e, q, r)) =
    absurd (no_dot a (46 ∷ b) (subst (AllDigits 10) e p.0.0.1))
one_range part first last low high (inr (a, b, e, p, r)) (inl q) =
    absurd (no_dot a (46 ∷ b) (subst (AllDigits 10) e q.0.0.1))
one_range part first last low high (inr (a, b, e, p, r)) (inr (c, d, f, q, s)) =
    let same = one_cut a c (46 ∷ b) (46 ∷ d) p.0.1 q.0.1 (sym e ∙ f) in
    let rest : b ≡ d = let tails = same.1 in cc in
    (sym p.1 ∙ ap (digits_value 10) same.0 ∙ q.1, sym r.1 ∙ ap (digits_value 10) rest ∙ s.1)

pub names_within : (part : List ℕ) (first last : ℕ) → IsRange part first last → (n : ℕ)
    → Names part n ↔ IsInSpan n (first, last)
names_within part first last range n = (
  (λ h. let same = one_range part h.0 h.1 first last h.2 range in
      let low = h.3 in let high = h.4 in let s = same.0 in let t = same.1 in (omega arith, omega arith)),
  (λ h. (first, last, range, h.0, h.1)),
)

pub adds_part : (part : List ℕ) (first last : ℕ) (old new : List ℕ) → IsRange part first last
    → AddsSpan old new (first, last) → AddsPart old new part
adds_part part first last old new range adds = λ n.
    let same = names_within part first last range n in (
      (λ h. ⊎_elim (λ o. inl o) (λ w. inr (same.1 w)) ((adds n).0 h)),
      (λ h. (adds n).1 (⊎_elim (λ o. inl o) (λ w. inr (same.0 w)) h)),
    )

-- ---- parts that are none

-- a part of one range is a part only if the range doesn't fall and is below the limit
pub part_is : (limit : ℕ) (part : List ℕ) (first last : ℕ) → IsRange part first last → IsPart limit part
    → (first ≤ last) × (last < limit)
part_is limit part first last range (low, high, is) =
    let same = one_range part first last low high range is.range in
    let s = same.0 in let t = same.1 in let rises = is.rises in let below = is.below in (omega arith, omega arith)

-- no byte is a sign of equality
abbrev pub Unequal : List ℕ → Type 0
Unequal [] = Unit {0}
Unequal (x ∷ xs) = (x ≢ 61) × Unequal xs

equals_is_no_digit : (x : ℕ) → digit_value x < 10 → x ≢ 61
equals_is_no_digit x h e =
    let equals : digit_value 61 < 10 = subst (λ y. digit_value y < 10) e h in absurd (omega (arith, equals))

unequal_digits : (xs : List ℕ) → AllDigits 10 xs → Unequal xs
unequal_digits [] h = tt
unequal_digits (x ∷ xs) h = (equals_is_no_digit x h.0, unequal_digits xs h.1)

unequal_append : (xs ys : List ℕ) → Unequal xs → Unequal ys → Unequal (xs ++ ys)
unequal_append [] ys left right = right
unequal_append (x ∷ xs) ys left right = (left.0, unequal_append xs ys left.1 right)

pub unequal_range : (part : List ℕ) (first last : ℕ) → IsRange part first last → Unequal part
unequal_range part first last (inl p) = unequal_digits part p.0.0.1
unequal_range part first last (inr (left, right, e, p, r)) =
    let dots : Unequal (codes ".." ++ right) =
    ((λ e. absurd (omega arith)), ((λ e. absurd (omega arith)), unequal_digits right r.0.1)) in
    subst Unequal (sym e) (unequal_append left (codes ".." ++ right) (unequal_digits left p.0.1) dots)

pub unequal_at : (xs : List ℕ) → Unequal xs → (i : ℕ) → i < length xs → get_or xs i 0 ≢ 61
unequal_at [] h i l = absurd (omega arith)
unequal_at (x ∷ xs) h zero l = h.0
unequal_at (x ∷ xs) h (suc i) l = unequal_at xs h.1 i (omega arith)

pub unequal_cut : (a b : List ℕ) → Unequal (a ++ (61 ∷ b)) → ⊥
unequal_cut [] b h = h.0 refl
unequal_cut (x ∷ a) b h = unequal_cut a b h.1
