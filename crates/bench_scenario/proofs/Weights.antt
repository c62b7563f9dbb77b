-- The weights of what stands at pulses.
use Rattle.std.proofs.Common.{◌≡◌, ℕ, zero, suc, ◌+◌, ◌<◌, ◌≤◌, List, [], ◌∷◌, arith, refl, inl, inr}
use Rattle.std.specs.Prelude.{Bool, ◌==◌, if◌then◌else◌, true, false}
use Rattle.std.proofs.lemmas.Bool.Decides.{nat_tests}
use Rattle.std.proofs.lemmas.Bool.{cases_eq}
use Rattle.scenario_text.specs.declared.scenario.Load.{Load}

-- the weight of what stands at a pulse
abbrev pub weight_at : {A : Type 0} → (A → ℕ) → (A → ℕ) → ℕ → List A → ℕ
weight_at pulse weight p [] = 0
weight_at pulse weight p (x ∷ xs) = (if pulse x == p then weight x else 0) + weight_at pulse weight p xs

-- of what stands at the pulses from 1 to n
abbrev pub weight_to : {A : Type 0} → (A → ℕ) → (A → ℕ) → ℕ → List A → ℕ
weight_to pulse weight zero xs = 0
weight_to pulse weight (suc n) xs = weight_to pulse weight n xs + weight_at pulse weight (suc n) xs

abbrev pub weight_of : {A : Type 0} → (A → ℕ) → List A → ℕ
weight_of weight [] = 0
weight_of weight (x ∷ xs) = weight x + weight_of weight xs

abbrev pub once_to : ℕ → ℕ → ℕ → ℕ
once_to pulse weight zero = 0
once_to pulse weight (suc n) = once_to pulse weight n + (if pulse == suc n then weight else 0)

other_once : (pulse n weight : ℕ) → (pulse ≡ n → ⊥) → (if pulse == n then weight else 0) ≡ 0
other_once pulse n weight other = grind (arith, nat_tests)

pub not_yet : (pulse weight n : ℕ) → n < pulse → once_to pulse weight n ≡ 0
not_yet pulse weight zero early = refl
not_yet pulse weight (suc n) early =
    let before = not_yet pulse weight n (omega arith) in
    let here = other_once pulse (suc n) weight (λ same. omega arith) in
    omega arith

at_most_weight : (b : Bool) (weight : ℕ) → (if b then weight else 0) ≤ weight
at_most_weight true weight = omega arith
at_most_weight false weight = omega arith

pub once_at_most : (pulse weight n : ℕ) → once_to pulse weight n ≤ weight
once_at_most pulse weight zero = omega arith
once_at_most pulse weight (suc n) =
    let here = at_most_weight (pulse == suc n) weight in
    let before = once_at_most pulse weight n in
    elim (cases_eq pulse (suc n)) [
      | inl same ↦ let none = not_yet pulse weight n (omega arith) in omega arith
      | inr other ↦ let none = other_once pulse (suc n) weight other in omega arith
    ]

pub first_apart : {A : Type 0} (pulse weight : A → ℕ) (x : A) (xs : List A) (n : ℕ)
    → weight_to pulse weight n (x ∷ xs) ≡ once_to (pulse x) (weight x) n + weight_to pulse weight n xs
first_apart pulse weight x xs zero = refl
first_apart pulse weight x xs (suc n) = let before = first_apart pulse weight x xs n in omega arith

pub each_once : {A : Type 0} (pulse weight : A → ℕ) (xs : List A) (n : ℕ)
    → weight_to pulse weight n xs ≤ weight_of weight xs
each_once pulse weight [] zero = omega arith
each_once pulse weight [] (suc n) = let before = each_once pulse weight [] n in omega arith
each_once pulse weight (x ∷ xs) n =
    let first = once_at_most (pulse x) (weight x) n in
    let rest = each_once pulse weight xs n in
    let apart = first_apart pulse weight x xs n in
    omega arith

abbrev pub load_pulse : Load → ℕ
load_pulse l = l.pulse
