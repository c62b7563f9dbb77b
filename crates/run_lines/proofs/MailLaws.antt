-- Mail is known by what each node sent to each.
use Rattle.std.proofs.Common.{◌≡◌, ℕ, zero, suc, ◌<◌, ◌≤◌, inl, inr, List, [], ◌∷◌, ◌++◌, length, map, arith, ap, refl, sym, subst, ◌∙◌}
use Rattle.std.specs.Prelude.{All, Option, Some, None}
use Rattle.std.specs.Cmp.{nat_cmp_total}
use Rattle.std.specs.FinMap.{FinMap, get, same_map, nat_cmp-IsAntisymmetric}
use Rattle.std.specs.List.{AllByRecursion}
use Rattle.std.specs.Ordering.{nat_cmp}
use Rattle.std.proofs.lemmas.Bool.{cases_lt}
use Rattle.std.proofs.lemmas.List.{map_push}
use Rattle.std.proofs.lemmas.List.Elements.{recursion_from_All}
use Rattle.node_env.specs.Env.{AreNumbers}
use Rattle.bench_scenario.specs.Coins.{places_below}

-- two lists with one more each that are the same
front_same : {A : Type 0} (xs ys : List A) (x y : A) → xs ++ x ∷ [] ≡ ys ++ y ∷ [] → (xs ≡ ys) × (x ≡ y)
front_same [] [] x y same = (refl, cc)
front_same [] (b ∷ []) x y same = absurd cc
front_same [] (b ∷ c ∷ ys) x y same = absurd cc
front_same (a ∷ []) [] x y same = absurd cc
front_same (a ∷ c ∷ xs) [] x y same = absurd cc
front_same (a ∷ xs) (b ∷ ys) x y same =
    let head : a ≡ b = cc in
    let rest : xs ++ x ∷ [] ≡ ys ++ y ∷ [] = cc in
    let both = front_same xs ys x y rest in
    (ap (λ z. z ∷ xs) head ∙ ap (λ zs. b ∷ zs) both.0, both.1)

same_at : {A : Type 0} (f g : ℕ → A) (n k : ℕ) → k < n → map f (places_below n) ≡ map g (places_below n) → f k ≡ g k
same_at f g zero k below same = absurd (omega arith)
same_at f g (suc n) k below same =
    let pushed : map f (places_below n) ++ f n ∷ [] ≡ map g (places_below n) ++ g n ∷ [] =
    sym (map_push f (places_below n) n) ∙ (same ∙ map_push g (places_below n) n) in
    let both = front_same (map f (places_below n)) (map g (places_below n)) (f n) (g n) pushed in
    elim (cases_lt k n) [
      | inl lt ↦ same_at f g n k lt both.0
      | inr ge ↦ let last : n ≡ k = omega (arith, ge, below) in subst (λ i. f i ≡ g i) last both.1
    ]

beyond : (n : ℕ) (row : FinMap nat_cmp ℕ) (q : ℕ) (o : Option ℕ) → AreNumbers n row → n ≤ q → get row q ≡ o → o ≡ None
beyond n row q None numbers past is = refl
beyond n row q (Some v) numbers past is = let low = (numbers q v is).0 in absurd (omega (arith, low, past))

row_same : (n : ℕ) (r s : FinMap nat_cmp ℕ) → AreNumbers n r → AreNumbers n s
    → map (get r) (places_below n) ≡ map (get s) (places_below n) → r ≡ s
row_same n r s first second same = same_map nat_cmp_total nat_cmp-IsAntisymmetric r s (λ q.
    elim (cases_lt q n) [
      | inl lt ↦ same_at (get r) (get s) n q lt same
      | inr ge ↦ beyond n r q (get r q) first ge refl ∙ sym (beyond n s q (get s q) second ge refl)
    ])

abbrev slots_of : ℕ → List (FinMap nat_cmp ℕ) → List (List (Option ℕ))
slots_of n rows = map (λ row. map (get row) (places_below n)) rows

rows_same : (n : ℕ) (rs ss : List (FinMap nat_cmp ℕ)) → AllByRecursion (AreNumbers n) rs
    → AllByRecursion (AreNumbers n) ss → slots_of n rs ≡ slots_of n ss → rs ≡ ss
rows_same n [] [] first second same = refl
rows_same n [] (s ∷ ss) first second same = absurd cc
rows_same n (r ∷ rs) [] first second same = absurd cc
rows_same n (r ∷ rs) (s ∷ ss) first second same =
    let head : map (get r) (places_below n) ≡ map (get s) (places_below n) = cc in
    let rest : slots_of n rs ≡ slots_of n ss = cc in
    ap (λ t. t ∷ rs) (row_same n r s first.0 second.0 head)
    ∙ ap (λ ts. s ∷ ts) (rows_same n rs ss first.1 second.1 rest)

slots_length : (n : ℕ) (rows : List (FinMap nat_cmp ℕ)) → length (slots_of n rows) ≡ length rows
slots_length n [] = refl
slots_length n (row ∷ rows) = ap suc (slots_length n rows)

-- where no number is for a node that isn't there
pub mail_same : (rs ss : List (FinMap nat_cmp ℕ)) → All (AreNumbers (length rs)) rs
    → All (AreNumbers (length ss)) ss → slots_of (length rs) rs ≡ slots_of (length ss) ss → rs ≡ ss
mail_same rs ss first second same =
    let few : length rs ≡ length ss =
    sym (slots_length (length rs) rs) ∙ (ap length same ∙ slots_length (length ss) ss) in
    rows_same (length rs) rs ss (recursion_from_All (AreNumbers (length rs)) rs first)
    (subst (λ n. AllByRecursion (AreNumbers n) ss) (sym few) (recursion_from_All (AreNumbers (length ss)) ss second))
    (same ∙ ap (λ n. slots_of n ss) (sym few))
