-- Some element of a list, by recursion.
use Rattle.std.proofs.Common.{◌≡◌, ◌⊎◌, ℕ, zero, suc, List, [], ◌∷◌, ◌++◌}
use Rattle.std.proofs.Common.{Any, Contains, get_or, arith, inl, inr, ⊎_elim, refl, sym, subst}

abbrev pub Among : {X : Type 0} → (X → Type 0) → List X → Type 0
Among P [] = ⊥
Among P (x ∷ xs) = P x ⊎ Among P xs

pub any-among : {X : Type 0} (P : X → Type 0) (xs : List X) → Among P xs → Any P xs
any-among P [] h = elim h [ ]
any-among P (x ∷ xs) (inl p) = (0, x, omega arith, refl, p)
any-among P (x ∷ xs) (inr h) =
    let r = any-among P xs h in (suc r.0, r.1, omega arith, r.3, r.4)

pub among-any : {X : Type 0} (P : X → Type 0) (xs : List X) → Any P xs → Among P xs
among-any P [] (k, x, l, e, p) = absurd (omega arith)
among-any P (y ∷ ys) (zero, x, l, e, p) = inl (subst P (sym e) p)
among-any P (y ∷ ys) (suc k, x, l, e, p) = inr (among-any P ys (k, x, omega arith, e, p))

pub contains-among : (xs : List ℕ) (n : ℕ) → Among (λ x. x ≡ n) xs → Contains xs n
contains-among xs n h =
    let r = any-among (λ x. x ≡ n) xs h in (r.0, r.2, subst (λ x. get_or xs r.0 x ≡ x) r.4 r.3)

pub among-contains : (xs : List ℕ) (n : ℕ) → Contains xs n → Among (λ x. x ≡ n) xs
among-contains xs n (k, l, e) = among-any (λ x. x ≡ n) xs (k, n, l, e, refl)

pub among-push : {X : Type 0} (P : X → Type 0) (xs : List X) (y : X) → Among P (xs ++ y ∷ []) → Among P xs ⊎ P y
among-push P [] y (inl p) = inr p
among-push P [] y (inr h) = elim h [ ]
among-push P (x ∷ xs) y (inl p) = inl (inl p)
among-push P (x ∷ xs) y (inr h) = ⊎_elim (λ a. inl (inr a)) (λ p. inr p) (among-push P xs y h)

pub push-among : {X : Type 0} (P : X → Type 0) (xs : List X) (y : X) → Among P xs ⊎ P y → Among P (xs ++ y ∷ [])
push-among P [] y (inl h) = elim h [ ]
push-among P [] y (inr p) = inl p
push-among P (x ∷ xs) y (inl (inl p)) = inl p
push-among P (x ∷ xs) y (inl (inr h)) = inr (push-among P xs y (inl h))
push-among P (x ∷ xs) y (inr p) = inr (push-among P xs y (inr p))
