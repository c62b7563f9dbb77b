-- The passes of a new bench.
use Rattle.std.proofs.Common.{◌≡◌, ◌+◌, ℕ, zero, suc, List, [], ◌∷◌, ◌++◌, length, Some, sym, ap, ◌∙◌, subst, arith}
use Rattle.std.specs.Prelude.{slice_get}
use Rattle.bench_shared.specs.Passes.{LoaderView, AreNew}

pub are_new-none : AreNew []
unfolding AreNew
are_new-none k pass at = absurd (cc)

-- pass k of these, numbered from n, is one of the new passes
one_of : (n : ℕ) (xs : List LoaderView) (x : LoaderView) (k : ℕ) (pass : LoaderView)
    → ((j : ℕ) (p : LoaderView) → slice_get xs j ≡ Some p → (p.number ≡ n + j) × (p.receipts ≡ []))
    → x.number ≡ n + length xs → x.receipts ≡ [] → slice_get (xs ++ x ∷ []) k ≡ Some pass
    → (pass.number ≡ n + k) × (pass.receipts ≡ [])
one_of n [] x zero pass old number none at = let same : x ≡ pass = cc in
    subst (λ (p : LoaderView). (p.number ≡ n + 0) × (p.receipts ≡ [])) same (number, none)
one_of n [] x (suc k) pass old number none at = absurd (cc)
one_of n (y ∷ ys) x zero pass old number none at = old 0 pass at
one_of n (y ∷ ys) x (suc k) pass old number none at =
    let rest = one_of (n + 1) ys x k pass (λ j p is. let e = old (suc j) p is in (e.0 ∙ omega arith, e.1))
    (number ∙ omega arith) none at in
    (rest.0 ∙ omega arith, rest.1)

pub are_new-push : (xs : List LoaderView) (x : LoaderView) (now : List LoaderView) → now ≡ xs ++ x ∷ [] → AreNew xs
    → x.number ≡ length xs → x.receipts ≡ [] → AreNew now
unfolding AreNew
are_new-push xs x now is old number none k pass at =
    let e = one_of 0 xs x k pass (λ j p here. let o = old j p here in (o.0 ∙ omega arith, o.1))
    (number ∙ omega arith) none (ap (λ l. slice_get l k) (sym is) ∙ at) in
    (e.0 ∙ omega arith, e.1)
