-- What formulas say of the integers.
use Rattle.std.specs.Prelude.{ℕ, ℤ, pos, ◌+ℤ◌, ◌*ℤ◌, ◌≤ℤ◌, ◌⊎◌, List, [], ◌∷◌}
use Rattle.linear_certificates.specs.declared.data.Term.{Term}
use Rattle.linear_certificates.specs.declared.data.Linear.{Linear}
use Rattle.linear_certificates.specs.declared.data.Formula.{Formula}
use Rattle.linear_certificates.specs.declared.data.Formula.TheVariants.{Atom, Both', Either'}

-- the integer of each variable
abbrev pub Assignment : Type 0
Assignment = ℕ → ℤ

abbrev pub terms_value : Assignment → List Term → ℤ
terms_value v [] = pos 0
terms_value v (t ∷ ts) = t.coefficient *ℤ v t.variable +ℤ terms_value v ts

abbrev pub linear_value : Assignment → Linear → ℤ
linear_value v l = terms_value v l.terms.items +ℤ l.constant

abbrev pub FormulaHolds : Assignment → Formula → Type 0
FormulaHolds v (Atom l) = linear_value v l ≤ℤ pos 0
FormulaHolds v (Both' p a q b) = FormulaHolds v a × FormulaHolds v b
FormulaHolds v (Either' p a q b) = FormulaHolds v a ⊎ FormulaHolds v b

-- no integers make it hold
abbrev pub HasNoSolution : Formula → Type 0
HasNoSolution f = (v : Assignment) → FormulaHolds v f → ⊥
