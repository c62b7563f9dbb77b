-- Formulas of several parts.
use Rattle.std.specs.Prelude.{◌⊎◌, List, [], ◌∷◌}
use Rattle.linear_certificates.specs.Meaning.{Assignment, FormulaHolds}
use Rattle.linear_certificates.specs.declared.data.Formula.{Formula}

abbrev pub AllOf : Assignment → List Formula → Type 0
AllOf v [] = Unit {0}
AllOf v (f ∷ fs) = FormulaHolds v f × AllOf v fs

abbrev pub AnyOf : Assignment → List Formula → Type 0
AnyOf v [] = ⊥
AnyOf v (f ∷ fs) = FormulaHolds v f ⊎ AnyOf v fs
