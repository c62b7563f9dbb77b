-- A list of parts and its last one.
use Rattle.std.proofs.Common.{◌≡◌, ◌⊎◌, inl, inr, List, [], ◌∷◌, ◌++◌, length, arith}
use Rattle.linear_certificates.specs.Meaning.{Assignment, FormulaHolds}
use Rattle.linear_certificates.specs.Parts.{AllOf, AnyOf}
use Rattle.linear_certificates.specs.declared.data.Formula.{Formula}

pub AllOf-append : (v : Assignment) (fs : List Formula) (g : Formula) → AllOf v (fs ++ g ∷ []) → AllOf v fs × FormulaHolds v g
AllOf-append v [] g h = (tt, h.0)
AllOf-append v (f ∷ fs) g h = let rest = AllOf-append v fs g h.1 in ((h.0, rest.0), rest.1)

pub AnyOf-append : (v : Assignment) (fs : List Formula) (g : Formula) → AnyOf v (fs ++ g ∷ []) → AnyOf v fs ⊎ FormulaHolds v g
AnyOf-append v [] g (inl h) = inr h
AnyOf-append v [] g (inr h) = absurd h
AnyOf-append v (f ∷ fs) g (inl h) = inl (inl h)
AnyOf-append v (f ∷ fs) g (inr h) = elim (AnyOf-append v fs g h) [ inl k ↦ inl (inr k) | inr k ↦ inr k ]

pub no_part : (v : Assignment) (fs : List Formula) → length fs ≡ 0 → AnyOf v fs → ⊥
no_part v [] e h = h
no_part v (f ∷ fs) e h = omega arith
