use Rattle.std.proofs.Common.{◌⊎◌, length}
use Rattle.linear_certificates.specs.Meaning.{Assignment, FormulaHolds}
use Rattle.linear_certificates.specs.Parts.{AnyOf}
use Rattle.linear_certificates.proofs.building.any_of.Given as goal

-- the parts that are left, and those that are joined
abbrev pub invariant-loop-part : goal.invariant-loop-part
invariant-loop-part l = (v : Assignment) → AnyOf v l.fn.parts.items → AnyOf v l.parts.items ⊎ FormulaHolds v l.joined

abbrev pub decreases-loop-part : goal.decreases-loop-part
decreases-loop-part l = length l.parts.items
