use Rattle.std.proofs.Common.{◌≤ℤ◌, pos, subst}
use Rattle.linear_certificates.specs.Meaning.{linear_value, FormulaHolds}
use Rattle.linear_certificates.proofs.Integers.{still_at_most}
use Rattle.linear_certificates.proofs.checker.sum_of.Goals as goal

pub loop-multiple-preserved : goal.loop-multiple-preserved
loop-multiple-preserved c v all =
    let atom : linear_value v c.in-Some-Atom.added ≤ℤ pos 0 = subst (FormulaHolds v) c.in-Some-Atom.field-0-is (c.in-Some-Atom.ensures v all) in
    still_at_most _ _ _ _ (c.loop-multiple.invariant v all) atom (c.in_ok-add_multiple-in-Some-Atom.ensures v)
