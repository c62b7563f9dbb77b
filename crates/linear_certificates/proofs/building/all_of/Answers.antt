use Rattle.std.proofs.Common.{subst, sym}
use Rattle.linear_certificates.specs.Meaning.{FormulaHolds}
use Rattle.linear_certificates.specs.Parts.{AllOf}
use Rattle.linear_certificates.proofs.PartLists.{AllOf-append}
use Rattle.linear_certificates.proofs.building.all_of.Goals as goal

pub loop-part-init : goal.loop-part-init
loop-part-init c v all = AllOf-append v c.pop.new.self.items c.in-Some.joined (subst (AllOf v) c.in-Some.ensures.items all)

pub loop-part-preserved : goal.loop-part-preserved
loop-part-preserved c v all =
    let before = c.loop-part.invariant v all in
    let parts = AllOf-append v c.pop-in-loop-part.new.self.items c.in-Some-pop.part (subst (AllOf v) c.in-Some-pop.ensures.items before.0) in
    (parts.0, (subst (FormulaHolds v) (sym c.in_ok-new.ensures.ok) parts.1, subst (FormulaHolds v) (sym c.in_ok-new-2.ensures.ok) before.1))

pub returns : goal.returns
returns c v all = (c.loop-part.invariant v all).1
