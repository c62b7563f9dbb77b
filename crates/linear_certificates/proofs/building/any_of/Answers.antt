use Rattle.std.proofs.Common.{◌≡◌, inl, inr, subst, sym, length, rules}
use Rattle.linear_certificates.specs.Meaning.{FormulaHolds}
use Rattle.linear_certificates.specs.Parts.{AnyOf}
use Rattle.linear_certificates.proofs.PartLists.{AnyOf-append, no_part}
use Rattle.linear_certificates.proofs.Either.{either_along, neither_of}
use Rattle.linear_certificates.proofs.building.any_of.Goals as goal

pub loop-part-init : goal.loop-part-init
loop-part-init c v some = AnyOf-append v c.pop.new.self.items c.in-Some.joined (subst (AnyOf v) c.in-Some.ensures.items some)

pub loop-part-preserved : goal.loop-part-preserved
loop-part-preserved c v some =
    neither_of
    (λ left. either_along (λ h. h) (λ h. inl (subst (FormulaHolds v) (sym c.in_ok-new.ensures.ok) h)) (AnyOf-append v c.pop-in-loop-part.new.self.items c.in-Some-pop.part (subst (AnyOf v) c.in-Some-pop.ensures.items left)))
    (λ h. inr (inr (subst (FormulaHolds v) (sym c.in_ok-new-2.ensures.ok) h)))
    (c.loop-part.invariant v some)

pub returns : goal.returns
returns c v some =
    let none : length c.loop-part.parts.items ≡ 0 = search rules in
    neither_of (λ left. absurd (no_part v c.loop-part.parts.items none left)) (λ h. h) (c.loop-part.invariant v some)
