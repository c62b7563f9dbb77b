use Rattle.std.proofs.Common.{subst, sym}
use Rattle.std.proofs.lemmas.Result.{IfOk-weaker}
use Rattle.linear_certificates.specs.Meaning.{FormulaHolds}
use Rattle.linear_certificates.proofs.Either.{either_along, neither_of}
use Rattle.linear_certificates.proofs.checker.+checks.Goals as goal

pub closes-returns-in-Some-Both : goal.closes-returns-in-Some-Both
closes-returns-in-Some-Both t c =
    IfOk-weaker c.closes.result _ _ (λ answer closed holds v all.
    let both = subst (FormulaHolds v) c.in-Some-Both.field-0-is (c.in-Some-Both.ensures v all) in
    closed holds v (subst (FormulaHolds v) (sym c.deref-in-Some-Both-2.ensures) both.1, (subst (FormulaHolds v) (sym c.deref-in-Some-Both.ensures) both.0, all))) c.closes.ensures

pub closes-returns-in-Some-Either : goal.closes-returns-in-Some-Either
closes-returns-in-Some-Either t c =
    IfOk-weaker c.neither.result _ _ (λ answer closed holds v all.
    let either = subst (FormulaHolds v) c.in-Some-Either.field-0-is (c.in-Some-Either.ensures v all) in
    closed holds v all (either_along (subst (FormulaHolds v) (sym c.deref-in-Some-Either.ensures)) (subst (FormulaHolds v) (sym c.deref-in-Some-Either-3.ensures)) either)) c.neither.ensures

pub closes-returns-then-branch : goal.closes-returns-then-branch
closes-returns-then-branch t c =
    IfOk-weaker c.neither-then-branch.result _ _ (λ answer closed holds v all.
    closed holds v all (either_along (subst (FormulaHolds v) (sym c.in-Atom-Atom.is-0)) (subst (FormulaHolds v) (sym c.in-Atom-Atom.is-1)) (c.in_ok-covers-in-Atom-Atom.ensures c.if-branch.true v))) c.neither-then-branch.ensures

pub neither-returns-then-branch : goal.neither-returns-then-branch
neither-returns-then-branch t c =
    IfOk-weaker c.closes-then-branch.result _ _ (λ answer closed holds v all.
    neither_of (λ a. c.in_ok-closes.ensures c.if-branch.true v (a, all)) (λ b. closed holds v (b, all))) c.closes-then-branch.ensures
