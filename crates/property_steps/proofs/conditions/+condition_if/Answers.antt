use Rattle.std.proofs.Common.{ap, subst, Option, IfSome, not}
use Rattle.rule_syntax.specs.declared.syntax.Term.{Term}
use Rattle.properties.specs.Pairs.{pair_holds}
use Rattle.step_searches.specs.declared.claims.Condition.{Condition}
use Rattle.property_steps.specs.Steps.{SaysIf}
use Rattle.property_steps.proofs.Joined.{says_found, says_joined, says_not}
use Rattle.property_steps.proofs.conditions.+condition_if.Goals as goal

pub returns-in-Not : goal.returns-in-Not
returns-in-Not t c =
    let h = c.args.holds in
    says_found (not h) h c.deref.result.now c.args.term.now
    (λ made says. says_not h c.in-Not.part.value c.args.term.now made
    (λ z o r. ap (λ (u : Term). pair_holds u z o r) c.in-Not.is)
    (subst (λ (u : Term). SaysIf (not h) u made) c.deref.ensures says))
    c.condition_if.result c.condition_if.ensures

pub returns-in_ok-joined-in-Logical : goal.returns-in_ok-joined-in-Logical
returns-in_ok-joined-in-Logical t c =
    let h = c.args.holds in
    let first = c.in-Some.first in
    let second = c.in-Some-2.second in
    let of_first = subst (λ (f : Option Condition). IfSome f (SaysIf h c.deref-in-Logical.result.now)) c.in-Some.is
    c.in_ok-first-in-Logical.ensures in
    let of_second = subst (λ (f : Option Condition). IfSome f (SaysIf h c.deref-in-Logical-2.result.now)) c.in-Some-2.is
    c.in_ok-second-in-Logical.ensures in
    says_joined h c.in-Logical.connective c.connective_if-connective.result c.in-Logical.a.value c.in-Logical.b.value
    c.args.term.now first second c.in_ok-joined-in-Logical.field-0 c.connective_if-connective.ensures
    (λ z o r. ap (λ (u : Term). pair_holds u z o r) c.in-Logical.is)
    (subst (λ (u : Term). SaysIf h u first) c.deref-in-Logical.ensures of_first)
    (subst (λ (u : Term). SaysIf h u second) c.deref-in-Logical-2.ensures of_second)
    c.in_ok-joined-in-Logical.ensures
