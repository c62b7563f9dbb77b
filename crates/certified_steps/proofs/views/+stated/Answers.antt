use Rattle.std.proofs.Common.{subst, inl, inr}
use Rattle.rule_paths.specs.Relations.{RelationHolds}
use Rattle.rule_formulas.specs.Numbers.{integers, Implies}
use Rattle.step_searches.specs.declared.claims.Condition.{Condition}
use Rattle.step_searches.specs.Views as views
use Rattle.certified_steps.specs.Views.{view}
use Rattle.certified_steps.proofs.views.+stated.Goals as goal

pub returns-in_ok-both-in-Both : goal.returns-in_ok-both-in-Both
returns-in_ok-both-in-Both t c v h =
    let p = view c.args.p.now in
    let q = view c.args.q.now in
    let whole = subst (λ (k : Condition). RelationHolds v (views.stated p q k)) c.in-Both.is h in
    let first = subst (λ (k : Condition). Implies (views.stated p q k) c.in_ok-first-in-Both.first) c.deref.ensures c.in_ok-first-in-Both.ensures in
    let second = subst (λ (k : Condition). Implies (views.stated p q k) c.in_ok-second-in-Both.second) c.deref-in-Both.ensures c.in_ok-second-in-Both.ensures in
    c.in_ok-both-in-Both.ensures (integers v) (first v whole.0) (second v whole.1)

pub returns-in_ok-either-in-Either : goal.returns-in_ok-either-in-Either
returns-in_ok-either-in-Either t c v h =
    let p = view c.args.p.now in
    let q = view c.args.q.now in
    let whole = subst (λ (k : Condition). RelationHolds v (views.stated p q k)) c.in-Either.is h in
    let first = subst (λ (k : Condition). Implies (views.stated p q k) c.in_ok-first-in-Either.first) c.deref-in-Either.ensures c.in_ok-first-in-Either.ensures in
    let second = subst (λ (k : Condition). Implies (views.stated p q k) c.in_ok-second-in-Either.second) c.deref-in-Either-2.ensures c.in_ok-second-in-Either.ensures in
    c.in_ok-either-in-Either.ensures (integers v) (elim whole [
      | inl x ↦ inl (first v x)
      | inr x ↦ inr (second v x)
    ])
