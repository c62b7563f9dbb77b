use Rattle.std.proofs.Common.{ℕ, subst}
use Rattle.std.proofs.lemmas.Result.{IfOk-weaker}
use Rattle.rule_paths.specs.Relations.{Expression, Variable, Relation, AllOf}
use Rattle.rule_paths.specs.Paths as paths
use Rattle.rule_formulas.specs.Numbers.{expression, integers, Implies}
use Rattle.rule_formulas.specs.Forms.{IsFormed}
use Rattle.rule_formulas.proofs.terms.operation.Goals as goal

pub returns : goal.returns
returns c =
    IfOk-weaker c.fresh.result _ _ (λ m says f g hx hy.
    let p : Relation = AllOf f.facts g.facts in
    let q : Expression → Relation = paths.computed c.args.op f.number g.number in
    let k = c.args.y.next in
    subst (λ (n : ℕ). IsFormed m (paths.with_fresh p n q)) hy.next
    (says p q
    (λ v h. c.in_ok-facts.ensures (integers v) (hx.facts v h.0) (hy.facts v h.1))
    (subst (λ (e : Expression). Implies (paths.computed c.args.op e g.number (Variable k)) c.in_ok-is.is') hx.number
    (subst (λ (e : Expression). Implies (paths.computed c.args.op (expression c.args.x.number) e (Variable k)) c.in_ok-is.is') hy.number
    c.in_ok-is.ensures)))) c.fresh.ensures
