use Rattle.std.proofs.Common.{subst}
use Rattle.rule_paths.specs.Relations.{Expression, IsEqual}
use Rattle.rule_formulas.specs.Numbers.{expression, integers, Implies}
use Rattle.rule_formulas.proofs.terms.side.Goals as goal

pub returns : goal.returns
returns c p g hp hy v h =
    let i = integers v in
    let same : Implies (IsEqual (expression c.args.r) g.number) c.in_ok-same.same =
    subst (λ (e : Expression). Implies (IsEqual (expression c.args.r) e) c.in_ok-same.same) hy.number c.in_ok-same.ensures in
    c.in_ok-both.ensures i (hp v h.0) (c.in_ok-made.ensures i (hy.facts v h.1.0) (same v h.1.1))
