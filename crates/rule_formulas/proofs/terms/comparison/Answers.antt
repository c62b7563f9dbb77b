use Rattle.std.proofs.Common.{refl, subst}
use Rattle.rule_paths.specs.Relations.{Expression}
use Rattle.rule_paths.specs.Paths as paths
use Rattle.rule_nodes.specs.Code.{opposite}
use Rattle.rule_syntax.specs.declared.syntax.Comparison.{Comparison}
use Rattle.linear_certificates.specs.declared.data.Formula.{Formula}
use Rattle.rule_formulas.specs.Numbers.{expression, integers, Implies}
use Rattle.rule_formulas.proofs.terms.comparison.Goals as goal

pub returns : goal.returns
returns c f g hx hy =
    let said : (r : Comparison) (m : Formula) → Implies (paths.compared r (expression c.args.x.number) (expression c.args.y.number)) m
    → Implies (paths.compared r f.number g.number) m =
    λ r m h. subst (λ (e : Expression). Implies (paths.compared r e g.number) m) hx.number
    (subst (λ (e : Expression). Implies (paths.compared r (expression c.args.x.number) e) m) hy.number h) in
    record {
      facts = λ v h. c.in_ok-facts.ensures (integers v) (hx.facts v h.0) (hy.facts v h.1);
      what = (
        paths.compared c.args.c f.number g.number,
        paths.compared (opposite c.args.c) f.number g.number,
        refl,
        said c.args.c c.in_ok-holds.holds c.in_ok-holds.ensures,
        said (opposite c.args.c) c.in_ok-fails.fails
            (subst (λ (r : Comparison). Implies (paths.compared r (expression c.args.x.number) (expression c.args.y.number)) c.in_ok-fails.fails) c.opposite_of.ensures c.in_ok-fails.ensures),
      );
      next = hy.next;
    }
