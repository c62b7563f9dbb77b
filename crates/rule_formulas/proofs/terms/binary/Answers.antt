use Rattle.std.proofs.Common.{sym, subst}
use Rattle.std.specs.Prelude.{IfOk}
use Rattle.rule_syntax.specs.declared.syntax.Operator.{Operator}
use Rattle.rule_paths.specs.Paths as paths
use Rattle.rule_formulas.specs.Forms.{IsFormed, IsValued}
use Rattle.rule_formulas.proofs.terms.binary.Goals as goal

pub returns-in-Compute : goal.returns-in-Compute
returns-in-Compute c =
    subst (λ (o : Operator). IfOk c.operation.result (λ m. (f g : paths.Numbered) → IsValued c.args.x f → IsValued c.args.y g
    → IsFormed m (paths.operated o f g))) (sym c.in-Compute.is) c.operation.ensures
