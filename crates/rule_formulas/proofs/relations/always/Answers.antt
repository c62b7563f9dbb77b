use Rattle.std.proofs.lemmas.Result.{IfOk-weaker}
use Rattle.std.proofs.Common.{arith}
use Rattle.rule_formulas.proofs.relations.always.Goals as goal

pub returns : goal.returns
returns c = IfOk-weaker c.at_most.result _ _ (λ f says r v h. says v (omega arith)) c.at_most.ensures
