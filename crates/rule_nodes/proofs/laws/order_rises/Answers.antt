use Rattle.rule_nodes.proofs.SortLaws.{order_rises, order_permutes}
use Rattle.rule_nodes.proofs.laws.order_rises.Goals as goal

pub returns-clause-rises : goal.returns-clause-rises
returns-clause-rises c = order_rises

pub returns-clause-same : goal.returns-clause-same
returns-clause-same c = order_permutes
