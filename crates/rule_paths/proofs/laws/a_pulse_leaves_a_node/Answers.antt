use Rattle.rule_paths.proofs.Kept.{left}
use Rattle.rule_paths.proofs.laws.a_pulse_leaves_a_node.Goals as goal

pub returns : goal.returns
returns c = left
