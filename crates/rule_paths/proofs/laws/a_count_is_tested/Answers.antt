use Rattle.rule_paths.proofs.Blocks.{count_tested}
use Rattle.rule_paths.proofs.laws.a_count_is_tested.Goals as goal

pub returns : goal.returns
returns c = count_tested
