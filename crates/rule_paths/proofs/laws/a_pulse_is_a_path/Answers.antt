use Rattle.rule_paths.proofs.Blocks.{pulse_passes}
use Rattle.rule_paths.proofs.laws.a_pulse_is_a_path.Goals as goal

pub returns : goal.returns
returns c = pulse_passes
