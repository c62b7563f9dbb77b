use Rattle.bpf_machine.proofs.Ends.{complete_run_leaves}
use Rattle.bpf_machine.proofs.laws.leaves_sound.Goals as goal

pub returns : goal.returns
returns c = complete_run_leaves
