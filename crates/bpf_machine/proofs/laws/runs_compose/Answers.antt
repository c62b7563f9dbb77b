use Rattle.bpf_machine.proofs.Composed.{leads_add}
use Rattle.bpf_machine.proofs.laws.runs_compose.Goals as goal

pub returns : goal.returns
returns c = leads_add
