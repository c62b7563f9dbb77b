use Rattle.bpf_insn.proofs.EdgeLaws.{begins_first}
use Rattle.bpf_insn.proofs.edges.first_slot_begins.Goals as goal

pub returns : goal.returns
returns c = begins_first
