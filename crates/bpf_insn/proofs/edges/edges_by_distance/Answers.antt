use Rattle.bpf_insn.proofs.EdgeLaws.{jumps_by_distance, no_distance_no_jump, others_go_on}
use Rattle.bpf_insn.proofs.edges.edges_by_distance.Goals as goal

pub returns : goal.returns
returns c = record { jumping = jumps_by_distance; no_jump = no_distance_no_jump; onward = others_go_on }
