use Rattle.bpf_insn.proofs.ResultLaws.{swap_again}
use Rattle.bpf_insn.proofs.arithmetic_laws.swap_twice.Goals as goal

pub returns : goal.returns
returns c = swap_again
