use Rattle.bpf_insn.proofs.ResultLaws.{alu_low, holds_low}
use Rattle.bpf_insn.proofs.arithmetic_laws.low_bits_decide.Goals as goal

pub returns : goal.returns
returns c = record { alu = alu_low; holds = holds_low }
