use Rattle.bpf_insn.proofs.ResultLaws.{least_quotient, least_remainder}
use Rattle.bpf_insn.proofs.arithmetic_laws.least_by_minus_one.Goals as goal

pub returns : goal.returns
returns c = record { quotient = least_quotient; remainder = least_remainder }
