use Rattle.bpf_insn.proofs.ResultLaws.{alu_fits, neg_fits, movsx_fits, swap_fits}
use Rattle.bpf_insn.proofs.arithmetic_laws.results_fit.Goals as goal

pub returns : goal.returns
returns c = record { alu = alu_fits; neg = neg_fits; movsx = movsx_fits; swap = swap_fits }
