use Rattle.bpf_insn.proofs.ImageLaws as laws
use Rattle.bpf_insn.proofs.laws.one_spelling.Goals as goal

pub returns : goal.returns
returns c = laws.one_spelling
