use Rattle.bpf_insn.proofs.FrontLaws.{length_spelling}
use Rattle.bpf_insn.proofs.ImageLaws.{length-image}
use Rattle.bpf_insn.proofs.laws.spelling_length.Goals as goal

pub returns-clause-spelling : goal.returns-clause-spelling
returns-clause-spelling c = length_spelling

pub returns-clause-image : goal.returns-clause-image
returns-clause-image c = length-image
