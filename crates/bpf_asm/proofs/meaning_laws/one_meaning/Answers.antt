use Rattle.bpf_asm.proofs.CanonicalLaws.{one_meaning}
use Rattle.bpf_asm.proofs.meaning_laws.one_meaning.Goals as goal

pub returns : goal.returns
returns c = one_meaning
