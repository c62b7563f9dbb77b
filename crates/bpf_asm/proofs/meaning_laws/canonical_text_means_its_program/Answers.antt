use Rattle.bpf_asm.proofs.CanonicalLaws.{canonical_means}
use Rattle.bpf_asm.proofs.meaning_laws.canonical_text_means_its_program.Goals as goal

pub returns : goal.returns
returns c = canonical_means
