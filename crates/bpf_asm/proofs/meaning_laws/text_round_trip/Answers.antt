use Rattle.std.proofs.Common.{subst, sym, ◌∙◌}
use Rattle.bpf_asm.specs.Meaning.{Means}
use Rattle.bpf_asm.proofs.CanonicalLaws.{canonical_means}
use Rattle.bpf_asm.proofs.meaning_laws.text_round_trip.Goals as goal

pub returns : goal.returns
returns c =
    let p = c.args.program.now in
    c.assemble.ensures.only_program p
    (subst (λ text. Means text p) (sym (c.as_bytes.ensures.value ∙ c.in_ok-text.ensures.text))
    (canonical_means p c.in_ok-text.ensures.program))
