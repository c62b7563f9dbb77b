use Rattle.bpf_asm.proofs.StatementLemmas.{source_read}
use Rattle.bpf_asm.proofs.statements.source_of.Goals as goal

pub returns : goal.returns
returns c =
    source_read c.args.text.now _ _ _ _ c.split_front.ensures.rest c.split_front-2.ensures.front
    c.split_front-2.ensures.rest c.source_behind.ensures
