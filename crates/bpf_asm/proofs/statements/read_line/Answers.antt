use Rattle.bpf_asm.proofs.StatementLemmas.{line_read}
use Rattle.bpf_asm.proofs.statements.read_line.Goals as goal

pub returns : goal.returns
returns c =
    line_read c.args.text.now _ _ _ _ _ c.without_comment.ensures c.split_front.ensures.rest
    c.split_front-2.ensures.front c.split_front-2.ensures.rest c.line_by.ensures
