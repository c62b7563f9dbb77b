use Rattle.bpf_asm.proofs.OperandLemmas.{behind_mark, more_parts}
use Rattle.bpf_asm.proofs.operands.parts_behind_two.Goals as goal

pub returns-in_default-Some : goal.returns-in_default-Some
returns-in_default-Some c =
    more_parts c.args.a.now c.args.b.now c.args.text.now c.first_piece.result.0.now c.in_default-Some.field-0-1.now
    (behind_mark 44 c.args.text.now c.first_piece.result.0.now c.first_piece.result.1 c.in_default-Some.field-0-1
    c.first_piece.ensures.pieces c.in_default-Some.is-1)
