use Rattle.std.proofs.Common.{◌∙◌, ◌∷◌, ap, sym}
use Rattle.bpf_asm.specs.Operands.{operands_by, parts_of}
use Rattle.bpf_asm.proofs.OperandLemmas.{behind_mark, parts_from_second}
use Rattle.bpf_asm.proofs.operands.parts_behind.Goals as goal

pub returns-in_default-Some : goal.returns-in_default-Some
returns-in_default-Some c =
    parts_from_second c.args.a.now c.args.text.now c.first_piece.result.0.now c.in_default-Some.rest.now
    (behind_mark 44 c.args.text.now c.first_piece.result.0.now c.first_piece.result.1 c.in_default-Some.rest
    c.first_piece.ensures.pieces c.in_default-Some.is-1)
    ∙ ap (λ l. operands_by (c.args.a.now ∷ l ∷ parts_of c.in_default-Some.rest.now))
    (sym c.trimmed-in_default-Some.ensures)
    ∙ ap (λ r. operands_by (c.args.a.now ∷ c.trimmed-in_default-Some.result.now ∷ parts_of r.now))
    (sym c.in_default-Some.rest-is)
    ∙ c.parts_behind_two.ensures
