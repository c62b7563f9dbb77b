use Rattle.std.proofs.Common.{arith}
use Rattle.std.proofs.lemmas.Bool.Decides.{nat_tests}
use Rattle.bpf_asm.proofs.OperandLemmas.{behind_mark, address_goes_on}
use Rattle.bpf_asm.proofs.operands.read_address_behind.Goals as goal

pub returns-else-is_empty : goal.returns-else-is_empty
returns-else-is_empty c =
    address_goes_on c.args.text.now c.first_piece.result.0.now c.in_default-Some.after.now
    (behind_mark 93 c.args.text.now c.first_piece.result.0.now c.first_piece.result.1 c.in_default-Some.after
    c.first_piece.ensures.pieces c.in_default-Some.is-1)
    (grind (arith, nat_tests))
