use Rattle.std.proofs.Common.{◌<◌, ◌∙◌, ◌++◌, ◌+◌, ap, length, sym, arith}
use Rattle.bpf_asm.specs.Listing.{without_empty_end}
use Rattle.bpf_asm.specs.Pieces.{lines_of}
use Rattle.bpf_asm.proofs.ListingLemmas.{next_number, numbers_from, same_slots, shorter_by, shorter_left, some_bytes}
use Rattle.bpf_asm.proofs.listing.instruction_lines.Goals as goal

pub loop-rest-preserved : goal.loop-rest-preserved
loop-rest-preserved c =
    let some = some_bytes c.loop-rest.rest.now _ c.is_empty.ensures c.loop-rest-test.true in
    let behind = c.first_piece.result.1 in
    let shorter : length c.left_of-rest.result.now < length c.loop-rest.rest.now =
    shorter_by _ _ _ c.left_of-rest.ensures
    (shorter_left c.loop-rest.rest.now behind some c.first_piece.ensures.shorter) in
    let taken = same_slots _ _ c.first_piece.result.0.now c.slots_in.ensures c.read_line.ensures in
    record {
      lines = next_number c.loop-rest.rest.now c.first_piece.result.0.now _ _ _ behind c.loop-rest.number _ some
          c.first_piece.ensures.pieces taken c.loop-rest.invariant.lines c.in_ok-add_number.ensures
          ∙ ap (λ rest. c.add_number.new.lines.items
          ++ numbers_from (c.loop-rest.number + 1) 0 (without_empty_end (lines_of rest))) (sym c.left_of-rest.ensures);
      counted = omega (arith, shorter, c.loop-rest.invariant.counted);
    }
