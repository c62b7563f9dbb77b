use Rattle.std.proofs.Common.{◌<◌, ◌∙◌, ◌++◌, ◌+◌, ap, length, sym, arith}
use Rattle.bpf_asm.proofs.ListingLemmas.{few_slots, next_bytes, next_row, rows_left, same_bytes, same_slots, shorter_by, shorter_left, some_bytes}
use Rattle.bpf_asm.proofs.listing.list_text.Goals as goal

pub loop-rest-preserved : goal.loop-rest-preserved
loop-rest-preserved c =
    let some = some_bytes c.loop-rest.rest.now _ c.is_empty.ensures c.loop-rest-test.true in
    let behind = c.first_piece.result.1 in
    let shorter : length c.left_of-rest.result.now < length c.loop-rest.rest.now =
    shorter_by _ _ _ c.left_of-rest.ensures
    (shorter_left c.loop-rest.rest.now behind some c.first_piece.ensures.shorter) in
    let taken = same_slots _ _ c.first_piece.result.0.now c.slots_in-slots.ensures c.read_line.ensures in
    let few = few_slots _ _ c.slots_in-slots.ensures in
    record {
      rows = next_row c.args.image.now c.loop-rest.rest.now _ _ _ _ _ behind c.loop-rest.number c.loop-rest.slot _ some
          c.first_piece.ensures.pieces taken
          (c.split_image.ensures.own ∙ same_bytes _ _ c.loop-rest.slot _ c.loop-rest.invariant.image)
          c.loop-rest.invariant.rows c.in_ok-push_row.ensures
          ∙ ap (λ rest. c.push_row.new.listing.items ++ rows_left c.args.image.now (c.loop-rest.number + 1)
          (c.loop-rest.slot + c.slots_in-slots.result) rest) (sym c.left_of-rest.ensures);
      image = next_bytes c.args.image.now _ _ c.loop-rest.slot _ c.loop-rest.invariant.image
          c.split_image.ensures.behind;
      counted = omega (arith, shorter, c.loop-rest.invariant.counted);
      slots = omega (arith, shorter, few, c.loop-rest.invariant.slots);
    }
