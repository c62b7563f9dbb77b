use Rattle.std.proofs.Common.{◌∙◌}
use Rattle.bpf_asm.proofs.ListingLemmas.{row_more}
use Rattle.bpf_asm.proofs.listing.list_program.Goals as goal

pub loop-slot-preserved : goal.loop-slot-preserved
loop-slot-preserved c =
    row_more c.args.program.now c.loop-slot.slot _ _ _ _ (c.as_slice.ensures.value
    ∙ c.in_ok-image.ensures.image) c.insn_at.ensures.found
    c.loop-slot.invariant c.in_ok-push_insn_row.ensures
