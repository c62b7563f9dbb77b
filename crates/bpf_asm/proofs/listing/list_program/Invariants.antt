use Rattle.std.proofs.Common.{◌≡◌}
use Rattle.std.specs.List.{flat_map, range_with_len}
use Rattle.bpf_insn.specs.Programs.{image_of, insn_at}
use Rattle.bpf_asm.specs.Listing.{insn_row}
use Rattle.bpf_asm.proofs.listing.list_program.Given as goal

abbrev pub invariant-loop-slot : goal.invariant-loop-slot
invariant-loop-slot l =
    l.listing.items
    ≡ flat_map (λ slot. insn_row (image_of l.program) slot (insn_at l.program slot)) (range_with_len 0 l.slot)
