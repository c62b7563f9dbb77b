use Rattle.std.proofs.Common.{◌≡◌, ◌≤◌, ◌+◌, ◌++◌, length}
use Rattle.bpf_asm.specs.Listing.{instruction_lines, without_empty_end}
use Rattle.bpf_asm.specs.Pieces.{lines_of}
use Rattle.bpf_asm.proofs.ListingLemmas.{numbers_from}
use Rattle.bpf_asm.proofs.listing.instruction_lines.Given as goal

abbrev pub invariant-loop-rest : goal.invariant-loop-rest
invariant-loop-rest l = record {
  lines : instruction_lines l.fn.text
      ≡ l.lines.items ++ numbers_from l.number 0 (without_empty_end (lines_of l.rest));
  counted : l.number + length l.rest ≤ length l.fn.text + 1;
}

abbrev pub decreases-loop-rest : goal.decreases-loop-rest
decreases-loop-rest l = length l.rest
