use Rattle.std.proofs.Common.{◌≡◌, ◌≤◌, ◌+◌, ◌*◌, ◌++◌, drop, length}
use Rattle.bpf_asm.specs.Listing.{text_listing}
use Rattle.bpf_asm.proofs.ListingLemmas.{rows_left}
use Rattle.bpf_asm.proofs.listing.list_text.Given as goal

abbrev pub invariant-loop-rest : goal.invariant-loop-rest
invariant-loop-rest l = record {
  rows : text_listing l.fn.text l.fn.image
      ≡ l.listing.items ++ rows_left l.fn.image l.number l.slot l.rest;
  image : l.image ≡ drop (8 * l.slot) l.fn.image;
  counted : l.number + length l.rest ≤ length l.fn.text + 1;
  slots : l.slot + 2 * length l.rest ≤ 2 * length l.fn.text;
}

abbrev pub decreases-loop-rest : goal.decreases-loop-rest
decreases-loop-rest l = length l.rest
