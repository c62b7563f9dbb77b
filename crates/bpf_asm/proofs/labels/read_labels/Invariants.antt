use Rattle.std.proofs.Common.{◌≤◌, ◌+◌, length}
use Rattle.bpf_insn.specs.declared.listing.TheConstants.{MAX_SLOTS}
use Rattle.bpf_asm.proofs.LabelLemmas.{PlacesSoFar, bytes_left}
use Rattle.bpf_asm.proofs.labels.read_labels.Given as goal

abbrev pub invariant-loop-rest : goal.invariant-loop-rest
invariant-loop-rest l = record {
  so_far : PlacesSoFar l.labels l.text l.slot l.rest;
  within : l.slot ≤ MAX_SLOTS;
  counted : l.line + bytes_left l.rest ≤ length l.text + 2;
}

abbrev pub decreases-loop-rest : goal.decreases-loop-rest
decreases-loop-rest l = bytes_left l.rest
