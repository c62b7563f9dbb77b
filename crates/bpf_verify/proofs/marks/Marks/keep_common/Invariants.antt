use Rattle.std.proofs.Common.{◌≡◌, ℕ, ◌<◌, ◌≤◌, slice_index_or, bit_and}
use Rattle.bpf_verify.proofs.marks.Marks.keep_common.Given as goal

abbrev pub invariant-loop-place : goal.invariant-loop-place
invariant-loop-place l = record {
  done : (k : ℕ) → k < l.place → slice_index_or l.self.words k 0 ≡ bit_and (slice_index_or l.initial.self.words k 0)
      (slice_index_or l.other.words k 0);
  left : (k : ℕ) → l.place ≤ k → slice_index_or l.self.words k 0 ≡ slice_index_or l.initial.self.words k 0;
}
