use Rattle.std.proofs.Common.{◌≡◌, vec_len}
use Rattle.bpf_insn.specs.Programs.{slots_of}
use Rattle.bpf_verify.specs.inner.Lengths.{HasLongest}
use Rattle.bpf_verify.proofs.longest.longest.Given as goal

abbrev pub invariant-fill : goal.invariant-fill
invariant-fill l = vec_len l.counts ≡ l._slot

abbrev pub invariant-down : goal.invariant-down
invariant-down l = record {
  long : vec_len l.counts ≡ slots_of l.program;
  known : HasLongest l.program l.slot l.counts.items;
}
