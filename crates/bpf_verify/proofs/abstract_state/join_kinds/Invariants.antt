use Rattle.std.proofs.Common.{◌≡◌, ℕ, ◌<◌, ◌≤◌}
use Rattle.bpf_verify.specs.States.{joined_kind}
use Rattle.bpf_verify.specs.inner.Rows.{kind_numbered}
use Rattle.bpf_verify.proofs.abstract_state.join_kinds.Given as goal

abbrev pub invariant-loop-number : goal.invariant-loop-number
invariant-loop-number l = record {
  done : (k : ℕ) → k < l.number → kind_numbered l.kinds k ≡ joined_kind (kind_numbered l.initial.kinds k)
      (kind_numbered l.others k);
  left : (k : ℕ) → l.number ≤ k → kind_numbered l.kinds k ≡ kind_numbered l.initial.kinds k;
}
