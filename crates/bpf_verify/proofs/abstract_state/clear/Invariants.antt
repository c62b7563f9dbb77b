use Rattle.std.proofs.Common.{◌≡◌, ℕ, ◌+◌, ◌/◌, ◌≤◌, if◌then◌else◌}
use Rattle.bpf_verify.specs.declared.abstract_value.AbstractValue.TheVariants.{Unset}
use Rattle.bpf_verify.specs.Outcomes.{is_between}
use Rattle.bpf_verify.specs.inner.Rows.{kind_numbered}
use Rattle.bpf_verify.proofs.abstract_state.clear.Given as goal

abbrev pub invariant-loop-dword : goal.invariant-loop-dword
invariant-loop-dword l = record {
  near : l.dword ≤ (l.end + 7) / 8;
  gone : (other : ℕ) → kind_numbered l.kinds other ≡
      (if is_between (l.first / 8) l.dword other then Unset else kind_numbered l.initial.kinds other);
}
