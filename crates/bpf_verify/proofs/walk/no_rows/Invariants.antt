use Rattle.std.proofs.Common.{◌≡◌, ℕ, None, vec_len}
use Rattle.bpf_verify.specs.inner.Walk.{table_of}
use Rattle.bpf_verify.proofs.walk.no_rows.Given as goal

abbrev pub invariant-loop-slot : goal.invariant-loop-slot
invariant-loop-slot l = record {
  long : vec_len l.rows ≡ l._slot;
  empty : (slot : ℕ) → table_of l.rows.items slot ≡ None;
}
