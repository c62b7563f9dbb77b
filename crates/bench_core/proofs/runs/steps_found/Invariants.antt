use Rattle.std.proofs.Common.{◌≡◌, ◌<◌, ℕ, get_or, length}
use Rattle.bench_core.specs.inner.Found.{found_at}
use Rattle.bench_core.specs.inner.Served.{steps_at}
use Rattle.bench_core.proofs.runs.steps_found.Given as goal

abbrev pub invariant-loop-node : goal.invariant-loop-node
invariant-loop-node l = record {
  count : length l.steps.items ≡ l.node;
  each : (i : ℕ) → i < l.node → get_or l.steps.items i 0 ≡ steps_at l.dones (found_at l.found i);
}
