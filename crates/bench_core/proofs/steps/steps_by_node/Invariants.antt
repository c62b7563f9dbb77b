use Rattle.std.proofs.Common.{◌≡◌, ℕ, ◌<◌, get_or, length}
use Rattle.bench_core.specs.inner.Steps.{TookIn}
use Rattle.bench_core.proofs.steps.steps_by_node.Given as goal

abbrev pub invariant-loop-done : goal.invariant-loop-done
invariant-loop-done l = record {
  count : length l.steps.items ≡ l.nodes;
  each : (i : ℕ) → i < l.nodes → TookIn l.dones l.done-index i (get_or l.steps.items i 0);
}
