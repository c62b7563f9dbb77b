use Rattle.std.proofs.Common.{◌≡◌, ◌<◌, ℕ, get_or, length}
use Rattle.bench_core.specs.State.{node_at}
use Rattle.bench_core.proofs.node.firsts_of.Given as goal

abbrev pub invariant-loop-node : goal.invariant-loop-node
invariant-loop-node l = record {
  count : length l.firsts.items ≡ length l.nodes;
  within : (i : ℕ) → i < l.node → get_or l.firsts.items i 0 < length l.nodes;
  same : (i : ℕ) → i < l.node
      → (node_at l.nodes (get_or l.firsts.items i 0)).program ≡ (node_at l.nodes i).program;
}
