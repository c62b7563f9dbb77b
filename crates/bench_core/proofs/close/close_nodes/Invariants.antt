use Rattle.std.proofs.Common.{◌≡◌, ◌≤◌, ℕ, length}
use Rattle.bench_core.specs.State.{node_at}
use Rattle.bench_core.specs.inner.Found.{AreLeft}
use Rattle.bench_core.proofs.close.close_nodes.Given as goal

abbrev pub invariant-loop-node : goal.invariant-loop-node
invariant-loop-node l = record {
  mail : length l.mail ≡ l.count;
  left : AreLeft l.dones l.flags l.fn.nodes l.found l.nodes l.mail l.node;
  rest : (i : ℕ) → l.node ≤ i → node_at l.nodes i ≡ node_at l.fn.nodes i;
}
