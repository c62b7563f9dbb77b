use Rattle.std.proofs.Common.{◌≡◌, ◌<◌, ◌≤◌, ◌&&◌, ℕ, false, get_or}
use Rattle.bench_core.specs.State.{node_at}
use Rattle.bench_core.proofs.node_flags.settle.Given as goal

abbrev pub invariant-loop-i : goal.invariant-loop-i
invariant-loop-i l = record {
  done : (k : ℕ) → k < l.i → get_or l.marks k false ≡ (get_or l.fn.marks k false && (node_at l.nodes k).mark);
  rest : (k : ℕ) → l.i ≤ k → get_or l.marks k false ≡ get_or l.fn.marks k false;
}
