use Rattle.std.proofs.Common.{◌≡◌, ◌<◌, ℕ, None, get_or}
use Rattle.bench_core.specs.State.{node_at}
use Rattle.bench_core.specs.Told.{told_clock}
use Rattle.bench_core.proofs.node_clocks.tell_clocks.Given as goal

abbrev pub invariant-loop-i : goal.invariant-loop-i
invariant-loop-i l = (k : ℕ) → k < l.i → get_or l.clocks k None ≡ told_clock (node_at l.nodes k)
