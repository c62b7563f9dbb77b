use Rattle.std.proofs.Common.{◌≡◌, map, take}
use Rattle.bench_core.specs.State.{Node}
use Rattle.claimed_runs.specs.Views.{memory_lists}
use Rattle.claimed_runs.proofs.nodes.memories.Given as goal

abbrev pub invariant-loop-node : goal.invariant-loop-node
invariant-loop-node l =
    memory_lists l.memories.items ≡ map (λ (x : Node). x.memory) (take l.node l.bench.state.nodes)
