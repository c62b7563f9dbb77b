use Rattle.std.proofs.Common.{◌≡◌, map, take}
use Rattle.bench_workers.proofs.engine.memories_of.Given as goal

abbrev pub invariant-loop-node : goal.invariant-loop-node
invariant-loop-node l = map (λ m. m.items) l.memories.items ≡ map (λ x. x.memory) (take l.node l.bench.state.nodes)
