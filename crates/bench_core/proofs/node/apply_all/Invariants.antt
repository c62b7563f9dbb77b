use Rattle.std.proofs.Common.{◌≡◌, ◌<◌, drop, map, length, All}
use Rattle.bench_core.specs.State.{all_applied}
use Rattle.bench_core.specs.inner.Nodes.{KnowsClock}
use Rattle.bench_core.specs.inner.Replay.{staged_of}
use Rattle.bench_core.specs.State.{node_of}
use Rattle.bench_core.specs.Views.{entry_of}
use Rattle.bench_core.proofs.node.apply_all.Given as goal

abbrev pub invariant-loop-entry : goal.invariant-loop-entry
invariant-loop-entry l = record {
  nodes : all_applied l.nodes (staged_of (map entry_of (drop l.entry-index l.entries))) ≡ all_applied l.fn.nodes
      (staged_of (map entry_of l.entries));
  within : All (λ c. node_of c < length l.fn.nodes) (staged_of (map entry_of (drop l.entry-index l.entries)));
  flags : KnowsClock l.clock l.nodes l.flags;
}
