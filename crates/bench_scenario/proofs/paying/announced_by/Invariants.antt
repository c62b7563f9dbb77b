use Rattle.std.proofs.Common.{◌≡◌, ◌≤◌, ◌*◌, ◌^◌}
use Rattle.bench_scenario.specs.inner.Paying.{announced_by}
use Rattle.bench_scenario.proofs.paying.announced_by.Given as goal

abbrev pub invariant-loop-node : goal.invariant-loop-node
invariant-loop-node l = record {
  sum : l.sum ≡ announced_by l.scenario.loads.items l.node;
  small : l.sum ≤ l.node * 2 ^ 32;
}
