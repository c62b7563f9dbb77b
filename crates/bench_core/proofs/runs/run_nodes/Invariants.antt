use Rattle.std.proofs.Common.{◌<◌, ℕ}
use Rattle.bench_core.specs.inner.Found.{found_at}
use Rattle.bench_core.specs.inner.OpenPulse.{setup_in, state_of_open}
use Rattle.bench_core.specs.inner.Served.{AreRuns, IsServed}
use Rattle.bench_core.proofs.runs.run_nodes.Given as goal

abbrev pub invariant-loop-node : goal.invariant-loop-node
invariant-loop-node l = record {
  each : (i : ℕ) → i < l.node → IsServed (setup_in l.pulse) (state_of_open l.pulse) l.pulse.coins.now l.runs.dones.items i
      (found_at l.found i);
  runs : AreRuns l.pulse l.runs.dones.items;
}
