use Rattle.std.proofs.Common.{drop, map, All}
use Rattle.bench_core.specs.inner.Nodes.{KeepsPrograms}
use Rattle.bench_core.specs.inner.Replay.{staged_of}
use Rattle.bench_core.specs.Views.{entry_of}
use Rattle.bench_core.proofs.pulse.keep_programs.Given as goal

abbrev pub invariant-loop-entry : goal.invariant-loop-entry
invariant-loop-entry l = All KeepsPrograms (staged_of (map entry_of (drop l.entry-index l.entries)))
    → All KeepsPrograms (staged_of (map entry_of l.entries))
