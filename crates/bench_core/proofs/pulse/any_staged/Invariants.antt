use Rattle.std.proofs.Common.{◌≡◌, drop, map}
use Rattle.bench_core.specs.inner.Replay.{staged_of}
use Rattle.bench_core.specs.Views.{entry_of}
use Rattle.bench_core.proofs.pulse.any_staged.Given as goal

abbrev pub invariant-loop-entry : goal.invariant-loop-entry
invariant-loop-entry l = staged_of (map entry_of (drop l.entry-index l.entries)) ≡ staged_of (map entry_of l.entries)
