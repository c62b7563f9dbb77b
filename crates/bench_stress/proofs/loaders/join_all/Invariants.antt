use Rattle.std.proofs.Common.{◌≡◌, ◌≢◌, Some}
use Rattle.bench_stress.specs.declared.stop.Stop.TheVariants.{Thread}
use Rattle.bench_stress.proofs.loaders.join_all.Given as goal

abbrev pub invariant-loop-handle : goal.invariant-loop-handle
invariant-loop-handle g l = l.stopped ≢ Some Thread
