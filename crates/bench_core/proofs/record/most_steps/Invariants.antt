use Rattle.std.proofs.Common.{take}
use Rattle.bench_core.specs.inner.Told.{IsMostSteps}
use Rattle.bench_core.proofs.record.most_steps.Given as goal

abbrev pub invariant-loop-done : goal.invariant-loop-done
invariant-loop-done l = IsMostSteps (take l.done-index l.dones) l.most
