use Rattle.std.proofs.Common.{◌≡◌, take}
use Rattle.bounded_runs.specs.inner.Inputs.{memory_with}
use Rattle.bounded_runs.proofs.all.memory_with.Given as goal

abbrev pub invariant-loop-slot : goal.invariant-loop-slot
invariant-loop-slot l = l.image.items ≡ memory_with (take l.slot-index l.row)
