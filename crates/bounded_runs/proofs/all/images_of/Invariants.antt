use Rattle.std.proofs.Common.{◌≡◌, map, take}
use Rattle.bounded_runs.specs.inner.Inputs.{memory_with}
use Rattle.bounded_runs.proofs.all.images_of.Given as goal

abbrev pub invariant-loop-row : goal.invariant-loop-row
invariant-loop-row l =
    map (λ v. v.items) l.images.items ≡ map memory_with (map (λ v. v.items) (take l.row-index l.rows))
