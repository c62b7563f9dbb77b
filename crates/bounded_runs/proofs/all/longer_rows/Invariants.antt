use Rattle.std.proofs.Common.{◌≡◌, map}
use Rattle.bounded_runs.specs.inner.Inputs.{longer_rows, small_slots}
use Rattle.bounded_runs.proofs.all.longer_rows.Given as goal

abbrev pub invariant-loop-number : goal.invariant-loop-number
invariant-loop-number l =
    map (λ v. v.items) l.all.items ≡ longer_rows (small_slots l.number) (map (λ v. v.items) l.rows)
