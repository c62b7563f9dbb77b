use Rattle.std.proofs.Common.{◌≡◌, ◌+◌, drop}
use Rattle.bench_scenario.specs.Summary.{first_no}
use Rattle.bench_scenario.proofs.summary.first_no.Given as goal

abbrev pub invariant-loop-place : goal.invariant-loop-place
invariant-loop-place l = first_no (l.place + 1) (drop l.place l.judged) ≡ first_no 1 l.judged
