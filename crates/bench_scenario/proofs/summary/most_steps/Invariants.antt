use Rattle.std.proofs.Common.{◌≡◌, drop, max}
use Rattle.bench_scenario.specs.Summary.{most_steps}
use Rattle.bench_scenario.proofs.summary.most_steps.Given as goal

abbrev pub invariant-loop-one : goal.invariant-loop-one
invariant-loop-one l = max l.most (most_steps (drop l.one-index l.records)) ≡ most_steps l.records
