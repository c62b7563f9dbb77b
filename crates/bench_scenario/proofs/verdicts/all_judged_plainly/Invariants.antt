use Rattle.std.proofs.Common.{◌≡◌, ◌++◌, drop, map}
use Rattle.bench_scenario.specs.Verdicts.{judged_plainly}
use Rattle.bench_scenario.proofs.verdicts.all_judged_plainly.Given as goal

-- what is judged and what is still to come are the whole
abbrev pub invariant-loop-one : goal.invariant-loop-one
invariant-loop-one l =
    l.judged.items ++ map judged_plainly (drop l.one-index l.records) ≡ map judged_plainly l.records
