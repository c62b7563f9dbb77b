use Rattle.std.proofs.Common.{◌≡◌, [], ◌++◌, drop}
use Rattle.bench_scenario.specs.Verdicts.{judged_after}
use Rattle.bench_scenario.proofs.verdicts.judged_in_turn.Given as goal

-- what is judged and what is still to come are the whole
abbrev pub invariant-loop-one : goal.invariant-loop-one
invariant-loop-one l =
    l.judged.items ++ judged_after l.strict l.modulus l.before.items (drop l.one-index l.records)
    ≡ judged_after l.strict l.modulus [] l.records
