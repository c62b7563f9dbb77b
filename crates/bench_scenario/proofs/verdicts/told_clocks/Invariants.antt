use Rattle.std.proofs.Common.{◌≡◌, ◌++◌, drop}
use Rattle.bench_scenario.specs.Verdicts.{told_clocks}
use Rattle.bench_scenario.proofs.verdicts.told_clocks.Given as goal

-- what is told and what is still to come are the whole
abbrev pub invariant-loop-node : goal.invariant-loop-node
invariant-loop-node l =
    l.told.items ++ told_clocks (drop l.node l.settled) (drop l.node l.clocks) ≡ told_clocks l.settled l.clocks
