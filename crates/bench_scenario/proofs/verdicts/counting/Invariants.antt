use Rattle.std.proofs.Common.{◌≡◌, drop}
use Rattle.bench_scenario.specs.Verdicts.{counting, joined_verdict}
use Rattle.bench_scenario.proofs.verdicts.counting.Given as goal

-- the verdict so far and that of what is still to come are the whole
abbrev pub invariant-loop-node : goal.invariant-loop-node
invariant-loop-node l =
    joined_verdict l.verdict (counting l.modulus (drop l.node l.before) (drop l.node l.after))
    ≡ counting l.modulus l.before l.after
