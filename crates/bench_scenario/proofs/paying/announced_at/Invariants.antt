use Rattle.std.proofs.Common.{◌≡◌, drop, max}
use Rattle.bench_scenario.specs.inner.Paying.{announced_at}
use Rattle.bench_scenario.proofs.paying.announced_at.Given as goal

-- the greatest so far and those to come are the whole
abbrev pub invariant-loop-load : goal.invariant-loop-load
invariant-loop-load l = max l.most (announced_at (drop l.load-index l.loads) l.node) ≡ announced_at l.loads l.node
