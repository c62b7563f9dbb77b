use Rattle.bench_scenario.proofs.VerdictLemmas.{count_whole}
use Rattle.bench_scenario.proofs.verdicts.counting.Goals as goal

pub returns : goal.returns
returns c = count_whole _ _ _ _ _ _ c.min-count.ensures c.loop-node-test.false c.loop-node.invariant
