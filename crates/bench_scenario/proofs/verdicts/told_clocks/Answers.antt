use Rattle.bench_scenario.proofs.VerdictLemmas.{told_step, told_whole}
use Rattle.bench_scenario.proofs.verdicts.told_clocks.Goals as goal

pub loop-node-preserved : goal.loop-node-preserved
loop-node-preserved c =
    told_step c.args.settled.now c.args.clocks.now c.loop-node.told.items _ c.min-count.result c.loop-node.node
    c.told_clock.result c.min-count.ensures c.loop-node-test.true c.in_ok-push.ensures.items c.told_clock.ensures
    c.loop-node.invariant

pub returns : goal.returns
returns c = told_whole _ _ _ _ _ c.min-count.ensures c.loop-node-test.false c.loop-node.invariant
