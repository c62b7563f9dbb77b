use Rattle.std.proofs.Common.{rules, ◌∙◌}
use Rattle.bench_scenario.proofs.NoisyLemmas.{next_node}
use Rattle.bench_scenario.proofs.noisy.note_load.Goals as goal

pub loop-node-preserved : goal.loop-node-preserved
loop-node-preserved c f n is =
    c.set_noise.ensures _ n (c.loop-node.invariant f n is)
    ∙ next_node f c.is_noise-noise.result _ c.loop-node.node-index _ n c.loop-node-test.true (search rules)
