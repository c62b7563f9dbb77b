use Rattle.std.proofs.Common.{rules, ◌∙◌}
use Rattle.bench_scenario.proofs.NoisyLemmas.{next_unload}
use Rattle.bench_scenario.proofs.noisy.note_unloads.Goals as goal

pub loop-unload-preserved : goal.loop-unload-preserved
loop-unload-preserved c f n is =
    c.note_unload.ensures _ n (c.loop-unload.invariant f n is)
    ∙ next_unload f c.args.unloads.now c.loop-unload.unload-index _ c.args.pulse n c.loop-unload-test.true
    (search rules)
