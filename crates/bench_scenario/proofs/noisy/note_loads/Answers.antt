use Rattle.std.proofs.Common.{sym, ◌∙◌}
use Rattle.bench_scenario.proofs.NoisyLemmas.{next_load}
use Rattle.bench_scenario.proofs.noisy.note_loads.Goals as goal

pub loop-load-preserved : goal.loop-load-preserved
loop-load-preserved c f n is =
    c.note_load.ensures _ n (c.loop-load.invariant f n is)
    ∙ next_load f c.args.loads.now c.loop-load.load-index c.load-item.result c.args.pulse n
    c.loop-load-test.true (sym c.load-item.is)
