use Rattle.scenario_text.specs.Views.{frame_of}
use Rattle.bench_scenario.proofs.VerdictLemmas.{lines_whole}
use Rattle.bench_scenario.proofs.printing.add_records.Goals as goal

pub returns : goal.returns
returns c =
    lines_whole (frame_of c.args.scenario.now) _ _ _ _ _ _ c.min-count.ensures c.loop-pulse-test.false
    c.loop-pulse.invariant
