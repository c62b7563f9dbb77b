use Rattle.std.proofs.Common.{◌∙◌}
use Rattle.bench_scenario.specs.Coins.{keyed}
use Rattle.claimed_runs.proofs.JudgingLemmas.{judged}
use Rattle.claimed_runs.proofs.keyed.judged_run_with_key.Goals as goal

pub returns : goal.returns
returns g c =
    judged (keyed c.args.scenario.now c.args.key) c.args.properties.now c.new-watcher.result
    c.run_watched_with_key.new.watcher _ _ _ _ c.new-watcher.ensures.properties
    (c.new-watcher.ensures.sizes ∙ c.sizes_of-sizes.ensures) c.new-watcher.ensures.before
    c.new-watcher.ensures.pulses c.in_ok-run.ensures.run c.in_ok-run.ensures.watched
