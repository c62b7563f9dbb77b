use Rattle.std.proofs.Common.{◌∙◌}
use Rattle.claimed_runs.proofs.JudgingLemmas.{judged}
use Rattle.claimed_runs.proofs.judged.judged_run.Goals as goal

pub returns-in-Ok-clause-judged : goal.returns-in-Ok-clause-judged
returns-in-Ok-clause-judged g c =
    judged c.args.asked.now.scenario.now c.args.asked.now.properties.now c.new-watcher.result
    c.run_watched.new.watcher _ _ _ _ c.new-watcher.ensures.properties
    (c.new-watcher.ensures.sizes ∙ c.sizes_of-sizes.ensures) c.new-watcher.ensures.before
    c.new-watcher.ensures.pulses c.in-Ok.ensures.run c.in-Ok.ensures.watched
