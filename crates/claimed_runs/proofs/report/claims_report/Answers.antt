use Rattle.claimed_runs.proofs.JudgingLemmas.{reports}
use Rattle.claimed_runs.proofs.report.claims_report.Goals as goal

pub returns-in-Ok-clause-told : goal.returns-in-Ok-clause-told
returns-in-Ok-clause-told g c =
    reports c.args.asked.now.form c.args.asked.now.scenario.now c.args.asked.now.properties.now _ _ _ _ c.in_ok-run.ensures.judged
    (rw c.as_slice.ensures.value at c.in-Ok.ensures.text) c.in-Ok.ensures.agrees
    (rw c.as_slice.ensures.value at c.in-Ok.ensures.holds)
