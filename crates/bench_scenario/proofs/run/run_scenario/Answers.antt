use Rattle.std.proofs.KnownBytes.{Keeps-refl}
use Rattle.bench_scenario.proofs.StreamLemmas.{read_refused}
use Rattle.bench_scenario.proofs.run.run_scenario.Goals as goal

pub returns-in-Err-Refused-clause-left : goal.returns-in-Err-Refused-clause-left
returns-in-Err-Refused-clause-left g c =
    let refused = read_refused (g.R.Source.remaining c.args.reader.now) (g.W.Write.contents c.args.writer.now)
    c.in-Err-Refused.error
    (rw c.in-Err-Refused.field-0-is at c.in-Err-Refused.ensures.scenario) (Keeps-refl _) in
    rw (← c.in-Err-Refused.error-is) at refused

pub returns-clause-left : goal.returns-clause-left
returns-clause-left g c = c.report_on.ensures.left _ c.in-Ok.ensures.scenario

pub returns-clause-cause : goal.returns-clause-cause
returns-clause-cause g c = c.report_on.ensures.cause (g.R.Source.has_failed c.read_scenario.new.reader)
