use Rattle.bench_scenario.proofs.StreamLemmas.{due_refused}
use Rattle.bench_scenario.proofs.reading.fault_of.Goals as goal

pub returns-in_default-clause-due : goal.returns-in_default-clause-due
returns-in_default-clause-due c text due = due_refused text c.args.error c.in_default.not-Memory due
