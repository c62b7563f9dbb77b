use Rattle.bench_scenario.proofs.StreamLemmas.{front_due, front_read}
use Rattle.bench_scenario.proofs.reading.scenario_at_front.Goals as goal

pub returns-in-Ok-clause-scenario : goal.returns-in-Ok-clause-scenario
returns-in-Ok-clause-scenario c text taken =
    front_read c.front_reads_as_whole.ensures.reads c.args.bytes.now text _ taken c.in-Ok.ensures.reads

pub returns-in-Err-clause-scenario : goal.returns-in-Err-clause-scenario
returns-in-Err-clause-scenario c text taken =
    c.fault_of.ensures.due text
    (front_due c.front_reads_as_whole.ensures.due c.args.bytes.now text c.in-Err.error taken c.in-Err.ensures.refused)
