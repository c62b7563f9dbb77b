use Rattle.bench_workers.proofs.Showing.{fault_of_run, never_stopped}
use Rattle.bench_workers.proofs.engine.run_events_on.Goals as goal

pub of_run-requires : goal.of_run-requires
of_run-requires g c = never_stopped _ _ _ _ _ _ _ _ c.in-Err.fault (λ x y seen x1 y1 stops. stops) c.in-Err.ensures.ends

pub returns-in-Err-clause-fault : goal.returns-in-Err-clause-fault
returns-in-Err-clause-fault g c =
    fault_of_run _ _ _ _ _ _ _ _ c.in-Err.fault c.of_run.result c.of_run.ensures c.in-Err.ensures.ends
