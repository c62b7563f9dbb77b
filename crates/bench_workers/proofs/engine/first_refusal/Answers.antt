use Rattle.bench_core.specs.Views.{setup_of}
use Rattle.bench_workers.proofs.Going.{first_fault}
use Rattle.bench_workers.proofs.engine.first_refusal.Goals as goal

pub returns-in-Some-clause-fault : goal.returns-in-Some-clause-fault
returns-in-Some-clause-fault c =
    let place = c.in-Some.ensures.item.3 in
    first_fault (setup_of c.args.shape c.args.rule) c.args.events.now c.in-Some.event.now c.refusal_of.result place.0
    (place.1 c.in-Some.event.now) c.refusal_of.ensures.refused
