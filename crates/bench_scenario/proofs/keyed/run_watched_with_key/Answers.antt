use Rattle.std.proofs.Common.{refl, subst}
use Rattle.bench_workers.specs.Watching.{IsNot}
use Rattle.bench_workers.specs.declared.event.RunRefusal.TheVariants.{GateShut, NoThread}
use Rattle.bench_scenario.proofs.RunLemmas.{is_memory, keyed_due}
use Rattle.bench_scenario.proofs.WatchLemmas.{fault_at}
use Rattle.bench_scenario.proofs.keyed.run_watched_with_key.Goals as goal

pub want_of-requires : goal.want_of-requires
want_of-requires g c =
    let fault = c.in-Err-Run.fault in
    let told = fault_at g.K.Watcher.tells g.K.Watcher.stops _ _ c.args.watcher.now c.args.sink.now
    c.run_events_watched.new.watcher c.run_events_watched.new.sink c.in-Err-Run.field-0 fault
    c.in-Err-Run.field-0-is c.in-Err-Run.ensures.ends in
    let due = keyed_due c.requires.reads.0 c.args.scenario.now c.args.key _ _ fault.event fault.fault
    c.requires.reads.1 c.in_ok-bench.ensures.setup c.in_ok-events.ensures told
    (subst (IsNot GateShut) c.in-Err-Run.field-0-is (c.in-Err-Run.ensures.open refl)) in
    is_memory fault.fault due (subst (IsNot NoThread) c.in-Err-Run.field-0-is (c.in-Err-Run.ensures.alone refl))
