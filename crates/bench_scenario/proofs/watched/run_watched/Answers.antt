use Rattle.std.proofs.Common.{refl, subst}
use Rattle.bench_workers.specs.Watching.{IsNot}
use Rattle.bench_workers.specs.declared.event.RunRefusal.TheVariants.{GateShut}
use Rattle.bench_scenario.proofs.RunLemmas.{fault_due}
use Rattle.bench_scenario.proofs.WatchLemmas.{ends_met}
use Rattle.bench_scenario.proofs.watched.run_watched.Goals as goal

pub returns-in-Err-Run-clause-ends : goal.returns-in-Err-Run-clause-ends
returns-in-Err-Run-clause-ends g c =
    let s = c.args.scenario.now in
    let fault = c.in-Err-Run.fault in
    let ends = ends_met g.K.Watcher.tells g.K.Watcher.stops s _ _ c.args.watcher.now c.args.sink.now
    c.run_events_watched.new.watcher c.run_events_watched.new.sink c.in-Err-Run.field-0 fault
    c.in-Err-Run.field-0-is c.in-Ok-bench_for.ensures.setup c.in-Ok.ensures c.in-Err-Run.ensures.ends in (
      ends.0,
      fault_due c.requires.reads.0 s fault.event fault.fault c.requires.reads.1 ends.0
          (subst (IsNot GateShut) c.in-Err-Run.field-0-is (c.in-Err-Run.ensures.open refl)),
      ends.1,
    )
