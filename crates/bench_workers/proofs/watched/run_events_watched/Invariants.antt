use Rattle.std.proofs.Common.{◌≡◌, ◌++◌, length}
use Rattle.std.specs.Vec.Iter.{into_iter_items}
use Rattle.bench_workers.proofs.Showing.{IsKeptSeen}
use Rattle.bench_workers.proofs.watched.run_events_watched.Given as goal

abbrev pub invariant-loop-event : goal.invariant-loop-event
invariant-loop-event g l = record {
  place : l.place ≡ length l.yielded;
  rest : l.fn.events.items ≡ l.yielded ++ into_iter_items l.event-iterator;
  kept : IsKeptSeen g.K.Watcher.tells l.fn.bench.setup l.yielded l.records.items l.bench l.fn.watcher l.fn.sink
      l.watcher l.sink;
}
