use Rattle.std.proofs.Common.{◌≡◌, ◌<◌, ◌≤◌, ◌++◌, length, map}
use Rattle.std.specs.Vec.Iter.{into_iter_items}
use Rattle.bench_core.specs.declared.limits.TheConstants.{MAX_ENTRIES}
use Rattle.bench_workers.specs.Events.{event_of}
use Rattle.bench_workers.specs.Opening.{pulses_in}
use Rattle.bench_workers.proofs.OpeningLemmas.{AreDone}
use Rattle.bench_workers.proofs.opening.open_pulse_of.Given as goal

abbrev pub invariant-loop-event : goal.invariant-loop-event
invariant-loop-event g l = record {
  place : l.place ≡ length l.yielded;
  rest : l.fn.events.items ≡ l.yielded ++ into_iter_items l.event-iterator;
  done : AreDone l.fn.bench.setup l.yielded l.bench;
  pulses : l.pulses ≡ pulses_in (map event_of l.yielded);
  fewer : l.pulses < l.fn.pulse;
  few : length l.bench.history ≤ MAX_ENTRIES;
}
