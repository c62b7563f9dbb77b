use Rattle.std.proofs.Common.{◌≡◌, map}
use Rattle.bench_workers.specs.Events.{event_of}
use Rattle.bench_scenario.specs.Coins.{keyed, places_below}
use Rattle.bench_scenario.specs.Events.{events_to}
use Rattle.bench_scenario.specs.Noise.{has_noise}
use Rattle.bench_scenario.specs.inner.Rows.{AreChanges, told_events}
use Rattle.bench_scenario.proofs.schedule.events_with_key.Given as goal

abbrev pub invariant-loop-before : goal.invariant-loop-before
invariant-loop-before l =
    record {
      events : map event_of l.events.items ≡ events_to (keyed l.scenario l.key) l.before;
      rows : AreChanges l.scenario (told_events (λ r. r.items) l.rows.items) l.before;
      noisy : l.noisy.items ≡ map (has_noise l.scenario l.before) (places_below l.scenario.nodes);
    }
