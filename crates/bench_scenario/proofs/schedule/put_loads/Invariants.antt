use Rattle.std.proofs.Common.{drop}
use Rattle.std.specs.Prelude.{flat_map}
use Rattle.bench_scenario.specs.Events.{load_events}
use Rattle.bench_scenario.specs.inner.Rows.{AddsEvents, told_events}
use Rattle.bench_scenario.proofs.schedule.put_loads.Given as goal

abbrev pub invariant-loop-load : goal.invariant-loop-load
invariant-loop-load l =
    AddsEvents (told_events (λ r. r.items) l.fn.rows.items) (told_events (λ r. r.items) l.rows.items)
    (λ p. flat_map (load_events p) (drop l.load-index l.loads)) (λ p. flat_map (load_events p) l.loads)
