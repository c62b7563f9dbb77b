use Rattle.std.proofs.Common.{drop}
use Rattle.std.specs.Prelude.{flat_map}
use Rattle.bench_scenario.specs.Events.{unload_events}
use Rattle.bench_scenario.specs.inner.Rows.{AddsEvents, told_events}
use Rattle.bench_scenario.proofs.schedule.put_unloads.Given as goal

abbrev pub invariant-loop-unload : goal.invariant-loop-unload
invariant-loop-unload l =
    AddsEvents (told_events (λ r. r.items) l.fn.rows.items) (told_events (λ r. r.items) l.rows.items)
    (λ p. flat_map (unload_events p) (drop l.unload-index l.unloads)) (λ p. flat_map (unload_events p) l.unloads)
