use Rattle.std.proofs.Common.{drop}
use Rattle.std.specs.Prelude.{flat_map}
use Rattle.bench_scenario.specs.Events.{corrupt_events}
use Rattle.bench_scenario.specs.inner.Rows.{AddsEvents, told_events}
use Rattle.bench_scenario.proofs.schedule.put_corruptions.Given as goal

abbrev pub invariant-loop-corruption : goal.invariant-loop-corruption
invariant-loop-corruption l =
    AddsEvents (told_events (λ r. r.items) l.fn.rows.items) (told_events (λ r. r.items) l.rows.items)
    (λ p. flat_map (corrupt_events p) (drop l.corruption-index l.corruptions))
    (λ p. flat_map (corrupt_events p) l.corruptions)
