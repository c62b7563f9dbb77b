use Rattle.std.proofs.Common.{[], ◌∷◌, drop}
use Rattle.std.specs.Prelude.{flat_map}
use Rattle.bench_core.specs.State.{Load as LoadChange}
use Rattle.bench_workers.specs.Events.{Stage}
use Rattle.bench_scenario.specs.inner.Rows.{AddsEvents, of_pulse, told_events}
use Rattle.bench_scenario.proofs.schedule.put_load.Given as goal

abbrev pub invariant-loop-node : goal.invariant-loop-node
invariant-loop-node l =
    AddsEvents (told_events (λ r. r.items) l.fn.rows.items) (told_events (λ r. r.items) l.rows.items)
    (λ p. flat_map (λ node. of_pulse l.load.pulse (Stage (LoadChange node l.load.program) ∷ []) p)
    (drop l.node-index l.node-items))
    (λ p. flat_map (λ node. of_pulse l.load.pulse (Stage (LoadChange node l.load.program) ∷ []) p) l.load.nodes.items)
