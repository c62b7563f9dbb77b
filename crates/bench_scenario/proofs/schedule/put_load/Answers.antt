use Rattle.std.proofs.Common.{[], ◌∷◌, arith, drop}
use Rattle.std.proofs.lemmas.List.{drop_all}
use Rattle.bench_core.specs.State.{Load as LoadChange}
use Rattle.bench_workers.specs.Events.{Stage}
use Rattle.bench_scenario.specs.inner.Rows.{of_pulse}
use Rattle.bench_scenario.proofs.RowLemmas.{all_added, nodes_added}
use Rattle.bench_scenario.proofs.schedule.put_load.Goals as goal

pub returns : goal.returns
returns c =
    let load = c.args.load.now in
    nodes_added _ _ load
    (all_added (λ p node. of_pulse load.pulse (Stage (LoadChange node load.program) ∷ []) p) _ _
    (drop c.loop-node.node-index c.deref-node-items.result.now) load.nodes.items
    (drop_all c.loop-node.node-index c.deref-node-items.result.now (omega arith)) c.loop-node.invariant)
