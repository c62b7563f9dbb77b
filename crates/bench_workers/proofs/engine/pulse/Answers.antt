use Rattle.std.proofs.Common.{refl}
use Rattle.bench_workers.proofs.Showing.{exact_results}
use Rattle.bench_workers.proofs.engine.pulse.Goals as goal

pub steps_by_node-requires : goal.steps_by_node-requires
steps_by_node-requires g c =
    exact_results c.args.bench.now c.open_pulse.new.self c.deref.result.now c.in-Ok.tasks.items
    c.in-Ok-run_tasks.dones.items c.deref-2.result.now c.in-Ok.ensures.ok c.history-history.ensures.setup
    c.history-history.ensures.replays c.in-Ok.ensures.tasks c.in-Ok-run_tasks.ensures.ran c.deref-2.ensures.value

pub close_own-requires-clause-exact : goal.close_own-requires-clause-exact
close_own-requires-clause-exact g c =
    exact_results c.args.bench.now c.open_pulse.new.self c.deref.result.now c.in-Ok.tasks.items
    c.in-Ok-run_tasks.dones.items c.in-Ok-run_tasks.dones.items c.in-Ok.ensures.ok c.history-history.ensures.setup
    c.history-history.ensures.replays c.in-Ok.ensures.tasks c.in-Ok-run_tasks.ensures.ran refl
