use Rattle.std.proofs.Common.{◌≡◌, ◌++◌, drop}
use Rattle.bench_core.specs.Tasks.{tasks_from}
use Rattle.bench_core.specs.inner.OpenPulse.{setup_in, tasks_by}
use Rattle.bench_core.proofs.pulse.tasks.Given as goal

abbrev pub invariant-loop-node : goal.invariant-loop-node
invariant-loop-node l =
    l.tasks.items ++ tasks_from (setup_in l.pulse) l.pulse.mail.now l.pulse.coins.now l.pulse.opening l.node
    (drop l.node l.pulse.nodes.now)
    ≡ tasks_by l.pulse
