use Rattle.std.proofs.Common.{◌≡◌, length}
use Rattle.bpf_machine.specs.Machine.{state_of}
use Rattle.bounded_runs.specs.inner.Similar.{AreFollowed}
use Rattle.bounded_runs.specs.inner.Run.{bound_of_run}
use Rattle.bounded_runs.proofs.run.all_follow.Given as goal

abbrev pub invariant-loop-taken : goal.invariant-loop-taken
invariant-loop-taken l = record {
  followed : AreFollowed l.view.program.now (bound_of_run l.view) l.view.env.now l.initial.memory l._taken
      (state_of l.run.state l.memory l.outbox.sent) l.run.marks;
  memory : length l.memory ≡ l.view.env.now.shape.memory;
  nodes : l.outbox.nodes ≡ l.view.env.now.shape.nodes;
}
