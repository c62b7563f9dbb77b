use Rattle.std.proofs.Common.{◌≡◌, ◌+◌, ◌-◌, ◌++◌}
use Rattle.bpf_machine.specs.Machine.{state_of}
use Rattle.bpf_machine.specs.Run.{RunsTo}
use Rattle.run_trace.specs.Lines.{listed_steps_from, listed_text}
use Rattle.run_trace.specs.Steps.{steps_from, steps_of}
use Rattle.run_trace.proofs.listed.listed_trace.Given as goal

abbrev pub invariant-loop-taken : goal.invariant-loop-taken
invariant-loop-taken l = record {
  there : RunsTo l.program l.env l.fn.memory l.taken (state_of l.state l.memory l.outbox.sent);
  told : listed_text l.text l.lines l.program (steps_of l.program l.env l.fn.memory l.fuel)
      ≡ l.listing.items ++ listed_steps_from l.text l.lines l.program l.before (l.taken + 1)
      (steps_from l.program l.env (l.fuel - l.taken) (state_of l.state l.memory l.outbox.sent));
  nodes : l.outbox.nodes ≡ l.env.shape.nodes;
  same : l.outbox.nodes ≡ l.fn.outbox.nodes;
}
