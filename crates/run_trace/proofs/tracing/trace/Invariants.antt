use Rattle.std.proofs.Common.{◌≡◌, ◌-◌}
use Rattle.bpf_machine.specs.Machine.{state_of}
use Rattle.bpf_machine.specs.Run.{RunsTo}
use Rattle.run_trace.specs.Steps.{steps_from, steps_of}
use Rattle.run_trace.proofs.TextLemmas.{Told}
use Rattle.run_trace.proofs.tracing.trace.Given as goal

abbrev pub invariant-loop-taken : goal.invariant-loop-taken
invariant-loop-taken g l =
    record {
      there : RunsTo l.program l.env l.fn.memory l.taken (state_of l.state l.memory l.outbox.sent);
      told : Told (g.W.Write.contents l.fn.out) (g.W.Write.contents l.out) l.program
          (steps_of l.program l.env l.fn.memory l.fuel)
          (steps_from l.program l.env (l.fuel - l.taken) (state_of l.state l.memory l.outbox.sent)) l.taken l.written;
      nodes : l.outbox.nodes ≡ l.env.shape.nodes;
      same : l.outbox.nodes ≡ l.fn.outbox.nodes;
    }
