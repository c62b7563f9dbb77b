use Rattle.std.proofs.Common.{◌≡◌}
use Rattle.bpf_machine.specs.Machine.{Running, state_of}
use Rattle.bpf_machine.specs.Run.{Leads}
use Rattle.bpf_machine.proofs.run.go_on.Given as goal

abbrev pub invariant-loop-taken : goal.invariant-loop-taken
invariant-loop-taken l =
    record {
      there : Leads l.program l.env l.taken (Running (state_of l.fn.state l.fn.memory l.fn.outbox.sent))
          (Running (state_of l.state l.memory l.outbox.sent));
      nodes : l.outbox.nodes ≡ l.env.shape.nodes;
      same : l.outbox.nodes ≡ l.fn.outbox.nodes;
    }
