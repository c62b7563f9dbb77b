use Rattle.bpf_machine.specs.Machine.{state_of}
use Rattle.bpf_machine.proofs.GoesOn.{one_turn}
use Rattle.bpf_machine.proofs.run.step.Goals as goal

pub returns-clause-turns : goal.returns-clause-turns
returns-clause-turns c =
    one_turn c.args.program.now c.args.env.now (state_of c.args.state.now c.args.memory.now c.args.outbox.now.sent)
    (state_of c.go_on-turn.new.state c.go_on-turn.new.memory c.go_on-turn.new.outbox.sent)
    c.go_on-turn.result.0 c.go_on-turn.result.1 c.go_on-turn.ensures.went
