use Rattle.bpf_machine.specs.Machine.{state_of}
use Rattle.bpf_machine.proofs.GoesOn.{enters, run_ends, run_is_out_of_fuel, run_is_stuck}
use Rattle.bpf_machine.proofs.run.run.Goals as goal

pub returns-in-Next-clause-run : goal.returns-in-Next-clause-run
returns-in-Next-clause-run c =
    run_is_out_of_fuel _ _ _ _ c.go_on-taken.result.0
    (state_of c.entry-state.result c.args.memory.now c.clear.new.self.sent)
    (state_of c.go_on-taken.new.state c.go_on-taken.new.memory c.go_on-taken.new.outbox.sent) _
    (enters c.args.env.now _ _ _ c.entry-state.ensures c.clear.ensures.empty) c.in-Next.is c.go_on-taken.ensures.went

pub returns-in-Ended-clause-run : goal.returns-in-Ended-clause-run
returns-in-Ended-clause-run c =
    run_ends _ _ _ _ c.go_on-taken.result.0 _
    (state_of c.entry-state.result c.args.memory.now c.clear.new.self.sent)
    (state_of c.go_on-taken.new.state c.go_on-taken.new.memory c.go_on-taken.new.outbox.sent) _
    (enters c.args.env.now _ _ _ c.entry-state.ensures c.clear.ensures.empty) c.in-Ended.is c.go_on-taken.ensures.went

pub returns-in-Trap-clause-run : goal.returns-in-Trap-clause-run
returns-in-Trap-clause-run c =
    rw c.slot.ensures
    (run_is_stuck _ _ _ _ c.go_on-taken.result.0 _
    (state_of c.entry-state.result c.args.memory.now c.clear.new.self.sent)
    (state_of c.go_on-taken.new.state c.go_on-taken.new.memory c.go_on-taken.new.outbox.sent) _
    (enters c.args.env.now _ _ _ c.entry-state.ensures c.clear.ensures.empty) c.in-Trap.is c.go_on-taken.ensures.went)
