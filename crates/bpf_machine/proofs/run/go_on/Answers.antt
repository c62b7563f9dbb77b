use Rattle.std.proofs.Common.{◌≡◌, arith, refl, rules, subst}
use Rattle.bpf_machine.specs.declared.word.Turn.TheVariants as turn
use Rattle.bpf_machine.specs.Machine.{Running, state_of}
use Rattle.bpf_machine.specs.Run.{Leads}
use Rattle.bpf_machine.proofs.GoesOn.{ends_there, goes_further, stuck_there}
use Rattle.bpf_machine.proofs.Stuck.{turn_of}
use Rattle.bpf_machine.proofs.run.go_on.Goals as goal

pub returns-in-Ended-clause-went : goal.returns-in-Ended-clause-went
returns-in-Ended-clause-went c =
    ends_there _ _ _ _ _ (state_of c.args.state.now c.args.memory.now c.args.outbox.now.sent)
    (state_of c.loop-taken.state c.loop-taken.memory c.loop-taken.outbox.sent)
    (state_of c.turn.new.state c.turn.new.memory c.turn.new.outbox.sent)
    c.loop-taken-test.true c.loop-taken.invariant.there
    (turn_of _ _ _ _ (turn.Ended c.in-Ended.r0) (omega arith) c.in-Ended.ensures.comes)

pub returns-in-Trap-clause-went : goal.returns-in-Trap-clause-went
returns-in-Trap-clause-went c =
    stuck_there _ _ _ _ _ (state_of c.args.state.now c.args.memory.now c.args.outbox.now.sent)
    (state_of c.loop-taken.state c.loop-taken.memory c.loop-taken.outbox.sent)
    (state_of c.turn.new.state c.turn.new.memory c.turn.new.outbox.sent)
    c.loop-taken-test.true c.loop-taken.invariant.there
    (turn_of _ _ _ _ (turn.Trap c.in-Trap.kind) (omega arith) c.in-Trap.ensures.comes)

pub loop-taken-preserved : goal.loop-taken-preserved
loop-taken-preserved c =
    record {
      there = goes_further _ _ _ (state_of c.args.state.now c.args.memory.now c.args.outbox.now.sent)
          (state_of c.loop-taken.state c.loop-taken.memory c.loop-taken.outbox.sent)
          (state_of c.turn.new.state c.turn.new.memory c.turn.new.outbox.sent) c.loop-taken.invariant.there
          c.in-Next.ensures.comes;
      nodes = search rules;
      same = search rules;
    }

pub returns-clause-went : goal.returns-clause-went
returns-clause-went c =
    let all : c.loop-taken.taken ≡ c.args.fuel = omega arith in (
      refl,
      subst (λ n. Leads c.args.program.now c.args.env.now n
          (Running (state_of c.args.state.now c.args.memory.now c.args.outbox.now.sent))
          (Running (state_of c.loop-taken.state c.loop-taken.memory c.loop-taken.outbox.sent))) all
          c.loop-taken.invariant.there,
    )
