use Rattle.std.proofs.Common.{◌≡◌, ◌+◌, ◌-◌, arith, rules, subst}
use Rattle.bpf_machine.specs.Machine.{state_of}
use Rattle.bpf_machine.specs.Run.{RunsTo, Turns}
use Rattle.bpf_machine.proofs.RunSteps.{ended_answers, fuel_answers, next_runs, trap_answers}
use Rattle.run_trace.specs.Steps.{step_at, steps_from, steps_of}
use Rattle.run_trace.specs.inner.Parts.{step_line_in}
use Rattle.run_trace.proofs.StepLemmas.{end_follows, first_step, next_follows, trap_follows}
use Rattle.run_trace.proofs.TextLemmas.{Told, all_told, line_broken, told_more}
use Rattle.run_trace.proofs.tracing.trace.Goals as goal

pub returns-in_err-written-clause-trace : goal.returns-in_err-written-clause-trace
returns-in_err-written-clause-trace g c =
    let old = state_of c.loop-taken.state c.loop-taken.memory c.loop-taken.outbox.sent in
    line_broken _ _ _ c.args.program.now _ _ _ (step_at c.args.program.now c.args.env.now old) c.loop-taken.taken
    c.loop-taken.written (step_line_in c.told_step-turn.result.1) c.in_err-written.field-0.0 c.from_residual.result
    c.loop-taken.invariant.told
    (first_step c.args.program.now c.args.env.now old c.loop-taken.taken c.args.fuel c.loop-taken-test.true)
    c.told_step-turn.ensures.line c.in_err-written.ensures.fault c.from_residual.ensures.1

pub returns-in-Ended-clause-run : goal.returns-in-Ended-clause-run
returns-in-Ended-clause-run g c =
    let old = state_of c.loop-taken.state c.loop-taken.memory c.loop-taken.outbox.sent in
    let new = state_of c.told_step-turn.new.state c.told_step-turn.new.memory c.told_step-turn.new.outbox.sent in
    ended_answers _ _ _ _ _ _ old new c.loop-taken-test.true c.loop-taken.invariant.there
    (subst (Turns c.args.program.now c.args.env.now old new) c.in-Ended.is c.told_step-turn.ensures.turns)

pub returns-in-Ended-clause-trace : goal.returns-in-Ended-clause-trace
returns-in-Ended-clause-trace g c =
    let program = c.args.program.now in
    let env = c.args.env.now in
    let old = state_of c.loop-taken.state c.loop-taken.memory c.loop-taken.outbox.sent in
    let new = state_of c.told_step-turn.new.state c.told_step-turn.new.memory c.told_step-turn.new.outbox.sent in
    let more = steps_from program env (c.args.fuel - (c.loop-taken.taken + 1)) in
    all_told _ _ program _ _ (c.loop-taken.taken + 1) c.in_ok-written.written
    (told_more _ _ _ program _ _ _ (step_at program env old) c.loop-taken.taken c.loop-taken.written
    c.in_ok-written.written (step_line_in c.told_step-turn.result.1) c.loop-taken.invariant.told
    (first_step program env old c.loop-taken.taken c.args.fuel c.loop-taken-test.true)
    c.told_step-turn.ensures.line c.in_ok-written.ensures.told)
    (end_follows program env old new c.in-Ended.r0 more
    (subst (Turns program env old new) c.in-Ended.is c.told_step-turn.ensures.turns))

pub returns-in-Trap-clause-run : goal.returns-in-Trap-clause-run
returns-in-Trap-clause-run g c =
    let old = state_of c.loop-taken.state c.loop-taken.memory c.loop-taken.outbox.sent in
    let new = state_of c.told_step-turn.new.state c.told_step-turn.new.memory c.told_step-turn.new.outbox.sent in
    rw c.slot.ensures
    (trap_answers _ _ _ _ _ _ old new c.loop-taken-test.true c.loop-taken.invariant.there
    (subst (Turns c.args.program.now c.args.env.now old new) c.in-Trap.is c.told_step-turn.ensures.turns))

pub returns-in-Trap-clause-trace : goal.returns-in-Trap-clause-trace
returns-in-Trap-clause-trace g c =
    let program = c.args.program.now in
    let env = c.args.env.now in
    let old = state_of c.loop-taken.state c.loop-taken.memory c.loop-taken.outbox.sent in
    let new = state_of c.told_step-turn.new.state c.told_step-turn.new.memory c.told_step-turn.new.outbox.sent in
    let more = steps_from program env (c.args.fuel - (c.loop-taken.taken + 1)) in
    all_told _ _ program _ _ (c.loop-taken.taken + 1) c.in_ok-written.written
    (told_more _ _ _ program _ _ _ (step_at program env old) c.loop-taken.taken c.loop-taken.written
    c.in_ok-written.written (step_line_in c.told_step-turn.result.1) c.loop-taken.invariant.told
    (first_step program env old c.loop-taken.taken c.args.fuel c.loop-taken-test.true)
    c.told_step-turn.ensures.line c.in_ok-written.ensures.told)
    (trap_follows program env old new c.in-Trap.kind more
    (subst (Turns program env old new) c.in-Trap.is c.told_step-turn.ensures.turns))

pub loop-taken-preserved : goal.loop-taken-preserved
loop-taken-preserved g c =
    let program = c.args.program.now in
    let env = c.args.env.now in
    let old = state_of c.loop-taken.state c.loop-taken.memory c.loop-taken.outbox.sent in
    let new = state_of c.told_step-turn.new.state c.told_step-turn.new.memory c.told_step-turn.new.outbox.sent in
    let more = steps_from program env (c.args.fuel - (c.loop-taken.taken + 1)) in
    let turned = subst (Turns program env old new) c.in-Next.is c.told_step-turn.ensures.turns in
    record {
      there = next_runs _ _ _ _ old new c.loop-taken.invariant.there turned;
      told = subst (λ r. Told (g.W.Write.contents c.args.out.now) (g.W.Write.contents c.write_line.new.out) program
          (steps_of program env c.args.memory.now c.args.fuel) r (c.loop-taken.taken + 1) c.in_ok-written.written)
          (next_follows program env old new more turned)
          (told_more _ _ _ program _ _ _ (step_at program env old) c.loop-taken.taken c.loop-taken.written
          c.in_ok-written.written (step_line_in c.told_step-turn.result.1) c.loop-taken.invariant.told
          (first_step program env old c.loop-taken.taken c.args.fuel c.loop-taken-test.true)
          c.told_step-turn.ensures.line c.in_ok-written.ensures.told);
      nodes = search rules;
      same = search rules;
    }

pub returns-clause-run : goal.returns-clause-run
returns-clause-run g c =
    let all : c.loop-taken.taken ≡ c.args.fuel = omega arith in
    fuel_answers _ _ _ _ (state_of c.loop-taken.state c.loop-taken.memory c.loop-taken.outbox.sent)
    (subst (λ n. RunsTo c.args.program.now c.args.env.now c.args.memory.now n
    (state_of c.loop-taken.state c.loop-taken.memory c.loop-taken.outbox.sent)) all c.loop-taken.invariant.there)
