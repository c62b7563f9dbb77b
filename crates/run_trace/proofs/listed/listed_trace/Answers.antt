use Rattle.std.proofs.Common.{◌≡◌, ◌+◌, ◌-◌, ◌++◌, ◌∙◌, List, ap, arith, rules, subst}
use Rattle.bpf_machine.specs.Machine.{state_of}
use Rattle.bpf_machine.specs.Run.{RunsTo, Turns}
use Rattle.bpf_machine.proofs.RunSteps.{ended_answers, fuel_answers, next_runs, trap_answers}
use Rattle.rule_listing.specs.Listing.{line_at}
use Rattle.run_trace.specs.Lines.{listed_steps_from, listed_text}
use Rattle.run_trace.specs.Steps.{TracedStep, step_at, steps_from, steps_of}
use Rattle.run_trace.proofs.ListedLemmas.{listed_all, listed_more}
use Rattle.run_trace.proofs.StepLemmas.{end_follows, first_step, next_follows, trap_follows}
use Rattle.run_trace.proofs.listed.listed_trace.Goals as goal

pub returns-in-Ended-clause-listing : goal.returns-in-Ended-clause-listing
returns-in-Ended-clause-listing c =
    let rule = c.args.rule.now in
    let program = rule.program.now in
    let env = c.args.env.now in
    let old = state_of c.loop-taken.state c.loop-taken.memory c.loop-taken.outbox.sent in
    let new = state_of c.told_step-turn.new.state c.told_step-turn.new.memory c.told_step-turn.new.outbox.sent in
    let more = steps_from program env (c.args.fuel - (c.loop-taken.taken + 1)) in
    listed_all rule.text.now rule.lines.now program _ _ c.line_at-line.result (c.loop-taken.taken + 1 + 1) _
    (listed_more rule.text.now rule.lines.now program _ _ _ _ _ _ _ (c.loop-taken.taken + 1) (step_at program env old)
    _ _ c.loop-taken.invariant.told (first_step program env old c.loop-taken.taken c.args.fuel c.loop-taken-test.true)
    (c.line_at-line.ensures ∙ ap (line_at rule.lines.now) c.slot.ensures) c.in_ok-push_heading.ensures
    c.told_step-turn.ensures.line c.in_ok-push_step.ensures)
    (end_follows program env old new c.in-Ended.r0 more
    (subst (Turns program env old new) c.in-Ended.is c.told_step-turn.ensures.turns))

pub returns-in-Trap-clause-listing : goal.returns-in-Trap-clause-listing
returns-in-Trap-clause-listing c =
    let rule = c.args.rule.now in
    let program = rule.program.now in
    let env = c.args.env.now in
    let old = state_of c.loop-taken.state c.loop-taken.memory c.loop-taken.outbox.sent in
    let new = state_of c.told_step-turn.new.state c.told_step-turn.new.memory c.told_step-turn.new.outbox.sent in
    let more = steps_from program env (c.args.fuel - (c.loop-taken.taken + 1)) in
    listed_all rule.text.now rule.lines.now program _ _ c.line_at-line.result (c.loop-taken.taken + 1 + 1) _
    (listed_more rule.text.now rule.lines.now program _ _ _ _ _ _ _ (c.loop-taken.taken + 1) (step_at program env old)
    _ _ c.loop-taken.invariant.told (first_step program env old c.loop-taken.taken c.args.fuel c.loop-taken-test.true)
    (c.line_at-line.ensures ∙ ap (line_at rule.lines.now) c.slot.ensures) c.in_ok-push_heading.ensures
    c.told_step-turn.ensures.line c.in_ok-push_step.ensures)
    (trap_follows program env old new c.in-Trap.kind more
    (subst (Turns program env old new) c.in-Trap.is c.told_step-turn.ensures.turns))

pub returns-in-Ended-clause-run : goal.returns-in-Ended-clause-run
returns-in-Ended-clause-run c =
    let program = c.args.rule.now.program.now in
    let old = state_of c.loop-taken.state c.loop-taken.memory c.loop-taken.outbox.sent in
    let new = state_of c.told_step-turn.new.state c.told_step-turn.new.memory c.told_step-turn.new.outbox.sent in
    ended_answers _ _ _ _ _ _ old new c.loop-taken-test.true c.loop-taken.invariant.there
    (subst (Turns program c.args.env.now old new) c.in-Ended.is c.told_step-turn.ensures.turns)

pub returns-in-Trap-clause-run : goal.returns-in-Trap-clause-run
returns-in-Trap-clause-run c =
    let program = c.args.rule.now.program.now in
    let old = state_of c.loop-taken.state c.loop-taken.memory c.loop-taken.outbox.sent in
    let new = state_of c.told_step-turn.new.state c.told_step-turn.new.memory c.told_step-turn.new.outbox.sent in
    rw c.slot-in-Trap.ensures
    (trap_answers _ _ _ _ _ _ old new c.loop-taken-test.true c.loop-taken.invariant.there
    (subst (Turns program c.args.env.now old new) c.in-Trap.is c.told_step-turn.ensures.turns))

pub returns-clause-run : goal.returns-clause-run
returns-clause-run c =
    let all : c.loop-taken.taken ≡ c.args.fuel = omega arith in
    fuel_answers _ _ _ _ (state_of c.loop-taken.state c.loop-taken.memory c.loop-taken.outbox.sent)
    (subst (λ n. RunsTo c.args.rule.now.program.now c.args.env.now c.args.memory.now n
    (state_of c.loop-taken.state c.loop-taken.memory c.loop-taken.outbox.sent)) all c.loop-taken.invariant.there)

pub loop-taken-preserved : goal.loop-taken-preserved
loop-taken-preserved c =
    let rule = c.args.rule.now in
    let program = rule.program.now in
    let env = c.args.env.now in
    let old = state_of c.loop-taken.state c.loop-taken.memory c.loop-taken.outbox.sent in
    let new = state_of c.told_step-turn.new.state c.told_step-turn.new.memory c.told_step-turn.new.outbox.sent in
    let more = steps_from program env (c.args.fuel - (c.loop-taken.taken + 1)) in
    let turned = subst (Turns program env old new) c.in-Next.is c.told_step-turn.ensures.turns in
    record {
      there = next_runs _ _ _ _ old new c.loop-taken.invariant.there turned;
      told = subst (λ (rest : List TracedStep). listed_text rule.text.now rule.lines.now program
          (steps_of program env c.args.memory.now c.args.fuel) ≡ c.push_step.new.listing.items
          ++ listed_steps_from rule.text.now rule.lines.now program c.line_at-line.result (c.loop-taken.taken + 1 + 1) rest)
          (next_follows program env old new more turned)
          (listed_more rule.text.now rule.lines.now program _ _ _ _ _ _ _ (c.loop-taken.taken + 1)
          (step_at program env old) _ _ c.loop-taken.invariant.told
          (first_step program env old c.loop-taken.taken c.args.fuel c.loop-taken-test.true)
          (c.line_at-line.ensures ∙ ap (line_at rule.lines.now) c.slot.ensures) c.in_ok-push_heading.ensures
          c.told_step-turn.ensures.line c.in_ok-push_step.ensures);
      nodes = search rules;
      same = search rules;
    }
