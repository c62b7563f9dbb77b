use Rattle.std.proofs.Common.{rules, ◌≡◌, ◌∙◌, ℕ, List, None, ap, subst}
use Rattle.std.specs.Prelude.{IfOk}
use Rattle.bpf_insn.specs.declared.forms.Insn.{Insn}
use Rattle.bpf_machine.specs.Run.{RunAnswers}
use Rattle.bench_moves.proofs.Rows.{ok_mapped}
use Rattle.run_trace.specs.Lines.{trace_text}
use Rattle.run_trace.specs.Steps.{steps_of}
use Rattle.run_commands.specs.NodeRule.{IsRuleOf}
use Rattle.run_commands.proofs.node_lines.step_lines.Goals as goal

pub returns-in-None-clause-run : goal.returns-in-None-clause-run
returns-in-None-clause-run c =
    let env = c.args.env.now in
    let memory = c.args.memory.now in
    let new = c.plain_lines.new.memory in
    let sent = c.plain_lines.new.outbox.sent in
    let budget : c.from-fuel.result ≡ c.args.program.now.budget = search rules in
    subst (λ (p : List Insn). IfOk c.plain_lines.result
    (λ ran. RunAnswers p env memory c.args.program.now.budget new sent ran.outcome)) c.program-program.ensures.value
    (subst (λ (n : ℕ). IfOk c.plain_lines.result
    (λ ran. RunAnswers c.program-program.result.now env memory n new sent ran.outcome)) budget
    c.plain_lines.ensures.run)

pub returns-in-None-clause-lines : goal.returns-in-None-clause-lines
returns-in-None-clause-lines c =
    let env = c.args.env.now in
    let memory = c.args.memory.now in
    let own = c.program-program.ensures.value in
    let program = c.args.program.now.program in
    let budget : c.from-fuel.result ≡ c.args.program.now.budget = search rules in
    let none : IsRuleOf c.args.scenario.now program None =
    subst (λ (p : List Insn). IsRuleOf c.args.scenario.now p None) own (rw c.in-None.is at c.in_ok-rule_of.ensures) in
    ok_mapped c.plain_lines.result
    (λ ran is. (
      None,
      none,
      is ∙ (ap (λ (p : List Insn). trace_text p (steps_of p env memory c.from-fuel.result)) own
          ∙ ap (λ (n : ℕ). trace_text program (steps_of program env memory n)) budget),
    )) c.plain_lines.ensures.lines

pub returns-in_ok-lines-in-Some-clause-run : goal.returns-in_ok-lines-in-Some-clause-run
returns-in_ok-lines-in-Some-clause-run c =
    let env = c.args.env.now in
    let memory = c.args.memory.now in
    let new = c.listed_trace.new.memory in
    let sent = c.listed_trace.new.outbox.sent in
    let budget : c.from-fuel.result ≡ c.args.program.now.budget = search rules in
    subst (λ (p : List Insn). IfOk c.listed_trace.result
    (λ ran. RunAnswers p env memory c.args.program.now.budget new sent ran.outcome)) c.program-program.ensures.value
    (subst (λ (n : ℕ). IfOk c.listed_trace.result
    (λ ran. RunAnswers c.program-program.result.now env memory n new sent ran.outcome)) budget
    c.listed_trace.ensures.run)
