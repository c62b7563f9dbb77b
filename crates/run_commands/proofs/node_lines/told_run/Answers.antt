use Rattle.std.proofs.Common.{rules, ◌≡◌, ◌<◌, ℕ, List, subst}
use Rattle.std.specs.Prelude.{All}
use Rattle.node_env.specs.Env.{Extent}
use Rattle.bpf_machine.specs.Run.{RunAnswers}
use Rattle.bpf_machine.specs.declared.word.Outcome.{Outcome}
use Rattle.bpf_machine.specs.declared.word.Outcome.TheVariants.{Ended}
use Rattle.bpf_verify.specs.Typable.{Typable}
use Rattle.run_commands.proofs.TracedRunLemmas.{lines_told, no_other_end}
use Rattle.run_commands.proofs.node_lines.told_run.Goals as goal

pub unreachable-requires : goal.unreachable-requires
unreachable-requires c =
    let program = c.args.program.now.program in
    let env = c.args.env.now in
    let memory = c.args.memory.items in
    let budget = c.args.program.now.budget in
    let verified = c.step_lines.ensures.accepted in
    let typable : Typable program env.shape = subst (λ (s : Extent). Typable program s) c.requires.own verified.typable in
    let bytes : All (λ (byte : ℕ). byte < 256) memory = search rules in
    let end = c.runs_end.ensures.ends program env memory budget verified.program c.shape.ensures.setting typable
    verified.longest c.requires.memory bytes in
    let within = c.runs_end.ensures.within program env memory end.0 budget verified.program c.shape.ensures.setting
    typable verified.longest c.requires.memory bytes end.1 in
    let new = c.step_lines.new.memory in
    let sent = c.step_lines.new.outbox.sent in
    let outcome = c.in_ok-ran.ran.outcome in
    let begins : c.deref_mut.result.now ≡ memory = search rules in
    let ran = subst (λ (m : List ℕ). RunAnswers program env m budget new sent outcome) begins c.in_ok-ran.ensures.run in
    let same = c.one_run.ensures.answer program env memory budget new end.0.memory sent end.0.sent outcome
    (Ended end.0.r0 end.0.steps) ran (within, end.1) in
    no_other_end outcome end.0.r0 end.0.steps same.0 c.in-Trap.is

pub returns-clause-lines : goal.returns-clause-lines
returns-clause-lines c =
    let program = c.args.program.now.program in
    let env = c.args.env.now in
    let memory = c.args.memory.items in
    let budget = c.args.program.now.budget in
    let new = c.step_lines.new.memory in
    let sent = c.step_lines.new.outbox.sent in
    let begins : c.deref_mut.result.now ≡ memory = search rules in
    let ran = subst (λ (o : Outcome). RunAnswers program env memory budget new sent o) c.in-Ended.is
    (subst (λ (m : List ℕ). RunAnswers program env m budget new sent c.in_ok-ran.ran.outcome) begins
    c.in_ok-ran.ensures.run) in
    lines_told c.args.scenario.now program env memory c.deref_mut.result.now budget c.in-Ended.steps
    c.in_ok-ran.ran.listing.items begins
    (c.more_fuel_tells_no_more.ensures program env memory budget new sent c.in-Ended.r0 c.in-Ended.steps ran)
    c.in_ok-ran.ensures.lines
