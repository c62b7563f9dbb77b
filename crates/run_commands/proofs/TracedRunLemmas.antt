-- The lines of a node's run in a pulse.
use Rattle.std.proofs.Common.{◌≡◌, ◌⊎◌, ℕ, List, ◌++◌, append_assoc, inl, inr, sym, ap, ◌∙◌, subst}
use Rattle.std.specs.Prelude.{Option, codes}
use Rattle.node_env.specs.Env.{Extent, Setting}
use Rattle.node_env.specs.Slots.{map_of}
use Rattle.bpf_insn.specs.declared.forms.Insn.{Insn}
use Rattle.bpf_machine.specs.declared.word.Outcome.{Outcome}
use Rattle.bpf_machine.specs.declared.word.Outcome.TheVariants.{Ended, OutOfFuel, Trap}
use Rattle.bpf_machine.specs.declared.word.TrapKind.{TrapKind}
use Rattle.bpf_machine.specs.Run.{CompleteRun, End}
use Rattle.run_trace.specs.Steps.{TracedStep, steps_of}
use Rattle.scenario_text.specs.declared.scenario.Scenario.{Scenario}
use Rattle.bench_scenario.specs.declared.inputs.NodeInput.{NodeInput}
use Rattle.bench_scenario.specs.Runs.{bench_of}
use Rattle.bench_scenario.proofs.InputLemmas.{ran_so}
use Rattle.requests.specs.declared.request.NodeInPulse.{NodeInPulse}
use Rattle.run_commands.specs.declared.node_lines.RunEnd.{RunEnd}
use Rattle.bench_scenario.specs.Inputs.{FitsInput, RunsIn, input_setting}
use Rattle.run_commands.specs.NodeRule.{AreStepLines, IsRuleOf, sizes_for}
use Rattle.run_commands.specs.TracedRun.{AreRunLines, IsTracedRun, end_lines, input_lines}
use Rattle.run_commands.specs.inner.TracedRun.{AreLinesOfSteps, end_in}

-- a text to which parts are added is that of the parts
pub added : (place mail coin first second third whole : List ℕ) → first ≡ place → second ≡ first ++ codes "mail "
    → third ≡ second ++ mail → whole ≡ third ++ (codes "\ncoin " ++ (coin ++ codes "\n"))
    → whole ≡ place ++ (codes "mail " ++ (mail ++ (codes "\ncoin " ++ (coin ++ codes "\n"))))
added place mail coin first second third whole a b d e =
    let end : List ℕ = codes "\ncoin " ++ (coin ++ codes "\n") in
    e ∙ (ap (λ (l : List ℕ). l ++ end) d
    ∙ (append_assoc second mail end
    ∙ (ap (λ (l : List ℕ). l ++ (mail ++ end)) (b ∙ ap (λ (l : List ℕ). l ++ codes "mail ") a)
    ∙ append_assoc place (codes "mail ") (mail ++ end))))

-- what the program sees is what the code makes for it
pub setting_made : (env : Setting) (shape : Extent) (node : ℕ) (x : NodeInput) → env.shape ≡ shape → env.id ≡ node
    → env.inbox ≡ map_of x.heard.items → env.coin ≡ x.coin → env ≡ input_setting shape node x
setting_made env shape node x same id inbox coin =
    λ k. record { shape = same k; id = id k; inbox = inbox k; coin = coin k }

-- a run that ends neither gets stuck nor runs out of fuel
pub no_other_end : (outcome : Outcome) (r0 steps : ℕ) → outcome ≡ Ended r0 steps
    → ((slot : ℕ) × (kind : TrapKind) × (outcome ≡ Trap slot kind)) ⊎ (outcome ≡ OutOfFuel) → ⊥
no_other_end outcome r0 steps ended (inl stuck) =
    let e : Ended r0 steps ≡ Trap stuck.0 stuck.1 = sym ended ∙ stuck.2 in absurd cc
no_other_end outcome r0 steps ended (inr out) =
    let e : Ended r0 steps ≡ OutOfFuel = sym ended ∙ out in absurd cc

-- the lines with more fuel are those of the steps
pub lines_told : (s : Scenario) (program : List Insn) (env : Setting) (memory begun : List ℕ) (fuel steps : ℕ)
    (told : List ℕ) → begun ≡ memory → steps_of program env memory fuel ≡ steps_of program env memory steps
    → AreLinesOfSteps s program env begun fuel told → AreLinesOfSteps s program env memory steps told
lines_told s program env memory begun fuel steps told begins same are =
    subst (λ (ss : List TracedStep). (rule : Option (List ℕ)) × IsRuleOf s program rule
    × AreStepLines (sizes_for s) program rule ss told) same
    (subst (λ (m : List ℕ). AreLinesOfSteps s program env m fuel told) begins are)

-- the lines of a run
pub lines_made : (s : Scenario) (pulse node : ℕ) (x : NodeInput) (env : Setting) (e : RunEnd)
    (told first next whole : List ℕ) → env ≡ input_setting x.program.shape node x
    → CompleteRun x.program.program env x.memory.items (end_in e) → e.left.outbox.nodes ≡ env.shape.nodes
    → first ≡ input_lines pulse node x → AreLinesOfSteps s x.program.program env x.memory.items e.steps told
    → next ≡ first ++ told → whole ≡ next ++ end_lines e.left.outbox.nodes (end_in e)
    → (end : End) × CompleteRun x.program.program (input_setting x.program.shape node x) x.memory.items end
    × AreRunLines s x.program.shape pulse node x end whole
lines_made s pulse node x env e told first next whole sees run nodes a are b d =
    let made = subst (λ (v : Setting). AreLinesOfSteps s x.program.program v x.memory.items e.steps told) sees are in
    let rest : ℕ → List ℕ = λ n. end_lines n (end_in e) in
    let count : e.left.outbox.nodes ≡ x.program.shape.nodes = nodes ∙ ap (λ (v : Setting). v.shape.nodes) sees in (
      end_in e,
      subst (λ (v : Setting). CompleteRun x.program.program v x.memory.items (end_in e)) sees run,
      record {
        rule = made.0;
        is_rule = made.1;
        told = told;
        steps = made.2;
        whole = d ∙ (ap (λ (n : ℕ). next ++ rest n) count
            ∙ (ap (λ (l : List ℕ). l ++ rest x.program.shape.nodes) (b ∙ ap (λ (l : List ℕ). l ++ told) a)
            ∙ append_assoc (input_lines pulse node x) told (rest x.program.shape.nodes)));
      },
    )

-- in its own shape
pub fits_own : (shape : Extent) (node : ℕ) (x : NodeInput) → FitsInput shape node x → FitsInput x.program.shape node x
fits_own shape node x fits = subst (λ (e : Extent). FitsInput e node x) (sym fits.program) fits

pub run_of : (asked : NodeInPulse) (lines : List ℕ) (s : Scenario) (x : NodeInput)
    → RunsIn s asked.pulse asked.node x → FitsInput (bench_of s).shape asked.node x
    → (end : End) × CompleteRun x.program.program (input_setting x.program.shape asked.node x) x.memory.items end
    × AreRunLines s x.program.shape asked.pulse asked.node x end lines → IsTracedRun asked s lines
run_of asked lines s x runs fits told = record {
  coins = runs.coins;
  state = runs.state;
  input = x;
  end = told.0;
  opened = runs.opened;
  is_input = runs.input;
  run = ran_so (bench_of s) runs.state runs.coins asked.node x told.0 runs.input fits
      (subst (λ (e : Extent). CompleteRun x.program.program (input_setting e asked.node x) x.memory.items told.0)
      fits.program told.1);
  lines = subst (λ (e : Extent). AreRunLines s e asked.pulse asked.node x told.0 lines) fits.program told.2;
}
