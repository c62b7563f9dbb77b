-- Beside TracedRun: what proofs and private contracts alone cite.
use Rattle.std.specs.Prelude.{ℕ, List, Option}
use Rattle.node_env.specs.Env.{Setting}
use Rattle.bpf_insn.specs.declared.forms.Insn.{Insn}
use Rattle.bpf_machine.specs.Run.{End}
use Rattle.run_trace.specs.Steps.{steps_of}
use Rattle.scenario_text.specs.declared.scenario.Scenario.{Scenario}
use Rattle.run_commands.specs.declared.node_lines.RunEnd.{RunEnd}
use Rattle.run_commands.specs.NodeRule.{AreStepLines, IsRuleOf, sizes_for}

-- how a run ended, as the machine tells it
abbrev pub end_in : RunEnd → End
end_in e = record { steps = e.steps; memory = e.left.memory.items; sent = e.left.outbox.sent; r0 = e.r0 }

-- the lines of steps, by the rule of the program if there is one
abbrev pub AreLinesOfSteps : Scenario → List Insn → Setting → List ℕ → ℕ → List ℕ → Type 0
AreLinesOfSteps s program env memory steps told = (rule : Option (List ℕ)) × IsRuleOf s program rule
    × AreStepLines (sizes_for s) program rule (steps_of program env memory steps) told
