-- What `dis --node` leaves on its output (docs/COMMANDS.md, "What dis prints").
use Rattle.std.specs.Prelude.{ℕ, List, codes, Option, Result}
use Rattle.scenario_text.specs.declared.scenario.Scenario.{Scenario}
use Rattle.bench_scenario.specs.declared.inputs.NodeInput.{NodeInput}
use Rattle.bench_scenario.specs.Inputs.{RunsIn}
use Rattle.command_answers.specs.declared.ending.Ending.{Ending}
use Rattle.command_answers.specs.declared.fault.Fault.{Fault}
use Rattle.requests.specs.declared.request.NodeProgramOptions.{NodeProgramOptions}
use Rattle.command_answers.specs.Faults.{IsOutOfMemory}
use Rattle.run_commands.specs.NodeRule.{IsProgramText, IsRuleOf, sizes_for}
use Rattle.run_commands.specs.NodeText.{IsNodeText, node_output, node_text_ending}
use Rattle.command_answers.specs.Output.{LeavesAny}

-- the text, or the listing, of the program that the node runs in that pulse of the scenario's run, and its rule, if the
-- scenario has one
pub record IsNodeProgramText (asked : NodeProgramOptions) (s : Scenario) (lines : List ℕ) : Type 0 where
  pub input : NodeInput
  pub runs : RunsIn s asked.place.pulse asked.place.node input
  pub rule : Option (List ℕ)
  pub is_rule : IsRuleOf s input.program.program rule
  pub text : IsProgramText (sizes_for s) input.program.program rule asked.list lines

-- the whole text, its first bytes if a write failed, or nothing if memory ran out
abbrev pub LeavesNodeProgram : Option (List ℕ) → Option (List ℕ) → NodeProgramOptions → Scenario → Result Ending Fault
    → Type 0
LeavesNodeProgram old new asked s result =
    LeavesAny (IsNodeText (IsNodeProgramText asked s) asked.place s) (node_output (codes "program")) node_text_ending
    IsOutOfMemory old new result
