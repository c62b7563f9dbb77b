-- What `run --trace` leaves on its output (docs/COMMANDS.md, "What run --trace prints").
use Rattle.std.specs.Prelude.{◌≡◌, ℕ, List, ◌++◌, codes, Option, Result}
use Rattle.std.specs.Fmt.{decimal}
use Rattle.node_env.specs.Env.{Extent}
use Rattle.bpf_machine.specs.Run.{End}
use Rattle.bench_core.specs.State.{State}
use Rattle.bench_core.specs.Told.{RanTo}
use Rattle.bench_workers.specs.Opening.{OpensPulse}
use Rattle.scenario_text.specs.declared.scenario.Scenario.{Scenario}
use Rattle.bench_scenario.specs.declared.inputs.NodeInput.{NodeInput}
use Rattle.bench_scenario.specs.Events.{events_of}
use Rattle.bench_scenario.specs.Inputs.{IsInputOf, input_setting}
use Rattle.bench_scenario.specs.Runs.{bench_of}
use Rattle.run_trace.specs.Steps.{TracedStep, steps_of}
use Rattle.command_answers.specs.declared.ending.Ending.{Ending}
use Rattle.command_answers.specs.declared.fault.Fault.{Fault}
use Rattle.requests.specs.declared.request.NodeInPulse.{NodeInPulse}
use Rattle.command_answers.specs.Left.{left_lines, mail_text, memory_line}
use Rattle.run_commands.specs.NodeRule.{AreStepLines, IsRuleOf, sizes_for}
use Rattle.command_answers.specs.Faults.{IsOutOfMemory}
use Rattle.run_commands.specs.NodeText.{IsNodeText, node_output, node_text_ending}
use Rattle.command_answers.specs.Output.{LeavesAny}

-- ---- the lines

-- the pulse and the node, and its memory when the pulse begins
abbrev pub place_lines : ℕ → ℕ → List ℕ → List ℕ
place_lines pulse node memory =
    codes "pulse " ++ (decimal pulse ++ (codes " node " ++ (decimal node ++ (codes "\n"
    ++ (memory_line memory ++ codes "\n")))))

-- the input, each part in the form that an option of `exec` takes
abbrev pub input_lines : ℕ → ℕ → NodeInput → List ℕ
input_lines pulse node x =
    place_lines pulse node x.memory.items
    ++ (codes "mail " ++ (mail_text x.heard.items ++ (codes "\ncoin " ++ (decimal x.coin ++ codes "\n"))))

-- the steps of the run of this many
abbrev pub steps_in : Extent → ℕ → NodeInput → ℕ → List TracedStep
steps_in shape node x steps = steps_of x.program.program (input_setting shape node x) x.memory.items steps

-- how it ends in a bench of this many nodes: r0 and steps, then memory and messages, as `exec --show` prints them
abbrev pub end_lines : ℕ → End → List ℕ
end_lines nodes end =
    codes "r0 " ++ (decimal end.r0 ++ (codes " steps " ++ (decimal end.steps ++ (codes "\n"
    ++ left_lines (record { memory = end.memory; outbox = record { nodes = nodes; sent = end.sent } })))))

-- the rule of the program, if the scenario has one, and the lines of the input, of the steps and of the end
pub record AreRunLines (s : Scenario) (shape : Extent) (pulse node : ℕ) (x : NodeInput) (end : End) (lines : List ℕ)
    : Type 0 where
  pub rule : Option (List ℕ)
  pub is_rule : IsRuleOf s x.program.program rule
  pub told : List ℕ
  pub steps : AreStepLines (sizes_for s) x.program.program rule (steps_in shape node x end.steps) told
  pub whole : lines ≡ input_lines pulse node x ++ (told ++ end_lines shape.nodes end)

-- ---- the answer

-- the pulse is opened in the run of the scenario; this is what the node runs there, and this its complete run, of which
-- the pulse tells the steps; and these are their lines
pub record IsTracedRun (asked : NodeInPulse) (s : Scenario) (told : List ℕ) : Type 0 where
  pub coins : List ℕ
  pub state : State
  pub input : NodeInput
  pub end : End
  pub opened : OpensPulse (bench_of s) (events_of s) asked.pulse coins state
  pub is_input : IsInputOf state coins asked.node input
  pub run : RanTo (bench_of s) state coins asked.node end
  pub lines : AreRunLines s (bench_of s).shape asked.pulse asked.node input end told

-- the whole text, its first bytes if a write failed, or nothing if memory ran out
abbrev pub LeavesTracedRun : Option (List ℕ) → Option (List ℕ) → NodeInPulse → Scenario → Result Ending Fault → Type 0
LeavesTracedRun old new asked s result =
    LeavesAny (IsNodeText (IsTracedRun asked s) asked s) (node_output (codes "trace")) node_text_ending
    IsOutOfMemory old new result
