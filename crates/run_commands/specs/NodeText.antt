-- What a scenario has of a node in a pulse, and the line that says why it has nothing (docs/COMMANDS.md, "What run
-- --trace prints" and "What dis prints").
use Rattle.std.specs.Prelude.{◌<◌, ◌≤◌, ℕ, List, ◌++◌, codes}
use Rattle.scenario_text.specs.declared.scenario.Scenario.{Scenario}
use Rattle.bench_scenario.specs.Inputs.{HasPulse, RestsIn}
use Rattle.command_answers.specs.declared.ending.Ending.{Ending}
use Rattle.command_answers.specs.declared.ending.Ending.TheVariants as endings
use Rattle.run_commands.specs.declared.node_text.Absent.{Absent as Reason}
use Rattle.run_commands.specs.declared.node_text.Absent.TheVariants as reasons
use Rattle.run_commands.specs.declared.node_text.NodeText.{NodeText}
use Rattle.run_commands.specs.declared.node_text.NodeText.TheVariants.{Absent, Lines}
use Rattle.requests.specs.declared.request.NodeInPulse.{NodeInPulse}

-- why there is nothing: the first of these that holds
abbrev pub IsAbsent : NodeInPulse → Scenario → Reason → Type 0
IsAbsent place s reasons.NoPulse = HasPulse s place.pulse → ⊥
IsAbsent place s reasons.NoNode = HasPulse s place.pulse × (s.nodes ≤ place.node)
IsAbsent place s reasons.NoProgram = HasPulse s place.pulse × (place.node < s.nodes) × RestsIn s place.pulse place.node

-- lines for which this holds, or why there are none
abbrev pub IsNodeText : (List ℕ → Type 0) → NodeInPulse → Scenario → NodeText → Type 0
IsNodeText AreLines place s (Lines lines) = AreLines lines.items
IsNodeText AreLines place s (Absent reason) = IsAbsent place s reason

abbrev pub reason_name : Reason → List ℕ
reason_name reasons.NoPulse = codes "NoPulse"
reason_name reasons.NoNode = codes "NoNode"
reason_name reasons.NoProgram = codes "NoProgram"

-- the line of a refusal, which has this word
abbrev pub absent_text : List ℕ → Reason → List ℕ
absent_text word reason = codes "refused " ++ (word ++ (codes " " ++ (reason_name reason ++ codes "\n")))

-- what is written
abbrev pub node_output : List ℕ → NodeText → List ℕ
node_output word (Lines lines) = lines.items
node_output word (Absent reason) = absent_text word reason

abbrev pub node_text_ending : NodeText → Ending
node_text_ending (Lines lines) = endings.Done
node_text_ending (Absent reason) = endings.Refused
