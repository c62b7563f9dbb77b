-- What the commands that read a scenario leave on their output (docs/COMMANDS.md).
use Rattle.std.specs.Prelude.{◌⊎◌, List, ℕ, ◌++◌, codes, Option, Result}
use Rattle.scenario_text.specs.declared.refusal.ScenarioError.{ScenarioError}
use Rattle.scenario_text.specs.declared.scenario.Scenario.{Scenario}
use Rattle.scenario_text.specs.Lines.{refusal_line}
use Rattle.scenario_text.specs.Texts.{IsDue, ReadsText}
use Rattle.command_answers.specs.declared.ending.Ending.{Ending}
use Rattle.command_answers.specs.declared.ending.Ending.TheVariants.{Refused}
use Rattle.command_answers.specs.declared.fault.Fault.{Fault}
use Rattle.requests.specs.declared.request.ScenarioRequest.{ScenarioRequest}
use Rattle.requests.specs.declared.request.ScenarioRequest.TheVariants.{Run, Lines, ClaimedRun, TracedRun, NodeProgram, Sweep, ClaimedSweep, Explore, ClaimedExplore}
use Rattle.commands.specs.ClaimedExplore.{LeavesClaimedExplore}
use Rattle.commands.specs.Explore.{LeavesExplored}
use Rattle.command_answers.specs.Faults.{IsOutOfMemory}
use Rattle.run_commands.specs.ClaimedRun.{LeavesClaimedRun}
use Rattle.run_commands.specs.ClaimedSweep.{LeavesClaimedSweep}
use Rattle.run_commands.specs.Lines.{LeavesLined}
use Rattle.run_commands.specs.NodeProgram.{LeavesNodeProgram}
use Rattle.command_answers.specs.Output.{Leaves, LeavesNothing}
use Rattle.run_commands.specs.Run.{LeavesReported}
use Rattle.run_commands.specs.Sweep.{LeavesSwept}
use Rattle.run_commands.specs.TracedRun.{LeavesTracedRun}

-- what a command leaves of the scenario that it read
abbrev pub LeavesOf : ScenarioRequest → Option (List ℕ) → Option (List ℕ) → Scenario → Result Ending Fault → Type 0
LeavesOf (Run asked) old new s ended = LeavesReported asked.check old new s ended
LeavesOf (Lines asked) old new s ended = LeavesLined asked.run.check old new s asked.form ended
LeavesOf (ClaimedRun asked) old new s ended = LeavesClaimedRun asked old new s ended
LeavesOf (TracedRun asked) old new s ended = LeavesTracedRun old new asked s ended
LeavesOf (NodeProgram asked) old new s ended = LeavesNodeProgram old new asked s ended
LeavesOf (Sweep asked) old new s ended = LeavesSwept old new s asked.keys ended
LeavesOf (ClaimedSweep asked) old new s ended = LeavesClaimedSweep asked old new s ended
LeavesOf (ClaimedExplore asked) old new s ended = LeavesClaimedExplore old new asked s ended
LeavesOf (Explore asked) old new s ended = LeavesExplored old new asked s ended

-- the line that refuses a text, or its first bytes if a write failed
abbrev pub LeavesRefusal : Option (List ℕ) → Option (List ℕ) → List ℕ → Result Ending Fault → Type 0
LeavesRefusal old new text ended =
    (error : ScenarioError) × IsDue text error × Leaves old new (refusal_line error ++ codes "\n") Refused ended

-- of a text: what the command leaves of the scenario that it says, or the line that refuses it; or nothing, if memory ran
-- out
abbrev pub LeavesFor : ScenarioRequest → Option (List ℕ) → Option (List ℕ) → List ℕ → Result Ending Fault → Type 0
LeavesFor asked old new text ended =
    ((s : Scenario) × ReadsText text s × LeavesOf asked old new s ended)
    ⊎ (LeavesRefusal old new text ended ⊎ LeavesNothing IsOutOfMemory old new ended)
