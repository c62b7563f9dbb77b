-- What `sweep` leaves on its output (docs/COMMANDS.md, "What sweep and explore print").
use Rattle.std.specs.Prelude.{◌≡◌, ◌⊎◌, false, ℕ, List, codes, Option, Result, Ok, Err}
use Rattle.parameters.specs.Keys.{KeyRange}
use Rattle.key_sweep.specs.Sweeps.{LeavesSweep, uses_key}
use Rattle.key_sweep.specs.declared.sweeping.SweepFault.{SweepFault}
use Rattle.key_sweep.specs.declared.sweeping.SweepFault.TheVariants as sweeps
use Rattle.scenario_text.specs.declared.scenario.Scenario.{Scenario}
use Rattle.stream_io.specs.declared.parts.PartFault.TheVariants as parts
use Rattle.command_answers.specs.declared.ending.Ending.{Ending}
use Rattle.command_answers.specs.declared.ending.Ending.TheVariants.{Done, Refused}
use Rattle.command_answers.specs.declared.fault.Fault.{Fault}
use Rattle.command_answers.specs.declared.fault.Fault.TheVariants as faults
use Rattle.command_answers.specs.Output.{Leaves}

-- the line that refuses a scenario of which nothing is drawn by a key
abbrev pub no_key_line : List ℕ
no_key_line = codes "refused sweep NoKey\n"

-- what a sweep that ended so leaves on its writer; no other fault comes
abbrev pub LeavesRowsAt : (Result (Unit {0}) SweepFault → Type 0) → Result Ending Fault → Type 0
LeavesRowsAt leaves (Ok ending) = (ending ≡ Done) × leaves (Ok tt)
LeavesRowsAt leaves (Err (faults.Write after)) = leaves (Err (sweeps.Part (parts.Write after)))
LeavesRowsAt leaves (Err faults.Memory) = leaves (Err (sweeps.Part parts.Memory))
LeavesRowsAt leaves (Err faults.Read) = ⊥
LeavesRowsAt leaves (Err faults.Thread) = ⊥
LeavesRowsAt leaves (Err (faults.CommandLine said)) = ⊥

-- the lines of the keys; their front if a write failed; whole lines if memory ran out
abbrev pub LeavesKeys : Option (List ℕ) → Option (List ℕ) → Scenario → KeyRange → Result Ending Fault → Type 0
LeavesKeys old new s keys ended = LeavesRowsAt (LeavesSweep old new s keys) ended

-- the same, or the line of the refusal
abbrev pub LeavesSwept : Option (List ℕ) → Option (List ℕ) → Scenario → KeyRange → Result Ending Fault → Type 0
LeavesSwept old new s keys ended =
    LeavesKeys old new s keys ended ⊎ ((uses_key s ≡ false) × Leaves old new no_key_line Refused ended)
