-- What `stress` leaves on its output (docs/COMMANDS.md, "What stress prints").
use Rattle.std.specs.Prelude.{ℕ, List, All, length, ◌++◌, codes, count_by, Option, Result}
use Rattle.std.specs.Fmt.{decimal}
use Rattle.bench_core.specs.Replay.{Entry, StagesAccepted}
use Rattle.bench_shared.specs.Ends.{HasReplay, is_load, is_close}
use Rattle.parameters.specs.declared.stress.StressOptions.{StressOptions}
use Rattle.bench_stress.specs.Stressed.{HasEntries, nearest, stressed_setup}
use Rattle.command_answers.specs.declared.ending.Ending.{Ending}
use Rattle.command_answers.specs.declared.ending.Ending.TheVariants as endings
use Rattle.command_answers.specs.declared.fault.Fault.{Fault}
use Rattle.command_answers.specs.Faults.{IsFaultOfThreads}
use Rattle.command_answers.specs.Output.{LeavesAny}

-- a history that is told, or none
pub data Stressed : Type 0 where
  Replayed : (history : List Entry) → Stressed
  Mismatch : Stressed

-- a printed history leads a new bench to some state, loads only accepted programs, and has the entries that the options
-- ask for. `Mismatch` promises nothing
abbrev pub IsStressed : StressOptions → Stressed → Type 0
IsStressed asked (Replayed history) =
    HasReplay stressed_setup history × All StagesAccepted history
    × HasEntries (nearest asked.loaders) asked.loads asked.pulses history
IsStressed asked Mismatch = Unit {0}

-- the loads that were staged, the pulses that were closed, and the entries of the history
abbrev pub finished_line : List Entry → List ℕ
finished_line history =
    codes "loads " ++ (decimal (count_by is_load history) ++ (codes " pulses " ++ (decimal (count_by is_close history)
    ++ (codes " history " ++ (decimal (length history) ++ codes " replay ok")))))

-- the line with its end
abbrev pub stressed_text : Stressed → List ℕ
stressed_text (Replayed history) = finished_line history ++ codes "\n"
stressed_text Mismatch = codes "replay mismatch\n"

abbrev pub stressed_ending : Stressed → Ending
stressed_ending (Replayed history) = endings.Done
stressed_ending Mismatch = endings.Mismatched

-- the line, its first bytes if a write failed, or nothing if memory ran out or a thread couldn't be started
abbrev pub LeavesStressed : StressOptions → Option (List ℕ) → Option (List ℕ) → Result Ending Fault → Type 0
LeavesStressed asked old new result =
    LeavesAny (IsStressed asked) stressed_text stressed_ending IsFaultOfThreads old new result
