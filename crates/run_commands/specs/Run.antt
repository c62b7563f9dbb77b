-- What `run` leaves on its output (docs/COMMANDS.md, "What run prints").
use Rattle.std.specs.Prelude.{◌≡◌, ◌<◌, ℕ, Bool, not, ◌&&◌, if◌then◌else◌, List, length, take, Option, Result, Ok, Err}
use Rattle.std.specs.Io.KnownBytes.{Appends, Keeps}
use Rattle.bench_workers.specs.declared.event.RunRefusal.TheVariants.{NoThread}
use Rattle.scenario_text.specs.declared.scenario.Scenario.{Scenario}
use Rattle.bench_scenario.specs.Runs.{ReportsRun, StopsRun}
use Rattle.command_answers.specs.declared.ending.Ending.{Ending}
use Rattle.command_answers.specs.declared.ending.Ending.TheVariants.{Violated, Done}
use Rattle.command_answers.specs.declared.fault.Fault.{Fault}
use Rattle.command_answers.specs.declared.fault.Fault.TheVariants as faults

-- status 3 if `--check` was given and a pulse has `agree no`
abbrev pub report_ending : Bool → Bool → Ending
report_ending check agrees = if check && not agrees then Violated else Done

-- The report of the run of the scenario, with its ending; its first bytes if a write failed, as many as the fault says;
-- nothing if memory ran out, or if a thread couldn't be started, for which the run stopped. No other fault comes.
abbrev pub LeavesReported : Bool → Option (List ℕ) → Option (List ℕ) → Scenario → Result Ending Fault → Type 0
LeavesReported check old new s (Ok ending) =
    (line : List ℕ) × (agrees : Bool) × ReportsRun s line agrees × (ending ≡ report_ending check agrees)
    × Appends old new line
LeavesReported check old new s (Err (faults.Write after)) =
    (line : List ℕ) × (agrees : Bool) × ReportsRun s line agrees × (after < length line)
    × Appends old new (take after line)
LeavesReported check old new s (Err faults.Thread) = ((event : ℕ) × StopsRun s event NoThread) × Keeps old new
LeavesReported check old new s (Err faults.Memory) = Keeps old new
LeavesReported check old new s (Err faults.Read) = ⊥
LeavesReported check old new s (Err (faults.CommandLine said)) = ⊥
