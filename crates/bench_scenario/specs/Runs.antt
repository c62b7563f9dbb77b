-- What the run of a scenario's text leaves on its writer (docs/SCENARIOS.md, "Runs").
use Rattle.std.specs.Prelude.{◌≡◌, ◌≢◌, ◌<◌, is_some, Bool, IsTrue, List, ℕ, length, take, Option, Result, Ok, Err}
use Rattle.std.specs.Io.KnownBytes.{Appends, Keeps}
use Rattle.bench_core.specs.Setup.{Setup}
use Rattle.bench_core.specs.Told.{PulseTold}
use Rattle.bench_core.specs.Views.{setup_with}
use Rattle.bench_workers.specs.declared.event.RunRefusal.{RunRefusal}
use Rattle.bench_workers.specs.declared.event.RunRefusal.TheVariants as refusals
use Rattle.bench_workers.specs.Runs.{IsEventFault, IsRun}
use Rattle.scenario_text.specs.declared.scenario.Scenario.{Scenario}
use Rattle.scenario_text.specs.Spelling.{clock_insns, clock_rule_of}
use Rattle.scenario_text.specs.Texts.{IsDue, ReadsText}
use Rattle.scenario_text.specs.Views.{draft_of, extent_of, frame_of}
use Rattle.bench_scenario.specs.declared.reading.TextFault.{TextFault}
use Rattle.bench_scenario.specs.declared.reading.TextFault.TheVariants as text_faults
use Rattle.bench_scenario.specs.declared.run.ReportFault.{ReportFault}
use Rattle.bench_scenario.specs.declared.run.ReportFault.TheVariants as report_faults
use Rattle.bench_scenario.specs.declared.run.ScenarioFault.{ScenarioFault}
use Rattle.bench_scenario.specs.declared.run.ScenarioFault.TheVariants as faults
use Rattle.bench_scenario.specs.declared.run.TheConstants.{MAX_BYTES}
use Rattle.bench_scenario.specs.Events.{events_of}
use Rattle.bench_scenario.specs.Reports.{all_agree, report_of}

-- the bench that a scenario is run on
abbrev pub bench_of : Scenario → Setup
bench_of s = setup_with (extent_of (frame_of s)) (clock_rule_of (frame_of s))
    (clock_insns (frame_of s) (draft_of s).clock)

-- the line is the report of the run of this scenario, and the verdict is whether no pulse's verdict on agreement is no
pub record ReportsRun (s : Scenario) (line : List ℕ) (agrees : Bool) : Type 0 where
  pub records : List PulseTold
  pub memories : List (List ℕ)
  pub run : IsRun (bench_of s) (events_of s) records memories
  pub whole : line ≡ report_of (frame_of s) (is_some s.clock) records
  pub verdict : agrees ≡ all_agree (frame_of s) (is_some s.clock) records

-- the same of the scenario that the text says
pub record ReportsVerdict (text line : List ℕ) (agrees : Bool) : Type 0 where
  pub scenario : Scenario
  pub reads : ReadsText text scenario
  pub told : ReportsRun scenario line agrees

-- the line is the report of the run of the scenario that the text says
abbrev pub Reports : List ℕ → List ℕ → Type 0
Reports text line = (agrees : Bool) × ReportsVerdict text line agrees

-- no event of a scenario is refused for itself
abbrev pub IsMemoryOrThread : RunRefusal → Type 0
IsMemoryOrThread refusals.Memory = Unit {0}
IsMemoryOrThread refusals.NoThread = Unit {0}
IsMemoryOrThread refusals.BadNode = ⊥
IsMemoryOrThread refusals.OtherShape = ⊥
IsMemoryOrThread refusals.BadImage = ⊥
IsMemoryOrThread refusals.HistoryFull = ⊥
IsMemoryOrThread refusals.BadCoins = ⊥
IsMemoryOrThread refusals.GateShut = ⊥

-- the run of this scenario stopped at that event, and only for lack of memory or of a thread
pub record StopsRun (s : Scenario) (event : ℕ) (refusal : RunRefusal) : Type 0 where
  pub fault : IsEventFault (bench_of s) (events_of s) event refusal
  pub want : IsMemoryOrThread refusal

-- the same of the scenario that the text says
abbrev pub StopsAt : List ℕ → ℕ → RunRefusal → Type 0
StopsAt text event refusal = (s : Scenario) × ReadsText text s × StopsRun s event refusal

-- if it was the run that stopped, it stopped for lack of memory or of a thread
abbrev pub StopsForWant : ScenarioFault → Type 0
StopsForWant faults.Read = Unit {0}
StopsForWant (faults.Refused error) = Unit {0}
StopsForWant (faults.Run stop) = IsMemoryOrThread stop.fault
StopsForWant (faults.Write written) = Unit {0}
StopsForWant faults.Memory = Unit {0}

-- What the run of a scenario leaves: the whole report and its verdict; the first bytes of the report if a write failed,
-- as many as the fault says; nothing at every other fault.
abbrev pub LeavesRun : Option (List ℕ) → Option (List ℕ) → Scenario → Result Bool ReportFault → Type 0
LeavesRun old new s (Ok agrees) = (line : List ℕ) × ReportsRun s line agrees × Appends old new line
LeavesRun old new s (Err (report_faults.Write written)) =
    (line : List ℕ) × ((agrees : Bool) × ReportsRun s line agrees) × (written < length line)
    × Appends old new (take written line)
LeavesRun old new s (Err (report_faults.Run stop)) = StopsRun s stop.event stop.fault × Keeps old new
LeavesRun old new s (Err report_faults.Memory) = Keeps old new

-- the same of the text of a scenario, and nothing if it says none
abbrev pub LeavesReport : Option (List ℕ) → Option (List ℕ) → List ℕ → Result (Unit {0}) ScenarioFault → Type 0
LeavesReport old new text (Ok done) = (line : List ℕ) × Reports text line × Appends old new line
LeavesReport old new text (Err (faults.Write written)) =
    (line : List ℕ) × Reports text line × (written < length line) × Appends old new (take written line)
LeavesReport old new text (Err (faults.Refused error)) = IsDue text error × Keeps old new
LeavesReport old new text (Err (faults.Run stop)) = StopsAt text stop.event stop.fault × Keeps old new
LeavesReport old new text (Err faults.Read) = Keeps old new
LeavesReport old new text (Err faults.Memory) = Keeps old new

-- why a reader gave no scenario: the text says none; or it could not be read; or memory ran out
abbrev pub IsDueOfText : List ℕ → TextFault → Type 0
IsDueOfText text text_faults.Read = Unit {0}
IsDueOfText text (text_faults.Refused error) = IsDue text error
IsDueOfText text text_faults.Memory = Unit {0}

-- if no text could be read, a call of `read` failed
abbrev pub HasTextCause : (failed : Bool) → TextFault → Type 0
HasTextCause failed text_faults.Read = IsTrue failed
HasTextCause failed (text_faults.Refused error) = Unit {0}
HasTextCause failed text_faults.Memory = Unit {0}

-- if the report of a run couldn't be written, a call of `write` failed or took nothing
abbrev pub HasRunCause : (failed : Bool) → ReportFault → Type 0
HasRunCause failed (report_faults.Run stop) = Unit {0}
HasRunCause failed (report_faults.Write written) = IsTrue failed
HasRunCause failed report_faults.Memory = Unit {0}

-- the run of a report didn't stop for lack of a thread
abbrev pub ReportHasThreads : ReportFault → Type 0
ReportHasThreads (report_faults.Run stop) = stop.fault ≢ refusals.NoThread
ReportHasThreads (report_faults.Write written) = Unit {0}
ReportHasThreads report_faults.Memory = Unit {0}

-- both of a scenario that left no whole report: whether a call of `read` failed, and whether one of `write` did
abbrev pub HasReportCause : (unread unwritten : Bool) → ScenarioFault → Type 0
HasReportCause unread unwritten faults.Read = IsTrue unread
HasReportCause unread unwritten (faults.Refused error) = Unit {0}
HasReportCause unread unwritten (faults.Run stop) = Unit {0}
HasReportCause unread unwritten (faults.Write written) = IsTrue unwritten
HasReportCause unread unwritten faults.Memory = Unit {0}
