-- What a run that is judged by properties leaves on its writer (docs/PROPERTIES.md, "Output").
use Rattle.std.specs.Prelude.{◌≡◌, ◌<◌, ℕ, is_some, List, ◌++◌, length, map, take, Option, None, Result, Ok, Err}
use Rattle.std.specs.Io.KnownBytes.{Appends, Keeps}
use Rattle.bench_core.specs.State.{State, new_state}
use Rattle.bench_core.specs.Told.{PulseTold}
use Rattle.bench_workers.specs.Runs.{IsRun}
use Rattle.bench_workers.specs.Watching.{Seen, Shows}
use Rattle.scenario_text.specs.declared.scenario.Scenario.{Scenario}
use Rattle.scenario_text.specs.Views.{frame_of}
use Rattle.bench_scenario.specs.declared.run.ReportFault.{ReportFault}
use Rattle.bench_scenario.specs.declared.run.ReportFault.TheVariants as faults
use Rattle.bench_scenario.specs.Events.{events_of}
use Rattle.bench_scenario.specs.Reports.{all_agree, report_of}
use Rattle.bench_scenario.specs.Runs.{StopsRun, bench_of}
use Rattle.properties.specs.declared.property.Property.{Property}
use Rattle.claimed_runs.specs.declared.judged.ClaimsForm.{ClaimsForm}
use Rattle.claimed_runs.specs.declared.judged.ClaimsForm.TheVariants.{Text, Json}
use Rattle.claimed_runs.specs.declared.report.ClaimsReport.{ClaimsReport}
use Rattle.claims_json.specs.Data.{claims_json}
use Rattle.properties.specs.Claims.{ClaimedPulse}
use Rattle.properties.specs.Texts.{all_hold, claims_text}
use Rattle.claimed_runs.specs.Claims.{claimed_pulses, scenario_sizes}

-- what is judged of these pulses of a scenario's run
abbrev pub claimed_of : Scenario → List Property → List Seen → List ClaimedPulse
claimed_of s ps xs = claimed_pulses ps (scenario_sizes (frame_of s)) xs

-- the run of a scenario has these records, and these are the verdicts on the properties in its closed pulses
pub record IsJudgedRun (s : Scenario) (ps : List Property) (records : List PulseTold) (pulses : List ClaimedPulse)
    : Type 0 where
  pub seen : List Seen
  pub last : State
  pub memories : List (List ℕ)
  pub shown : Shows (bench_of s) (new_state (bench_of s)) 0 None (events_of s) seen last
  pub told : records ≡ map (λ x. x.told) seen
  pub run : IsRun (bench_of s) (events_of s) records memories
  pub judged : pulses ≡ claimed_of s ps seen

-- the report of a run that was judged, then a line for each closed pulse and two for each property; or lines of JSON
abbrev pub judged_run_text : ClaimsForm → Scenario → List Property → List PulseTold → List ClaimedPulse → List ℕ
judged_run_text Text s ps records pulses = report_of (frame_of s) (is_some s.clock) records ++ claims_text ps pulses
judged_run_text Json s ps records pulses = claims_json ps pulses

-- the text is that of the run of this scenario, in this form
pub record ReportsClaims (form : ClaimsForm) (s : Scenario) (ps : List Property) (text : List ℕ) (says : ClaimsReport)
    : Type 0 where
  pub records : List PulseTold
  pub pulses : List ClaimedPulse
  pub run : IsJudgedRun s ps records pulses
  pub whole : text ≡ judged_run_text form s ps records pulses
  pub agrees : says.agrees ≡ all_agree (frame_of s) (is_some s.clock) records
  pub holds : says.holds ≡ all_hold ps pulses

-- The whole text; the first bytes of it if a write failed, as many as the fault says; nothing at every other fault.
abbrev pub LeavesClaims : Option (List ℕ) → Option (List ℕ) → ClaimsForm → Scenario → List Property
    → Result ClaimsReport ReportFault → Type 0
LeavesClaims old new form s ps (Ok says) = (text : List ℕ) × ReportsClaims form s ps text says × Appends old new text
LeavesClaims old new form s ps (Err (faults.Write written)) =
    (text : List ℕ) × ((says : ClaimsReport) × ReportsClaims form s ps text says) × (written < length text)
    × Appends old new (take written text)
LeavesClaims old new form s ps (Err (faults.Run stop)) = StopsRun s stop.event stop.fault × Keeps old new
LeavesClaims old new form s ps (Err faults.Memory) = Keeps old new
