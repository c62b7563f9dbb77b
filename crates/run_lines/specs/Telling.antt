-- What a told run leaves on its writer (docs/OUTPUT.md, "JSON lines").
use Rattle.std.specs.Prelude.{◌≡◌, ◌≢◌, ◌⊎◌, ℕ, is_some, Bool, List, map, take, Option, None, Result, Ok, Err}
use Rattle.std.specs.Io.KnownBytes.{Appends, Keeps}
use Rattle.bench_core.specs.State.{State, new_state}
use Rattle.bench_workers.specs.declared.event.RunRefusal.TheVariants.{NoThread}
use Rattle.bench_workers.specs.Events.{Event}
use Rattle.bench_workers.specs.Runs.{IsEventFault, IsRun}
use Rattle.bench_workers.specs.Watching.{Seen, Shows}
use Rattle.scenario_text.specs.declared.scenario.Scenario.{Scenario}
use Rattle.scenario_text.specs.Views.{frame_of}
use Rattle.bench_scenario.specs.declared.summary.RunSummary.{RunSummary}
use Rattle.bench_scenario.specs.Events.{events_of}
use Rattle.bench_scenario.specs.Reports.{all_agree}
use Rattle.bench_scenario.specs.Runs.{IsMemoryOrThread, bench_of}
use Rattle.bench_scenario.specs.Summary.{IsSummary}
use Rattle.stream_io.specs.declared.parts.PartFault.TheVariants as parts
use Rattle.stream_io.specs.Parts.{Breaks, HasPartCause}
use Rattle.run_lines.specs.declared.fault.LinesFault.{LinesFault}
use Rattle.run_lines.specs.declared.fault.LinesFault.TheVariants as faults
use Rattle.run_lines.specs.Lines.{front_text, whole_text}
use Rattle.parameters.specs.declared.lines.LinesForm.{LinesForm}

-- on the scenario's bench, which is new, these events show these pulses
abbrev pub AreShown : Scenario → List Event → List Seen → Type 0
AreShown s es xs = (last : State) × Shows (bench_of s) (new_state (bench_of s)) 0 None es xs last

-- the first line, and those of the pulses that this many events of the run show
pub record IsFrontText (s : Scenario) (form : LinesForm) (events : ℕ) (told : List ℕ) : Type 0 where
  pub seen : List Seen
  pub shown : AreShown s (take events (events_of s)) seen
  pub text : told ≡ front_text s form seen

-- all lines, and whether no pulse's verdict on agreement is no; the run is that of the report
pub record IsWholeText (s : Scenario) (form : LinesForm) (told : List ℕ) (agrees : Bool) : Type 0 where
  pub seen : List Seen
  pub summary : RunSummary
  pub memories : List (List ℕ)
  pub shown : AreShown s (events_of s) seen
  pub run : IsRun (bench_of s) (events_of s) (map (λ x. x.told) seen) memories
  pub summed : IsSummary (frame_of s) (is_some s.clock) (map (λ x. x.told) seen) summary
  pub verdict : agrees ≡ all_agree (frame_of s) (is_some s.clock) (map (λ x. x.told) seen)
  pub text : told ≡ whole_text s form seen summary

-- whole lines up to some pulse
pub record LeavesFront (old new : Option (List ℕ)) (s : Scenario) (form : LinesForm) (events : ℕ) : Type 0 where
  pub told : List ℕ
  pub front : IsFrontText s form events told
  pub left : Appends old new told

-- lines up to some pulse, or all
abbrev pub AreLines : Scenario → LinesForm → List ℕ → Type 0
AreLines s form told =
    ((events : ℕ) × IsFrontText s form events told) ⊎ ((agrees : Bool) × IsWholeText s form told agrees)

-- all lines; the first bytes of lines if a write failed; where the run stopped at an event, whole lines of the
-- pulses before it; if there was no memory, nothing or whole lines
abbrev pub LeavesLines : Option (List ℕ) → Option (List ℕ) → Scenario → LinesForm → Result Bool LinesFault → Type 0
LeavesLines old new s form (Ok agrees) = (told : List ℕ) × IsWholeText s form told agrees × Appends old new told
LeavesLines old new s form (Err (faults.Part (parts.Write written))) =
    (told : List ℕ) × AreLines s form told × Breaks old new told written
LeavesLines old new s form (Err (faults.Part parts.Memory)) =
    Keeps old new ⊎ ((events : ℕ) × LeavesFront old new s form events)
LeavesLines old new s form (Err (faults.Run stop)) =
    IsEventFault (bench_of s) (events_of s) stop.event stop.fault × IsMemoryOrThread stop.fault
    × LeavesFront old new s form stop.event

-- if not all lines could be written, a call of `write` failed or took nothing; or memory ran out, or the run stopped
abbrev pub HasLinesCause : (failed : Bool) → LinesFault → Type 0
HasLinesCause failed (faults.Run stop) = Unit {0}
HasLinesCause failed (faults.Part fault) = HasPartCause failed fault

-- the run of the lines didn't stop for lack of a thread
abbrev pub LinesHaveThreads : LinesFault → Type 0
LinesHaveThreads (faults.Run stop) = stop.fault ≢ NoThread
LinesHaveThreads (faults.Part fault) = Unit {0}
