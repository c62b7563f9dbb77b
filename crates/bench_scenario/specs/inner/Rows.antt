-- The rows into which the changes of a scenario are put, one of each pulse (docs/SCENARIOS.md, "What is done").
use Rattle.std.specs.Prelude.{◌≡◌, ℕ, suc, ◌==◌, ◌<◌, if◌then◌else◌, List, [], ◌++◌, get_or, length, map}
use Rattle.bench_workers.specs.Events.{Event, event_of}
use Rattle.bench_workers.specs.declared.event.Event.{Event as EventCode}
use Rattle.scenario_text.specs.declared.scenario.Scenario.{Scenario}
use Rattle.bench_scenario.specs.Events.{changes_at}

-- what is in the rows
abbrev pub told_events : {X : Type 0} → (X → List EventCode) → List X → List (List Event)
told_events items rows = map (λ row. map event_of (items row)) rows

-- events in one pulse, and none in others
abbrev pub of_pulse : ℕ → List Event → ℕ → List Event
of_pulse pulse events p = if pulse == p then events else []

-- each row got more at its end: the row at place k is that of pulse k + 1
pub record Grew (old new : List (List Event)) (more : ℕ → List Event) : Type 0 where
  pub count : length new ≡ length old
  pub each : (k : ℕ) → k < length old → get_or new k [] ≡ get_or old k [] ++ more (suc k)

-- from a place on, the rows hold what the scenario stages before each pulse
pub record AreChanges (s : Scenario) (rows : List (List Event)) (from : ℕ) : Type 0 where
  pub count : length rows ≡ s.pulses
  pub each : (k : ℕ) → k < s.pulses → from < suc k → get_or rows k [] ≡ changes_at s (suc k)

-- what is added and what is left to add are the whole
pub record AddsEvents (old new : List (List Event)) (left all : ℕ → List Event) : Type 0 where
  pub count : length new ≡ length old
  pub each : (k : ℕ) → k < length old → get_or new k [] ++ left (suc k) ≡ get_or old k [] ++ all (suc k)
