-- What a sweep leaves on its writer (docs/LUCK.md, "What is promised").
use Rattle.std.specs.Prelude.{◌≡◌, ◌||◌, Bool, true, false, IsTrue, map, ℕ, is_some, List, Option, Result, Ok, Err}
use Rattle.std.specs.Io.KnownBytes.{Keeps}
use Rattle.bench_core.specs.Told.{PulseTold}
use Rattle.bench_workers.specs.Runs.{IsRun}
use Rattle.scenario_text.specs.declared.scenario.Coins.{Coins}
use Rattle.scenario_text.specs.declared.scenario.Coins.TheVariants.{Zeros, Ones, Chacha}
use Rattle.scenario_text.specs.declared.scenario.Scenario.{Scenario}
use Rattle.scenario_text.specs.Noise.{any_noise}
use Rattle.scenario_text.specs.Views.{frame_of, load_draft}
use Rattle.bench_scenario.specs.Coins.{keyed}
use Rattle.bench_scenario.specs.Events.{events_of}
use Rattle.bench_scenario.specs.Runs.{bench_of}
use Rattle.bench_scenario.specs.Summary.{IsSummary}
use Rattle.bench_scenario.specs.declared.summary.RunSummary.{RunSummary}
use Rattle.stream_io.specs.Parts.{HasPartCause}
use Rattle.parameters.specs.Keys.{KeyRange}
use Rattle.key_sweep.specs.declared.sweeping.SweepFault.{SweepFault}
use Rattle.key_sweep.specs.declared.sweeping.SweepFault.TheVariants as faults
use Rattle.key_sweep.specs.KeyRows.{KeyRows, LeavesRows}
use Rattle.key_sweep.specs.Rows.{sweep_names, summary_row}

-- what the run of the scenario comes to, if it has this key
pub record IsOfKey (s : Scenario) (key : ℕ) (m : RunSummary) : Type 0 where
  pub records : List PulseTold
  pub memories : List (List ℕ)
  pub run : IsRun (bench_of s) (events_of (keyed s key)) records memories
  pub summary : IsSummary (frame_of s) (is_some s.clock) records m

-- the row of that run
pub record IsRowOfKey (s : Scenario) (key : ℕ) (row : List ℕ) : Type 0 where
  pub summary : RunSummary
  pub of_key : IsOfKey s key summary
  pub text : row ≡ summary_row key summary

-- the lines of this many keys from this one on
abbrev pub Lines : Scenario → ℕ → ℕ → List ℕ → Type 0
Lines s first count told = KeyRows (IsRowOfKey s) sweep_names first count told

abbrev pub are_drawn : Coins → Bool
are_drawn Zeros = false
are_drawn Ones = false
are_drawn Chacha = true

-- something of the scenario is drawn by its key: coins, or the messages of noise
abbrev pub uses_key : Scenario → Bool
uses_key s = are_drawn s.coins || any_noise (map load_draft s.loads.items)

-- the rows of keys, and nothing if nothing is drawn by the key
abbrev pub LeavesSweepOf : (ℕ → List ℕ → Type 0) → List ℕ → Option (List ℕ) → Option (List ℕ) → Scenario → KeyRange
    → Result (Unit {0}) SweepFault → Type 0
LeavesSweepOf is_row names old new s keys (Err faults.NoKey) = (uses_key s ≡ false) × Keeps old new
LeavesSweepOf is_row names old new s keys (Err (faults.Part fault)) =
    IsTrue (uses_key s) × LeavesRows is_row names old new keys (Err fault)
LeavesSweepOf is_row names old new s keys (Ok done) =
    IsTrue (uses_key s) × LeavesRows is_row names old new keys (Ok done)

-- those of the scenario's runs
abbrev pub LeavesSweep : Option (List ℕ) → Option (List ℕ) → Scenario → KeyRange → Result (Unit {0}) SweepFault → Type 0
LeavesSweep old new s keys result = LeavesSweepOf (IsRowOfKey s) sweep_names old new s keys result

-- if not all lines could be written, a call of `write` failed or took nothing; or memory ran out, or there is no key
abbrev pub HasSweepCause : (failed : Bool) → SweepFault → Type 0
HasSweepCause failed faults.NoKey = Unit {0}
HasSweepCause failed (faults.Part fault) = HasPartCause failed fault
