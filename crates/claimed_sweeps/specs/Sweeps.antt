-- What a sweep with properties leaves on its writer (docs/PROPERTIES.md, "Sweeps").
use Rattle.std.specs.Prelude.{◌≡◌, ℕ, List, Option, Result}
use Rattle.csv.specs.Writing.{default_writer, row_text}
use Rattle.parameters.specs.Keys.{KeyRange}
use Rattle.bench_core.specs.Told.{PulseTold}
use Rattle.scenario_text.specs.declared.scenario.Scenario.{Scenario}
use Rattle.bench_scenario.specs.Coins.{keyed}
use Rattle.properties.specs.declared.property.Property.{Property}
use Rattle.properties.specs.Claims.{ClaimedPulse}
use Rattle.claimed_runs.specs.Runs.{IsJudgedRun}
use Rattle.key_sweep.specs.declared.sweeping.SweepFault.{SweepFault}
use Rattle.key_sweep.specs.Sweeps.{LeavesSweepOf}
use Rattle.claimed_sweeps.specs.Cells.{claim_fields, claim_names}

-- the row of names
abbrev pub names_line : List Property → List ℕ
names_line ps = row_text default_writer (claim_names ps)

-- the row of the run of the scenario, if it has this key
pub record IsClaimedRow (s : Scenario) (ps : List Property) (key : ℕ) (row : List ℕ) : Type 0 where
  pub records : List PulseTold
  pub pulses : List ClaimedPulse
  pub run : IsJudgedRun (keyed s key) ps records pulses
  pub text : row ≡ row_text default_writer (claim_fields key ps pulses)

-- The rows of all keys, after that of names; the front of them if a write failed; those of the first keys if there was no
-- memory for one more; nothing if nothing is drawn by the key.
abbrev pub LeavesClaimedRows : Option (List ℕ) → Option (List ℕ) → Scenario → List Property → KeyRange
    → Result (Unit {0}) SweepFault → Type 0
LeavesClaimedRows old new s ps keys result =
    LeavesSweepOf (IsClaimedRow s ps) (names_line ps) old new s keys result
