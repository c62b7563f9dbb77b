-- What the lines of pulses let their reader know (docs/OUTPUT.md, "JSON lines").
use Rattle.std.specs.Prelude.{◌≡◌, ℕ, ◌<◌, Bool, List, Option, Some, None, All, length, map}
use Rattle.std.specs.FinMap.{get}
use Rattle.serde_json.specs.Data.{Data}
use Rattle.node_env.specs.Env.{AreNumbers}
use Rattle.bench_core.specs.Setup.{Setup}
use Rattle.bench_core.specs.State.{State, new_state}
use Rattle.bench_workers.specs.Events.{Event}
use Rattle.bench_workers.specs.Watching.{Seen, Shows}
use Rattle.scenario_text.specs.declared.scenario.Frame.{Frame}
use Rattle.bench_scenario.specs.Coins.{places_below}
use Rattle.bench_scenario.specs.Verdicts.{judged_of}
use Rattle.bench_scenario.specs.declared.verdicts.Judged.{Judged}
use Rattle.json_values.specs.Texts.{ReadsBack, json_line}
use Rattle.run_lines.specs.Data.{judged_seen, pulse_data}
use Rattle.run_lines.specs.Readers.{clocks_told, told_coins, told_memory, told_pulse, told_sent, told_settled, told_steps}
use Rattle.run_lines.specs.Staged.{StagedTold}

-- each memory is of bytes
abbrev pub HoldsBytes : State → Type 0
HoldsBytes b = All (λ x. All (λ byte. byte < 256) x.memory) b.nodes

-- no number is for a node that isn't there
abbrev pub HoldsMail : State → Type 0
HoldsMail b = All (AreNumbers (length b.mail)) b.mail

abbrev pub memories_in : State → List (List ℕ)
memories_in b = map (λ x. x.memory) b.nodes

-- what each node sent to each
abbrev pub message_slots : State → List (List (Option ℕ))
message_slots b = map (λ row. map (get row) (places_below (length b.mail))) b.mail

-- a reader of the value finds what was seen
pub record TellsSeen (x : Seen) (d : Data) : Type 0 where
  pub pulse : told_pulse d ≡ Some x.told.row.pulse
  pub coins : told_coins d ≡ Some x.coins
  pub clocks : clocks_told d ≡ Some x.told.clocks
  pub settled : told_settled d ≡ Some x.told.settled
  pub steps : told_steps d ≡ Some x.steps
  pub memory : HoldsBytes x.after → told_memory d ≡ Some (memories_in x.after)
  pub sent : told_sent d ≡ Some (message_slots x.after)

abbrev pub TellsItsPulse : Type 0
TellsItsPulse = (f : Frame) (j : Judged) (staged : List StagedTold) (x : Seen) → TellsSeen x (pulse_data f j staged x)

pub record AreAlike (x y : Seen) : Type 0 where
  pub pulse : x.told.row.pulse ≡ y.told.row.pulse
  pub coins : x.coins ≡ y.coins
  pub clocks : x.told.clocks ≡ y.told.clocks
  pub settled : x.told.settled ≡ y.told.settled
  pub steps : x.steps ≡ y.steps
  pub memory : HoldsBytes x.after → HoldsBytes y.after → memories_in x.after ≡ memories_in y.after
  pub sent : message_slots x.after ≡ message_slots y.after
  pub mail : HoldsMail x.after → HoldsMail y.after → x.after.mail ≡ y.after.mail

-- if the values of two pulses read back and have the same line, the pulses are alike
abbrev pub OneLineOnePulse : Type 0
OneLineOnePulse = (f g : Frame) (j k : Judged) (staged before : List StagedTold) (x y : Seen)
    → ReadsBack (pulse_data f j staged x) → ReadsBack (pulse_data g k before y)
    → json_line (pulse_data f j staged x) ≡ json_line (pulse_data g k before y) → AreAlike x y

-- what is judged of these pulses is what the report judges of their records
abbrev pub AreOfReport : Frame → Bool → List Seen → Type 0
AreOfReport f own xs = map (judged_seen f own) xs ≡ judged_of f own (map (λ x. x.told) xs)

-- pulse by pulse the lines of a run judge what its report judges
abbrev pub JudgesAsTheReport : Type 0
JudgesAsTheReport = (f : Frame) (own : Bool) (s : Setup) (es : List Event) (xs : List Seen) (b : State)
    → Shows s (new_state s) 0 None es xs b → AreOfReport f own xs
