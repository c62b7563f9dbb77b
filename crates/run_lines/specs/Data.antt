-- What the lines of a run tell, as values of JSON (docs/OUTPUT.md, "JSON lines").
use Rattle.std.specs.Prelude.{ℕ, if◌then◌else◌, is_some, nat_le, Bool, List, [], ◌∷◌, length, codes}
use Rattle.std.specs.Ordering.{nat_cmp}
use Rattle.std.specs.FinMap.{FinMap, get}
use Rattle.hex.specs.Hex.{encode_lower}
use Rattle.serde_json.specs.Data.{Data, null, boolean, string}
use Rattle.bench_core.specs.State.{Node}
use Rattle.bench_workers.specs.Watching.{Seen}
use Rattle.scenario_text.specs.Views.{is_judged}
use Rattle.scenario_text.specs.declared.scenario.Frame.{Frame}
use Rattle.scenario_text.specs.declared.limits.TheConstants.{ZERO_VERSION}
use Rattle.scenario_text.specs.declared.scenario.Kind.{Kind}
use Rattle.scenario_text.specs.declared.scenario.Kind.TheVariants.{Clock, Say, Echo, Asm, Rule, Noise}
use Rattle.bench_scenario.specs.Coins.{places_below}
use Rattle.bench_scenario.specs.Reports.{clock_name}
use Rattle.bench_scenario.specs.Verdicts.{judgement}
use Rattle.bench_scenario.specs.declared.summary.RunSummary.{RunSummary}
use Rattle.bench_scenario.specs.declared.verdicts.Judged.{Judged}
use Rattle.json_values.specs.Values.{Member, list_data, number_data, object_data, option_data}
use Rattle.run_lines.specs.Staged.{StagedTold, Loaded, Unloaded, Corrupted}

-- ---- the first line

-- the member `zero_agrees`, from version 5 on
abbrev pub zero_members : Frame → List Member
zero_members f = if nat_le ZERO_VERSION f.version then (codes "zero_agrees", boolean f.zero_agrees) ∷ [] else []

-- the member `clock`, from version 3 on
abbrev pub clock_members : Frame → Bool → List Member
clock_members f own =
    if is_judged f.version then (codes "clock", string (clock_name f.version own)) ∷ zero_members f else []

abbrev pub frame_members : Frame → Bool → List Member
frame_members f own =
    (codes "format", number_data f.version)
    ∷ (codes "nodes", number_data f.nodes)
    ∷ (codes "faults", number_data f.faults)
    ∷ (codes "modulus", number_data f.modulus)
    ∷ (codes "memory", number_data f.memory)
    ∷ (codes "pulses", number_data f.pulses)
    ∷ clock_members f own

-- of a scenario's numbers, and whether it has a clock of its own
abbrev pub frame_data : Frame → Bool → Data
frame_data f own = object_data (frame_members f own)

-- ---- the line of a pulse

abbrev pub load_kind_text : Kind → List ℕ
load_kind_text Clock = codes "clock"
load_kind_text Say = codes "say"
load_kind_text Echo = codes "echo"
load_kind_text Asm = codes "asm"
load_kind_text Rule = codes "rule"
load_kind_text Noise = codes "noise"

abbrev pub staged_data : StagedTold → Data
staged_data (Loaded node kind) =
    object_data ((codes "load", number_data node) ∷ (codes "program", string (load_kind_text kind)) ∷ [])
staged_data (Unloaded node) = object_data ((codes "unload", number_data node) ∷ [])
staged_data (Corrupted node) = object_data ((codes "corrupt", number_data node) ∷ [])

-- what a node ran: the clock, another program, or nothing
abbrev pub ran_data : Node → Data
ran_data x =
    if x.mark then string (codes "clock") else (if is_some x.program then string (codes "other") else null)

abbrev pub memory_data : Node → Data
memory_data x = string (encode_lower x.memory)

-- what one node sent to each of this many
abbrev pub sent_data : ℕ → FinMap nat_cmp ℕ → Data
sent_data nodes row = list_data (λ receiver. option_data number_data (get row receiver)) (places_below nodes)

-- what is judged of a pulse that was seen
abbrev pub judged_seen : Frame → Bool → Seen → Judged
judged_seen f own x = judgement f own x.earlier x.told

-- the verdict on agreement, and that on counting if the version judges it
abbrev pub verdict_members : Frame → Judged → List Member
verdict_members f j =
    (codes "agree", option_data boolean j.agree)
    ∷ (if is_judged f.version then (codes "counts", option_data boolean j.counts) ∷ [] else [])

abbrev pub pulse_members : Frame → Judged → List StagedTold → Seen → List Member
pulse_members f j staged x =
    (codes "pulse", number_data x.told.row.pulse)
    ∷ (codes "staged", list_data staged_data staged)
    ∷ (codes "coins", list_data number_data x.coins)
    ∷ (codes "ran", list_data ran_data x.after.nodes)
    ∷ (codes "clocks", list_data (option_data number_data) x.told.clocks)
    ∷ (codes "settled", list_data boolean x.told.settled)
    ∷ (codes "steps", list_data number_data x.steps)
    ∷ (codes "memory", list_data memory_data x.after.nodes)
    ∷ (codes "sent", list_data (sent_data (length x.after.mail)) x.after.mail)
    ∷ verdict_members f j

-- a pulse that was seen so, of which this is judged, and before which this was staged
abbrev pub pulse_data : Frame → Judged → List StagedTold → Seen → Data
pulse_data f j staged x = object_data (pulse_members f j staged x)

-- ---- the last line

abbrev pub last_data : RunSummary → Data
last_data m = object_data (
    (codes "agreed", number_data m.agreed)
    ∷ (codes "of", number_data m.judged)
    ∷ (codes "in_step_since", option_data number_data m.in_step_since)
    ∷ [])
