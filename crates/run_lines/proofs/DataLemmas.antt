-- What the lines tell has no float, and nests no deeper than three levels.
use Rattle.std.proofs.Common.{ℕ, List, [], ◌∷◌, length}
use Rattle.std.specs.Prelude.{Bool, true, false, Option, codes, if◌then◌else◌, is_some, nat_le}
use Rattle.std.specs.List.{AllByRecursion}
use Rattle.std.specs.Ordering.{nat_cmp}
use Rattle.std.specs.FinMap.{FinMap, get}
use Rattle.serde_json.specs.Data.{boolean, null, string}
use Rattle.bench_core.specs.State.{Node}
use Rattle.bench_workers.specs.Watching.{Seen}
use Rattle.scenario_text.specs.Views.{is_judged}
use Rattle.scenario_text.specs.declared.limits.TheConstants.{ZERO_VERSION}
use Rattle.scenario_text.specs.declared.scenario.Frame.{Frame}
use Rattle.bench_scenario.specs.Coins.{places_below}
use Rattle.bench_scenario.specs.Reports.{clock_name}
use Rattle.bench_scenario.specs.declared.summary.RunSummary.{RunSummary}
use Rattle.bench_scenario.specs.declared.verdicts.Judged.{Judged}
use Rattle.json_values.proofs.PlainLemmas.{IsPlain, plain_boolean, plain_list, plain_null, plain_number, plain_object, plain_option, plain_string}
use Rattle.json_values.specs.Values.{Member, number_data, option_data}
use Rattle.run_lines.specs.Data.{clock_members, frame_data, frame_members, load_kind_text, last_data, memory_data, pulse_data, pulse_members, ran_data, sent_data, staged_data, verdict_members, zero_members}
use Rattle.run_lines.specs.Staged.{StagedTold, Loaded, Unloaded, Corrupted}

abbrev AllPlain : ℕ → List Member → Type 0
AllPlain levels ms = AllByRecursion (λ m. IsPlain levels m.1) ms

either_plain : (b : Bool) (levels : ℕ) (ms ns : List Member) → AllPlain levels ms → AllPlain levels ns
    → AllPlain levels (if b then ms else ns)
either_plain true levels ms ns first second = first
either_plain false levels ms ns first second = second

pub plain_frame : (f : Frame) (own : Bool) → IsPlain 1 (frame_data f own)
plain_frame f own =
    let zero : AllPlain 0 (zero_members f) =
    either_plain (nat_le ZERO_VERSION f.version) 0 ((codes "zero_agrees", boolean f.zero_agrees) ∷ []) []
    (plain_boolean 0 f.zero_agrees, tt) tt in
    let clock : AllPlain 0 (clock_members f own) =
    either_plain (is_judged f.version) 0 ((codes "clock", string (clock_name f.version own)) ∷ zero_members f) []
    (plain_string 0 (clock_name f.version own), zero) tt in
    let last : AllPlain 0 ((codes "memory", number_data f.memory) ∷ (codes "pulses", number_data f.pulses)
    ∷ clock_members f own) = (plain_number 0 f.memory, (plain_number 0 f.pulses, clock)) in
    let each : AllPlain 0 (frame_members f own) = (
      plain_number 0 f.version,
      (
        plain_number 0 f.nodes,
        (plain_number 0 f.faults, (plain_number 0 f.modulus, last)),
      ),
    ) in
    plain_object 0 (frame_members f own) each

abbrev last_members : RunSummary → List Member
last_members m =
    (codes "agreed", number_data m.agreed) ∷ (codes "of", number_data m.judged)
    ∷ (codes "in_step_since", option_data number_data m.in_step_since) ∷ []

pub plain_last : (m : RunSummary) → IsPlain 1 (last_data m)
plain_last m =
    let since = plain_option number_data 0 (plain_number 0) m.in_step_since in
    let each : AllPlain 0 (last_members m) = (plain_number 0 m.agreed, (plain_number 0 m.judged, (since, tt))) in
    plain_object 0 (last_members m) each

plain_staged : (it : StagedTold) → IsPlain 1 (staged_data it)
plain_staged (Loaded node kind) =
    plain_object 0 ((codes "load", number_data node) ∷ (codes "program", string (load_kind_text kind)) ∷ [])
    (plain_number 0 node, (plain_string 0 (load_kind_text kind), tt))
plain_staged (Unloaded node) = plain_object 0 ((codes "unload", number_data node) ∷ []) (plain_number 0 node, tt)
plain_staged (Corrupted node) = plain_object 0 ((codes "corrupt", number_data node) ∷ []) (plain_number 0 node, tt)

either_ran : (mark some : Bool)
    → IsPlain 1 (if mark then string (codes "clock") else (if some then string (codes "other") else null))
either_ran true some = plain_string 1 (codes "clock")
either_ran false true = plain_string 1 (codes "other")
either_ran false false = plain_null 1

plain_ran : (x : Node) → IsPlain 1 (ran_data x)
plain_ran x = either_ran x.mark (is_some x.program)

plain_memory : (x : Node) → IsPlain 1 (memory_data x)
plain_memory x = plain_string 1 _

plain_slot : (o : Option ℕ) → IsPlain 0 (option_data number_data o)
plain_slot o = plain_option number_data 0 (plain_number 0) o

plain_sent : (nodes : ℕ) (row : FinMap nat_cmp ℕ) → IsPlain 1 (sent_data nodes row)
plain_sent nodes row = plain_list _ 0 (λ receiver. plain_slot (get row receiver)) (places_below nodes)

plain_verdict : (verdict : Option Bool) → IsPlain 2 (option_data boolean verdict)
plain_verdict verdict = plain_option boolean 2 (plain_boolean 2) verdict

plain_verdicts : (f : Frame) (j : Judged) → AllPlain 2 (verdict_members f j)
plain_verdicts f j = (
  plain_verdict j.agree,
  either_plain (is_judged f.version) 2 ((codes "counts", option_data boolean j.counts) ∷ []) []
      (plain_verdict j.counts, tt) tt,
)

pub plain_pulse : (f : Frame) (j : Judged) (staged : List StagedTold) (x : Seen)
    → IsPlain 3 (pulse_data f j staged x)
plain_pulse f j staged x =
    plain_object 2 (pulse_members f j staged x) (
      plain_number 2 x.told.row.pulse,
      (
        plain_list staged_data 1 plain_staged staged,
        (
          plain_list number_data 1 (plain_number 1) x.coins,
          (
            plain_list ran_data 1 plain_ran x.after.nodes,
            (
              plain_list (option_data number_data) 1 (plain_option number_data 1 (plain_number 1)) x.told.clocks,
              (
                plain_list boolean 1 (plain_boolean 1) x.told.settled,
                (
                  plain_list number_data 1 (plain_number 1) x.steps,
                  (
                    plain_list memory_data 1 plain_memory x.after.nodes,
                    (plain_list _ 1 (plain_sent (length x.after.mail)) x.after.mail, plain_verdicts f j),
                  ),
                ),
              ),
            ),
          ),
        ),
      ),
    )
