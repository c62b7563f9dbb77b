-- What is read of the line of a pulse.
use Rattle.std.proofs.Common.{◌≡◌, ℕ, zero, suc, ◌<◌, arith, List, [], ◌∷◌, length, map, ap, refl, sym, ◌∙◌, codes, bytes_eq, true≢false}
use Rattle.std.specs.Prelude.{Bool, true, false, All, slice_index, Option, Some, if◌then◌else◌, option_and_then}
use Rattle.std.specs.List.{AllByRecursion}
use Rattle.std.specs.Ordering.{nat_cmp}
use Rattle.std.specs.FinMap.{FinMap, get as get_in}
use Rattle.std.proofs.lemmas.List.{append_cancel_right}
use Rattle.std.proofs.lemmas.List.Elements.{recursion_from_All}
use Rattle.std.proofs.lemmas.Slice.Eq.{bytes_eq-Decides}
use Rattle.std.specs.Result.{result_ok}
use Rattle.hex.proofs.HexLemmas.{decode_of-encode_lower}
use Rattle.serde_json.specs.Data.{Data, Members, boolean, no_members}
use Rattle.serde_json.specs.Find.{as_bool, get, get_member}
use Rattle.serde_json.specs.Read.{read}
use Rattle.serde_json.specs.View.{items_of}
use Rattle.serde_json.specs.Written.{compact_text}
use Rattle.bench_core.specs.State.{Node}
use Rattle.bench_workers.specs.Watching.{Seen}
use Rattle.scenario_text.specs.Views.{is_judged}
use Rattle.scenario_text.specs.declared.scenario.Frame.{Frame}
use Rattle.bench_scenario.specs.Coins.{places_below}
use Rattle.bench_scenario.specs.declared.verdicts.Judged.{Judged}
use Rattle.json_values.specs.Texts.{ReadsBack, json_line}
use Rattle.json_values.specs.Values.{Member, list_data, number_data, option_data, with_members}
use Rattle.run_lines.specs.Data.{memory_data, pulse_data, ran_data, sent_data, staged_data, verdict_members}
use Rattle.run_lines.specs.Laws.{AreAlike, TellsSeen, memories_in, message_slots}
use Rattle.run_lines.specs.Readers.{bytes_in, each_in, list_in, number_told, option_in, clocks_told, told_coins, told_memory, told_pulse, told_sent, told_settled, told_steps}
use Rattle.run_lines.specs.Staged.{StagedTold}
use Rattle.run_lines.proofs.MailLaws.{mail_same}
use Rattle.run_lines.proofs.ToldLemmas.{get_with_others, list_back, list_told, number_back, option_back}

-- ---- names

apart : (name other : List ℕ) → bytes_eq name other ≡ false → name ≡ other → ⊥
apart name other differ same = true≢false (sym ((bytes_eq-Decides name other).1 same) ∙ differ)

other_names : (b : Bool) (name : List ℕ) (a c : Data) → bytes_eq name (codes "agree") ≡ false
    → bytes_eq name (codes "counts") ≡ false
    → AllByRecursion (λ (m : Member). name ≡ m.0 → ⊥)
    ((codes "agree", a) ∷ (if b then (codes "counts", c) ∷ [] else []))
other_names true name a c first second =
    (apart name (codes "agree") first, (apart name (codes "counts") second, tt))
other_names false name a c first second = (apart name (codes "agree") first, tt)

-- a name that is no verdict's is found as if there were no verdicts
before_verdicts : (name : List ℕ) (f : Frame) (j : Judged) (ms : Members) (d : Data)
    → bytes_eq name (codes "agree") ≡ false → bytes_eq name (codes "counts") ≡ false → get_member name ms ≡ Some d
    → get_member name (with_members ms (verdict_members f j)) ≡ Some d
before_verdicts name f j ms d first second found =
    let agree = option_data boolean j.agree in
    let counts = option_data boolean j.counts in
    get_with_others name ms (verdict_members f j)
    (other_names (is_judged f.version) name agree counts first second) ∙ found

-- the members before the verdicts
abbrev seen_members : List StagedTold → Seen → List Member
seen_members staged x =
    (codes "pulse", number_data x.told.row.pulse)
    ∷ (codes "staged", list_data staged_data staged)
    ∷ (codes "coins", list_data number_data x.coins)
    ∷ (codes "ran", list_data ran_data x.after.nodes)
    ∷ (codes "clocks", list_data (option_data number_data) x.told.clocks)
    ∷ (codes "settled", list_data boolean x.told.settled)
    ∷ (codes "steps", list_data number_data x.steps)
    ∷ (codes "memory", list_data memory_data x.after.nodes)
    ∷ (codes "sent", list_data (sent_data (length x.after.mail)) x.after.mail) ∷ []

found_as : {A : Type 0} (r : Data → Option A) (name : List ℕ) (f : Frame) (j : Judged) (staged : List StagedTold)
    (x : Seen) (d : Data) (a : A) → bytes_eq name (codes "agree") ≡ false → bytes_eq name (codes "counts") ≡ false
    → get_member name (with_members no_members (seen_members staged x)) ≡ Some d → r d ≡ Some a
    → option_and_then r (get name (pulse_data f j staged x)) ≡ Some a
found_as r name f j staged x d a first second found is =
    ap (option_and_then r)
    (before_verdicts name f j (with_members no_members (seen_members staged x)) d first second found) ∙ is

-- ---- what is told of each node

bytes_at : (memory : List ℕ) → AllByRecursion (λ byte. byte < 256) memory → (i : ℕ) → slice_index memory i < 256
bytes_at [] each i = omega arith
bytes_at (byte ∷ memory) each zero = each.0
bytes_at (byte ∷ memory) each (suc i) = bytes_at memory each.1 i

memory_back : (x : Node) → All (λ byte. byte < 256) x.memory → bytes_in (memory_data x) ≡ Some x.memory
memory_back x bytes =
    let each = recursion_from_All (λ byte. byte < 256) x.memory bytes in
    ap result_ok (decode_of-encode_lower x.memory (bytes_at x.memory each))

each_memory : (nodes : List Node) → AllByRecursion (λ x. All (λ byte. byte < 256) x.memory) nodes
    → AllByRecursion (λ x. bytes_in (memory_data x) ≡ Some x.memory) nodes
each_memory [] bytes = tt
each_memory (x ∷ nodes) bytes = (memory_back x bytes.0, each_memory nodes bytes.1)

slot_back : (o : Option ℕ) → option_in number_told (option_data number_data o) ≡ Some o
slot_back o = option_back number_data number_told number_back (λ n. refl) o

slots_back : (os : List (Option ℕ))
    → each_in (option_in number_told) (items_of (map (option_data number_data) os)) ≡ Some os
slots_back os = list_back (option_data number_data) (option_in number_told) slot_back os

row_back : (row : FinMap nat_cmp ℕ) (places : List ℕ)
    → each_in (option_in number_told) (items_of (map (λ place. option_data number_data (get_in row place)) places))
    ≡ Some (map (get_in row) places)
row_back row [] = refl
row_back row (place ∷ places) = rw (slot_back (get_in row place), row_back row places) refl

rows_back : (nodes : ℕ) (rows : List (FinMap nat_cmp ℕ))
    → each_in (list_in (option_in number_told)) (items_of (map (sent_data nodes) rows))
    ≡ Some (map (λ row. map (get_in row) (places_below nodes)) rows)
rows_back nodes [] = refl
rows_back nodes (row ∷ rows) = rw (row_back row (places_below nodes), rows_back nodes rows) refl

-- ---- the pulse

pub tells_its_pulse : (f : Frame) (j : Judged) (staged : List StagedTold) (x : Seen)
    → TellsSeen x (pulse_data f j staged x)
tells_its_pulse f j staged x =
    let clocks = list_data (option_data number_data) x.told.clocks in
    let sent = list_data (sent_data (length x.after.mail)) x.after.mail in
    record {
      pulse = found_as number_told (codes "pulse") f j staged x (number_data x.told.row.pulse) x.told.row.pulse
          refl refl refl refl;
      coins = found_as (list_in number_told) (codes "coins") f j staged x (list_data number_data x.coins) x.coins
          refl refl refl (list_back number_data number_told number_back x.coins);
      clocks = found_as (list_in (option_in number_told)) (codes "clocks") f j staged x clocks x.told.clocks
          refl refl refl (slots_back x.told.clocks);
      settled = found_as (list_in as_bool) (codes "settled") f j staged x (list_data boolean x.told.settled)
          x.told.settled refl refl refl (list_back boolean as_bool (λ b. refl) x.told.settled);
      steps = found_as (list_in number_told) (codes "steps") f j staged x (list_data number_data x.steps) x.steps
          refl refl refl (list_back number_data number_told number_back x.steps);
      memory = λ bytes. found_as (list_in bytes_in) (codes "memory") f j staged x
          (list_data memory_data x.after.nodes) (memories_in x.after) refl refl refl
          (list_told memory_data bytes_in (λ (n : Node). n.memory) x.after.nodes
          (each_memory x.after.nodes (recursion_from_All _ x.after.nodes bytes)));
      sent = found_as (list_in (list_in (option_in number_told))) (codes "sent") f j staged x sent (message_slots x.after)
          refl refl refl (rows_back (length x.after.mail) x.after.mail);
    }

-- ---- two pulses

one_of : {A : Type 0} (r : Data → Option A) (d e : Data) (a b : A) → d ≡ e → r d ≡ Some a → r e ≡ Some b → a ≡ b
one_of r d e a b same first second = let both : Some a ≡ Some b = sym first ∙ (ap r same ∙ second) in cc

same_data : (d e : Data) → ReadsBack d → ReadsBack e → json_line d ≡ json_line e → d ≡ e
same_data d e first second same =
    let text : compact_text d ≡ compact_text e =
    append_cancel_right (compact_text d) (compact_text e) (codes "\n") same in
    let both : Some d ≡ Some e = sym first ∙ (ap read text ∙ second) in
    cc

alike : (x y : Seen) (d e : Data) → d ≡ e → TellsSeen x d → TellsSeen y e → AreAlike x y
alike x y d e same a b = record {
  pulse = one_of told_pulse d e _ _ same a.pulse b.pulse;
  coins = one_of told_coins d e _ _ same a.coins b.coins;
  clocks = one_of clocks_told d e _ _ same a.clocks b.clocks;
  settled = one_of told_settled d e _ _ same a.settled b.settled;
  steps = one_of told_steps d e _ _ same a.steps b.steps;
  memory = λ mine other. one_of told_memory d e _ _ same (a.memory mine) (b.memory other);
  sent = one_of told_sent d e _ _ same a.sent b.sent;
  mail = λ mine other. mail_same x.after.mail y.after.mail mine other (one_of told_sent d e _ _ same a.sent b.sent);
}

pub one_line_one_pulse : (f g : Frame) (j k : Judged) (staged before : List StagedTold) (x y : Seen)
    → ReadsBack (pulse_data f j staged x) → ReadsBack (pulse_data g k before y)
    → json_line (pulse_data f j staged x) ≡ json_line (pulse_data g k before y) → AreAlike x y
one_line_one_pulse f g j k staged before x y first second same =
    alike x y _ _ (same_data _ _ first second same) (tells_its_pulse f j staged x) (tells_its_pulse g k before y)
