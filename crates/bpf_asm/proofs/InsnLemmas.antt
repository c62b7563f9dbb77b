-- The instructions that are read, line by line.
use Rattle.std.proofs.Common.{◌≡◌, ℕ, ◌+◌, ◌<◌, ◌≤◌, Bool, true, false, cond, List, [], ◌∷◌, ◌++◌, refl, sym, ap, subst, ◌∙◌, arith, pos, ◌-ℤ◌, ℤ, append_assoc, append-nil, inl, inr}
use Rattle.std.specs.Prelude.{Option, Some, None, Ok, Err, ◌⊎◌, ◌≢◌, option_map, is_none}
use Rattle.std.specs.Borrow.{Bor}
use Rattle.std.proofs.lemmas.Bool.{false≢true}
use Rattle.std.proofs.lemmas.List.Sums.{sum_by-append}
use Rattle.bpf_insn.specs.declared.forms.Insn.{Insn}
use Rattle.bpf_insn.specs.declared.forms.Insn.TheVariants as insn
use Rattle.bpf_insn.specs.declared.listing.TheConstants.{MAX_SLOTS}
use Rattle.bpf_insn.specs.Encoding.{slots_taken}
use Rattle.bpf_insn.specs.Programs.{slots_of}
use Rattle.bpf_asm.specs.declared.labels.Labels.{Labels}
use Rattle.bpf_asm.specs.declared.text_error.TextError.{TextError}
use Rattle.bpf_asm.specs.declared.text_error.TextError.TheVariants.{Memory}
use Rattle.bpf_asm.specs.Statements.{Line, Source}
use Rattle.bpf_asm.specs.Meaning.{label_slot, is_map, places_from, source_slots, lines_in, with_distance, insn_to, insn_by, before_all, insns_before, insns_from, insns_of, Means}
use Rattle.bpf_asm.specs.inner.Meaning.{known, HasPlaces, near_places, slots_of_lines, lines_left, Resolves, RefusesText, insns_found, slots_found}
use Rattle.bpf_asm.proofs.LabelLemmas.{near_all}

-- ---- one line

with_distance-slots : (off : ℤ) (i : Insn) → slots_taken (with_distance off i) ≡ slots_taken i
with_distance-slots off (insn.Alu op width dst src) = refl
with_distance-slots off (insn.Neg width dst) = refl
with_distance-slots off (insn.Movsx kind dst src) = refl
with_distance-slots off (insn.Swap order bits dst) = refl
with_distance-slots off (insn.Ja old) = refl
with_distance-slots off (insn.JaLong old) = refl
with_distance-slots off (insn.Branch cond width dst src old) = refl
with_distance-slots off (insn.Call id) = refl
with_distance-slots off insn.Exit = refl
with_distance-slots off (insn.Load size dst base old) = refl
with_distance-slots off (insn.LoadSx size dst base old) = refl
with_distance-slots off (insn.StoreReg size base old src) = refl
with_distance-slots off (insn.StoreImm size base old imm) = refl
with_distance-slots off (insn.LoadImm64 dst value) = refl

pub keeps_slots : (slots : List ℕ → Option ℕ) (slot : ℕ) (s : Source) (i : Insn) → insn_by slots slot s ≡ Some i
    → slots_taken i ≡ slots_taken s.insn
keeps_slots slots slot s i found = by_label s.label found
  where
    by_slot : (found : Option ℕ) → option_map (λ target. with_distance (pos target -ℤ pos (slot + 1)) s.insn) found
        ≡ Some i → slots_taken i ≡ slots_taken s.insn
    by_slot None found = absurd (cc)
    by_slot (Some target) found =
        let same : with_distance (pos target -ℤ pos (slot + 1)) s.insn ≡ i = cc in
        ap slots_taken (sym same) ∙ with_distance-slots (pos target -ℤ pos (slot + 1)) s.insn

    by_label : (label : Option (List ℕ)) → insn_to slots slot s.insn label ≡ Some i → slots_taken i ≡ slots_taken s.insn
    by_label None found = let same : s.insn ≡ i = cc in ap slots_taken (sym same)
    by_label (Some name) found = by_slot (slots name) found

pub label_resolved : (labels : Labels) (slot : ℕ) (i : Insn) (label : Option (List ℕ)) (name : List ℕ) (target : ℕ)
    → label ≡ Some name → known labels name ≡ Some target
    → insn_to (known labels) slot i label ≡ Some (with_distance (pos target -ℤ pos (slot + 1)) i)
label_resolved labels slot i label name target named found =
    ap (insn_to (known labels) slot i) named ∙ ap (option_map (λ t. with_distance (pos t -ℤ pos (slot + 1)) i)) found

pub resolved : (labels : Labels) (slot : ℕ) (s : Source) (i : Insn) → insn_by (known labels) slot s ≡ Some i
    → slot + slots_taken i ≤ MAX_SLOTS
    → Resolves labels slot (Some (Some s)) (Ok (Some i))
resolved labels slot s i found within = (
  λ later. ap (λ o. before_all o later) found,
  sym
      (keeps_slots (known labels) slot s i found),
  within,
)

pub unknown_label : (labels : Labels) (slot : ℕ) (s : Source) (error : TextError) → insn_by (known labels) slot s ≡ None
    → Resolves labels slot (Some (Some s)) (Err error)
unknown_label labels slot s error missing = inl (λ later. ap (λ o. before_all o later) missing)

pub too_long : (labels : Labels) (slot : ℕ) (s : Source) (i : Insn) (error : TextError)
    → insn_by (known labels) slot s ≡ Some i → MAX_SLOTS < slot + slots_taken i
    → Resolves labels slot (Some (Some s)) (Err error)
too_long labels slot s i error found past = let same = keeps_slots (known labels) slot s i found in inr (omega arith)

-- ---- the loop

abbrev pub prepend_all : List Insn → Option (List Insn) → Option (List Insn)
prepend_all insns None = None
prepend_all insns (Some later) = Some (insns ++ later)

pub none_before : (all : Option (List Insn)) → all ≡ prepend_all [] all
none_before None = refl
none_before (Some insns) = refl

-- the instructions so far, with those of the lines that are left, are all; and so with their slots
pub record SoFar (labels : Labels) (text : List ℕ) (insns : List Insn) (slot : ℕ)
    (rest : Option (Bor (List ℕ))) : Type 0 where
  pub read : insns_from (known labels) 0 (lines_in text) ≡ prepend_all insns
      (insns_from (known labels) slot (lines_left rest))
  pub count : slots_of_lines (lines_in text) ≡ slot + slots_of_lines (lines_left rest)
  pub within : slot ≤ MAX_SLOTS

pub at_start : (labels : Labels) (text : Bor (List ℕ)) → SoFar labels text.now [] 0 (Some text)
at_start labels text = record {
  read = none_before (insns_from (known labels) 0 (lines_in text.now));
  count = omega arith;
  within = omega arith;
}

prepend_one : (insns : List Insn) (i : Insn) (later : Option (List Insn))
    → prepend_all insns (before_all (Some i) later) ≡ prepend_all (insns ++ (i ∷ [])) later
prepend_one insns i None = refl
prepend_one insns i (Some later) = ap Some (sym (append_assoc insns (i ∷ []) later))

found_slots : (labels : Labels) (slot : ℕ) (source : Option (Option Source)) (found : Option Insn)
    → Resolves labels slot source (Ok found) → source_slots source ≡ slots_found found
found_slots labels slot source None r = r.1
found_slots labels slot source (Some i) r = r.1

pub next_so_far : (labels : Labels) (text : List ℕ) (insns : List Insn) (slot : ℕ) (rest : Option (Bor (List ℕ)))
    (front : Bor (List ℕ)) (line : Line) (behind : Option (Bor (List ℕ))) (found : Option Insn)
    → rest ≡ Some front → lines_in front.now ≡ line ∷ lines_left behind → Resolves labels slot line.source (Ok found)
    → SoFar labels text insns slot rest → SoFar labels text (insns ++ insns_found found)
    (slot + slots_found found) behind
next_so_far labels text insns slot rest front line behind found here first r before = record {
  read = before.read ∙ ap (λ x. prepend_all insns (insns_from f slot (lines_left x))) here
      ∙ ap (λ ls. prepend_all insns (insns_from f slot ls)) first
      ∙ ap (λ n. prepend_all insns (insns_before f slot line.source (insns_from f (slot + n) (lines_left behind))))
      same ∙ by_found found r;
  count = before.count ∙ ap (λ x. slot + slots_of_lines (lines_left x)) here
      ∙ ap (λ ls. slot + slots_of_lines ls) first ∙ omega (arith, same);
  within = by_within found r;
}
  where
    f : List ℕ → Option ℕ
    f = known labels

    same : source_slots line.source ≡ slots_found found
    same = found_slots labels slot line.source found r

    by_found : (o : Option Insn) → Resolves labels slot line.source (Ok o)
        → prepend_all insns (insns_before (known labels) slot line.source
        (insns_from (known labels) (slot + slots_found o) (lines_left behind)))
        ≡ prepend_all (insns ++ insns_found o) (insns_from (known labels) (slot + slots_found o) (lines_left behind))
    by_found None r = ap (prepend_all insns) (r.0 (insns_from (known labels) (slot + 0) (lines_left behind)))
        ∙ ap (λ xs. prepend_all xs (insns_from (known labels) (slot + 0) (lines_left behind))) (sym (append-nil insns))
    by_found (Some i) r = ap (prepend_all insns)
        (r.0 (insns_from (known labels) (slot + slots_taken i) (lines_left behind)))
        ∙ prepend_one insns i (insns_from (known labels) (slot + slots_taken i) (lines_left behind))

    by_within : (o : Option Insn) → Resolves labels slot line.source (Ok o) → slot + slots_found o ≤ MAX_SLOTS
    by_within None r = omega (arith, before.within)
    by_within (Some i) r = r.2

pub line_refuses : (labels : Labels) (text : List ℕ) (insns : List Insn) (slot : ℕ) (rest : Option (Bor (List ℕ)))
    (front : Bor (List ℕ)) (line : Line) (behind : Option (Bor (List ℕ))) (error : TextError)
    → rest ≡ Some front → lines_in front.now ≡ line ∷ lines_left behind → Resolves labels slot line.source (Err error)
    → SoFar labels text insns slot rest → RefusesText (known labels) (lines_in text) error
line_refuses labels text insns slot rest front line behind error here first r before other = by_cause r
  where
    by_cause : Resolves labels slot line.source (Err error) → (insns_from (known labels) 0 (lines_in text) ≡ None)
        ⊎ (MAX_SLOTS < slots_of_lines (lines_in text))
    by_cause (inl missing) = inl (before.read ∙ ap
        (λ x. prepend_all insns (insns_from (known labels) slot (lines_left x))) here
        ∙ ap (λ ls. prepend_all insns (insns_from (known labels) slot ls)) first
        ∙ ap (prepend_all insns) (missing (insns_from (known labels) (slot + source_slots line.source)
        (lines_left behind))))
    by_cause (inr past) =
        let all = before.count ∙ ap (λ x. slot + slots_of_lines (lines_left x)) here
        ∙ ap (λ ls. slot + slots_of_lines ls) first in
        inr (omega (arith, all, past))

pub all_read : (labels : Labels) (text : List ℕ) (insns : List Insn) (slot : ℕ) (rest : Option (Bor (List ℕ)))
    → rest ≡ None
    → SoFar labels text insns slot rest → insns_from (known labels) 0 (lines_in text) ≡ Some insns
all_read labels text insns slot rest ended so_far =
    so_far.read ∙ ap (λ x. prepend_all insns (insns_from (known labels) slot (lines_left x))) ended
    ∙ ap Some (append-nil insns)

pub all_few : (labels : Labels) (text : List ℕ) (insns : List Insn) (slot : ℕ) (rest : Option (Bor (List ℕ)))
    → rest ≡ None
    → SoFar labels text insns slot rest → slots_of_lines (lines_in text) ≤ MAX_SLOTS
all_few labels text insns slot rest ended so_far =
    let all = so_far.count ∙ ap (λ x. slot + slots_of_lines (lines_left x)) ended in
    omega (arith, all, so_far.within)

-- ---- the whole text

slots_of-cons : (i : Insn) (is : List Insn) → slots_of (i ∷ is) ≡ slots_taken i + slots_of is
slots_of-cons i is = sum_by-append slots_taken (i ∷ []) is ∙ omega arith

-- the instructions take the slots of their lines
pub slots_of_insns : (slots : List ℕ → Option ℕ) (slot : ℕ) (lines : List Line) (insns : List Insn)
    → insns_from slots slot lines ≡ Some insns → slots_of insns ≡ slots_of_lines lines
slots_of_insns slots slot [] insns read = let same : [] ≡ insns = cc in ap slots_of (sym same)
slots_of_insns slots slot (line ∷ lines) insns read =
    by_source line.source (insns_from slots (slot + source_slots line.source) lines) refl
    (slots_of_insns slots (slot + source_slots line.source) lines) read
  where
    by_insn : (s : Source) (o : Option Insn) (later : Option (List Insn)) → insn_by slots slot s ≡ o
        → ((is : List Insn) → later ≡ Some is → slots_of is ≡ slots_of_lines lines)
        → before_all o later ≡ Some insns → slots_of insns ≡ slots_taken s.insn + slots_of_lines lines
    by_insn s None later found counts read = absurd (cc)
    by_insn s (Some i) None found counts read = absurd (cc)
    by_insn s (Some i) (Some is) found counts read =
        let same : i ∷ is ≡ insns = cc in
        ap slots_of (sym same) ∙ slots_of-cons i is ∙ ap (λ n. n + slots_of is) (keeps_slots slots slot s i found)
        ∙ ap (λ n. slots_taken s.insn + n) (counts is refl)

    by_source : (source : Option (Option Source)) (later : Option (List Insn))
        → insns_from slots (slot + source_slots line.source) lines ≡ later
        → ((is : List Insn) → later ≡ Some is → slots_of is ≡ slots_of_lines lines)
        → insns_before slots slot source later ≡ Some insns → slots_of insns ≡ source_slots source + slots_of_lines lines
    by_source None later is_later counts read = absurd (cc)
    by_source (Some None) later is_later counts read = counts insns read ∙ omega arith
    by_source (Some (Some s)) later is_later counts read = by_insn s (insn_by slots slot s) later refl counts read

-- slots alone matter
same_slots : (f g : List ℕ → Option ℕ) → ((q : List ℕ) → f q ≡ g q) → (slot : ℕ) (lines : List Line)
    → insns_from f slot lines ≡ insns_from g slot lines
same_slots f g same slot [] = refl
same_slots f g same slot (line ∷ lines) =
    by_source line.source (insns_from f (slot + source_slots line.source) lines)
    ∙ ap (insns_before g slot line.source) (same_slots f g same (slot + source_slots line.source) lines)
  where
    by_label : (i : Insn) (label : Option (List ℕ)) → insn_to f slot i label ≡ insn_to g slot i label
    by_label i None = refl
    by_label i (Some name) = ap (option_map (λ target. with_distance (pos target -ℤ pos (slot + 1)) i)) (same name)

    by_source : (source : Option (Option Source)) (later : Option (List Insn))
        → insns_before f slot source later ≡ insns_before g slot source later
    by_source None later = refl
    by_source (Some None) later = refl
    by_source (Some (Some s)) later = ap (λ o. before_all o later) (by_label s.insn s.label)

-- where the slots are few, the labels know the places
known_places : (labels : Labels) (text : List ℕ) → HasPlaces labels (near_places 0 (lines_in text))
    → slots_of_lines (lines_in text) ≤ MAX_SLOTS
    → HasPlaces labels (places_from 0 (lines_in text))
known_places labels text has few = subst (HasPlaces labels) (near_all 0 (lines_in text) (omega arith)) has

pub text_read : (labels : Labels) (text : List ℕ) (insns : List Insn)
    → HasPlaces labels (near_places 0 (lines_in text)) → labels.twice ≡ None
    → insns_from (known labels) 0 (lines_in text) ≡ Some insns → slots_of_lines (lines_in text) ≤ MAX_SLOTS
    → insns_of text ≡ Some insns
text_read labels text insns has once read few =
    let places = known_places labels text has few in
    ap (λ b. cond b (insns_from (label_slot (places_from 0 (lines_in text))) 0 (lines_in text)) None)
    (sym places.once ∙ ap is_none once)
    ∙ sym (same_slots (known labels) (label_slot (places_from 0 (lines_in text))) places.slots 0 (lines_in text)) ∙ read

when_map : (b : Bool) (o : Option (List Insn)) (p : List Insn) → cond b o None ≡ Some p → (b ≡ true) × (o ≡ Some p)
when_map true o p read = (refl, read)
when_map false o p read = absurd (cc)

meant_few : (text : List ℕ) (p : List Insn) → Means text p → slots_of_lines (lines_in text) ≤ MAX_SLOTS
meant_few text p means =
    let read = when_map (is_map (places_from 0 (lines_in text)))
    (insns_from (label_slot (places_from 0 (lines_in text))) 0 (lines_in text)) p means.reads in
    let same = slots_of_insns (label_slot (places_from 0 (lines_in text))) 0 (lines_in text) p read.1 in
    omega (arith, same, means.is_program.few_slots)

-- a second label leaves no meaning
pub twice_means_nothing : (labels : Labels) (text : List ℕ) (line : ℕ) (p : List Insn)
    → HasPlaces labels (near_places 0 (lines_in text)) → labels.twice ≡ Some line → Means text p → ⊥
twice_means_nothing labels text line p has twice means =
    let places = known_places labels text has (meant_few text p means) in
    let read = when_map (is_map (places_from 0 (lines_in text)))
    (insns_from (label_slot (places_from 0 (lines_in text))) 0 (lines_in text)) p means.reads in
    false≢true (sym (ap is_none twice) ∙ places.once ∙ read.0)

-- and so does a line's refusal
pub refused_means_nothing : (labels : Labels) (text : List ℕ) (error : TextError) (p : List Insn)
    → HasPlaces labels (near_places 0 (lines_in text)) → error ≢ Memory
    → RefusesText (known labels) (lines_in text) error → Means text p → ⊥
refused_means_nothing labels text error p has other refuses means = by_cause (refuses other)
  where
    few : slots_of_lines (lines_in text) ≤ MAX_SLOTS
    few = meant_few text p means

    read : insns_from (known labels) 0 (lines_in text) ≡ Some p
    read =
        let places = known_places labels text has few in
        let meant = when_map (is_map (places_from 0 (lines_in text)))
        (insns_from (label_slot (places_from 0 (lines_in text))) 0 (lines_in text)) p means.reads in
        same_slots (known labels) (label_slot (places_from 0 (lines_in text))) places.slots 0 (lines_in text) ∙ meant.1

    by_cause : (insns_from (known labels) 0 (lines_in text) ≡ None) ⊎ (MAX_SLOTS < slots_of_lines (lines_in text)) → ⊥
    by_cause (inl missing) = absurd (let e = sym missing ∙ read in cc)
    by_cause (inr past) = omega (arith, few, past)
