-- The slots beside the lines of a text are those of its program.
use Rattle.std.proofs.Common.{◌≡◌, ℕ, suc, ◌+◌, Bool, true, false, cond, List, [], ◌∷◌, length, map, refl, sym, ap, ◌∙◌, inl, inr, ◌⊎◌, add-zero}
use Rattle.std.specs.Prelude.{Option, Some, None, ◌==◌, not}
use Rattle.std.specs.List.{filter}
use Rattle.std.proofs.lemmas.List.{length-map}
use Rattle.bpf_insn.specs.declared.forms.Insn.{Insn}
use Rattle.bpf_insn.specs.Encoding.{slots_taken}
use Rattle.bpf_insn.proofs.LayoutLaws.{one_or_two}
use Rattle.bpf_asm.specs.Pieces.{lines_of}
use Rattle.bpf_asm.specs.Meaning.{Means, before_all, insn_by, insns_before, insns_from, is_map, lines_in, places_from, label_slot, source_slots}
use Rattle.bpf_asm.specs.Statements.{Source, line_of}
use Rattle.bpf_asm.specs.Listing.{Listed, beginnings_from, has_instruction, instruction_lines, instruction_slots, listed_from, listed_lines, without_empty_end}
use Rattle.bpf_asm.proofs.InsnLemmas.{keeps_slots}

abbrev Slots : Type 0
Slots = List ℕ → Option ℕ

-- ---- one line more

nonzero : (n : ℕ) → (n ≡ 1) ⊎ (n ≡ 2) → not (n == 0) ≡ true
nonzero n (inl one) = ap (λ k. not (k == 0)) one
nonzero n (inr two) = ap (λ k. not (k == 0)) two

abbrev line_by : ℕ → ℕ → Option (Option Source) → List ℕ → Listed
line_by number slot source text = record { number = number; slot = slot; slots = source_slots source; text = text }

abbrev slots_with : ℕ → ℕ → Option (Option Source) → List ℕ → List Listed → List ℕ
slots_with number slot source text rest =
    map (λ l. l.slot) (cond (not (source_slots source == 0)) (line_by number slot source text ∷ rest) rest)

found_step : (number slot : ℕ) (text : List ℕ) (source : Source) (rest : List Listed) (i : Insn) (is insns : List Insn)
    → slots_taken i ≡ slots_taken source.insn → i ∷ is ≡ insns
    → map (λ l. l.slot) rest ≡ beginnings_from (slot + slots_taken source.insn) is
    → slots_with number slot (Some (Some source)) text rest ≡ beginnings_from slot insns
found_step number slot text source rest i is insns taken all later =
    ap (λ t. map (λ l. l.slot) (cond t (line_by number slot (Some (Some source)) text ∷ rest) rest))
    (nonzero (slots_taken source.insn) (one_or_two source.insn))
    ∙ ap (λ places. slot ∷ places) (later ∙ ap (λ n. beginnings_from (slot + n) is) (sym taken))
    ∙ ap (beginnings_from slot) all

next_slots : (slots : Slots) (number slot : ℕ) (text : List ℕ) (source : Option (Option Source)) (rest : List Listed)
    (later : Option (List Insn)) (insns : List Insn)
    → ((is : List Insn) → later ≡ Some is → map (λ l. l.slot) rest ≡ beginnings_from (slot + source_slots source) is)
    → insns_before slots slot source later ≡ Some insns
    → slots_with number slot source text rest ≡ beginnings_from slot insns
next_slots slots number slot text None rest later insns behind read = absurd (cc)
next_slots slots number slot text (Some None) rest later insns behind read =
    behind insns read ∙ ap (λ n. beginnings_from n insns) (add-zero slot)
next_slots slots number slot text (Some (Some source)) rest later insns behind read =
    by_found (insn_by slots slot source) later refl behind read
  where
    by_found : (found : Option Insn) (later : Option (List Insn)) → insn_by slots slot source ≡ found
        → ((is : List Insn) → later ≡ Some is
        → map (λ l. l.slot) rest ≡ beginnings_from (slot + slots_taken source.insn) is)
        → before_all found later ≡ Some insns
        → slots_with number slot (Some (Some source)) text rest ≡ beginnings_from slot insns
    by_found None later same behind read = absurd (cc)
    by_found (Some i) None same behind read = absurd (cc)
    by_found (Some i) (Some is) same behind read =
        let all : i ∷ is ≡ insns = cc in
        found_step number slot text source rest i is insns (keeps_slots slots slot source i same) all (behind is refl)

-- ---- all lines

abbrev slots_from : ℕ → ℕ → List (List ℕ) → List ℕ
slots_from number slot texts = map (λ l. l.slot) (filter has_instruction (listed_from number slot texts))

all_slots : (slots : Slots) (number slot : ℕ) (texts : List (List ℕ)) (insns : List Insn)
    → insns_from slots slot (map line_of texts) ≡ Some insns
    → slots_from number slot (without_empty_end texts) ≡ beginnings_from slot insns
all_slots slots number slot [] insns read = let none : [] ≡ insns = cc in ap (beginnings_from slot) none
all_slots slots number slot ([] ∷ []) insns read = let none : [] ≡ insns = cc in ap (beginnings_from slot) none
all_slots slots number slot ([] ∷ text ∷ texts) insns read =
    next_slots slots number slot [] (line_of []).source
    (filter has_instruction (listed_from (number + 1) (slot + source_slots (line_of []).source)
    (without_empty_end (text ∷ texts))))
    (insns_from slots (slot + source_slots (line_of []).source) (map line_of (text ∷ texts))) insns
    (λ is later. all_slots slots (number + 1) (slot + source_slots (line_of []).source) (text ∷ texts) is later) read
all_slots slots number slot ((c ∷ cs) ∷ texts) insns read =
    next_slots slots number slot (c ∷ cs) (line_of (c ∷ cs)).source
    (filter has_instruction (listed_from (number + 1) (slot + source_slots (line_of (c ∷ cs)).source)
    (without_empty_end texts)))
    (insns_from slots (slot + source_slots (line_of (c ∷ cs)).source) (map line_of texts)) insns
    (λ is later. all_slots slots (number + 1) (slot + source_slots (line_of (c ∷ cs)).source) texts is later) read

pub listed_slots : (text : List ℕ) (program : List Insn) → Means text program
    → instruction_slots text ≡ beginnings_from 0 program
listed_slots text program means = by_map (is_map (places_from 0 (lines_in text))) means.reads
  where
    by_map : (t : Bool) → cond t (insns_from (label_slot (places_from 0 (lines_in text))) 0 (lines_in text)) None
        ≡ Some program → instruction_slots text ≡ beginnings_from 0 program
    by_map true read = all_slots (label_slot (places_from 0 (lines_in text))) 1 0 (lines_of text) program read
    by_map false read = absurd (cc)

length_beginnings : (slot : ℕ) (insns : List Insn) → length (beginnings_from slot insns) ≡ length insns
length_beginnings slot [] = refl
length_beginnings slot (insn ∷ insns) = ap suc (length_beginnings (slot + slots_taken insn) insns)

pub listed_count : (text : List ℕ) (program : List Insn) → Means text program
    → length (instruction_lines text) ≡ length program
listed_count text program means =
    length-map (filter has_instruction (listed_lines text)) (λ l. l.number)
    ∙ sym (length-map (filter has_instruction (listed_lines text)) (λ l. l.slot))
    ∙ ap length (listed_slots text program means) ∙ length_beginnings 0 program
