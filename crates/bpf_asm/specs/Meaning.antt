-- What a text means (docs/ASSEMBLER.md, "Meaning").
use Rattle.std.specs.Prelude.{◌≡◌, ℕ, ℤ, pos, ◌-ℤ◌, ◌+◌, ◌∷◌}
use Rattle.std.specs.Prelude.{◌++◌, ◌&&◌, not, Bool, true, List, [], map, Option, Some, None, option_map, if◌then◌else◌}
use Rattle.std.specs.List.{list_any}
use Rattle.std.specs.Str.{bytes_eq}
use Rattle.bpf_insn.specs.declared.forms.Insn.{Insn}
use Rattle.bpf_insn.specs.declared.forms.Insn.TheVariants.{Ja, JaLong, Branch}
use Rattle.bpf_insn.specs.Encoding.{slots_taken}
use Rattle.bpf_insn.specs.Programs.{IsProgram}
use Rattle.bpf_asm.specs.Pieces.{lines_of}
use Rattle.bpf_asm.specs.Statements.{Source, Line, line_of}

abbrev pub lines_in : List ℕ → List Line
lines_in text = map line_of (lines_of text)

-- ---- labels

-- the slots that a line's instruction takes
abbrev pub source_slots : Option (Option Source) → ℕ
source_slots (Some (Some source)) = slots_taken source.insn
source_slots _ = 0

-- names with slots
abbrev pub Places : Type 0
Places = List (List ℕ × ℕ)

abbrev pub place_at : Option (List ℕ) → ℕ → Places
place_at None slot = []
place_at (Some name) slot = (name, slot) ∷ []

-- each label with the slot of the next instruction, or the slot after the last
abbrev pub places_from : ℕ → List Line → Places
places_from slot [] = []
places_from slot (line ∷ lines) = place_at line.name slot ++ places_from (slot + source_slots line.source) lines

-- the slot of a name
abbrev pub label_slot : Places → List ℕ → Option ℕ
label_slot [] name = None
label_slot (p ∷ ps) name = if bytes_eq p.0 name then Some p.1 else label_slot ps name

-- no name is defined twice
abbrev pub is_map : Places → Bool
is_map [] = true
is_map (p ∷ ps) = not (list_any (λ q. bytes_eq p.0 q.0) ps) && is_map ps

-- ---- instructions

-- a jump with this distance; other instructions stay
abbrev pub with_distance : ℤ → Insn → Insn
with_distance off (Ja old) = Ja off
with_distance off (JaLong old) = JaLong off
with_distance off (Branch cond width dst src old) = Branch cond width dst src off
with_distance off insn = insn

-- the instruction at a slot, by the slots of the labels; a distance counts from the slot after it
abbrev pub insn_to : (List ℕ → Option ℕ) → ℕ → Insn → Option (List ℕ) → Option Insn
insn_to slots slot insn None = Some insn
insn_to slots slot insn (Some name) =
    option_map (λ target. with_distance (pos target -ℤ pos (slot + 1)) insn) (slots name)

abbrev pub insn_by : (List ℕ → Option ℕ) → ℕ → Source → Option Insn
insn_by slots slot source = insn_to slots slot source.insn source.label

abbrev pub before_all : Option Insn → Option (List Insn) → Option (List Insn)
before_all (Some insn) (Some insns) = Some (insn ∷ insns)
before_all _ _ = None

-- a line's instruction, if it has one, before those of the later lines
abbrev pub insns_before : (List ℕ → Option ℕ) → ℕ → Option (Option Source) → Option (List Insn) → Option (List Insn)
insns_before slots slot None later = None
insns_before slots slot (Some None) later = later
insns_before slots slot (Some (Some source)) later = before_all (insn_by slots slot source) later

-- the instructions of lines from a slot on
abbrev pub insns_from : (List ℕ → Option ℕ) → ℕ → List Line → Option (List Insn)
insns_from slots slot [] = Some []
insns_from slots slot (line ∷ lines) =
    insns_before slots slot line.source (insns_from slots (slot + source_slots line.source) lines)

-- the instructions of a text
abbrev pub insns_of : List ℕ → Option (List Insn)
insns_of text =
    let places = places_from 0 (lines_in text) in
    if is_map places then insns_from (label_slot places) 0 (lines_in text) else None

-- a text means a program: its instructions are the program's, which has 1 to MAX_SLOTS slots
pub record Means (text : List ℕ) (program : List Insn) : Type 0 where
  pub reads : insns_of text ≡ Some program
  pub is_program : IsProgram program
