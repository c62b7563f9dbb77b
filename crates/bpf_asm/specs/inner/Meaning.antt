-- Beside Meaning: what proofs and private contracts alone cite.
use Rattle.std.specs.Borrow.{Bor}
use Rattle.std.specs.BTreeMap.{get_by}
use Rattle.std.specs.Cmp.Lexicographic.{slice_cmp}
use Rattle.std.specs.Ordering.{nat_cmp}
use Rattle.std.specs.Prelude.{◌≡◌, ◌<◌, ◌≤◌, ◌⊎◌, ◌≢◌, nat_le, is_none, Result, Ok, Err, ℕ, ◌+◌, ◌∷◌}
use Rattle.std.specs.Prelude.{◌++◌, List, [], Option, Some, None, if◌then◌else◌}
use Rattle.bpf_insn.specs.declared.forms.Insn.{Insn}
use Rattle.bpf_insn.specs.Encoding.{slots_taken}
use Rattle.bpf_insn.specs.declared.listing.TheConstants.{MAX_SLOTS}
use Rattle.bpf_asm.specs.declared.labels.Labels.{Labels}
use Rattle.bpf_asm.specs.declared.text_error.TextError.{TextError}
use Rattle.bpf_asm.specs.declared.text_error.TextError.TheVariants as errors
use Rattle.bpf_asm.specs.Statements.{Source, Line}
use Rattle.bpf_asm.specs.Meaning.{lines_in, source_slots, Places, place_at, label_slot, is_map, before_all, insns_before, insns_from}

abbrev pub lines_left : Option (Bor (List ℕ)) → List Line
lines_left None = []
lines_left (Some text) = lines_in text.now

-- the slots of all lines
abbrev pub slots_of_lines : List Line → ℕ
slots_of_lines [] = 0
slots_of_lines (line ∷ lines) = source_slots line.source + slots_of_lines lines

-- slots past the last that a program can have count as that one
abbrev pub near : ℕ → ℕ
near slot = if nat_le slot MAX_SLOTS then slot else MAX_SLOTS

-- the places, of which no slot is past that one
abbrev pub near_places : ℕ → List Line → Places
near_places slot [] = []
near_places slot (line ∷ lines) = place_at line.name slot ++ near_places (near (slot + source_slots line.source)) lines

abbrev pub known : Labels → List ℕ → Option ℕ
known labels name = get_by (λ k. slice_cmp nat_cmp name k.now) labels.slots

-- the code's labels are these places
pub record HasPlaces (labels : Labels) (places : Places) : Type 0 where
  pub slots : (name : List ℕ) → known labels name ≡ label_slot places name
  pub once : is_none labels.twice ≡ is_map places

abbrev pub Near : (List ℕ → Option ℕ) → Type 0
Near slots = (name : List ℕ) (slot : ℕ) → slots name ≡ Some slot → slot ≤ MAX_SLOTS

-- what the code has of a line at a slot: its instruction, or why the lines mean no program
abbrev pub Resolves : Labels → ℕ → Option (Option Source) → Result (Option Insn) TextError → Type 0
Resolves labels slot source (Ok None) =
    ((later : Option (List Insn)) → insns_before (known labels) slot source later ≡ later) × (source_slots source ≡ 0)
Resolves labels slot source (Ok (Some insn)) =
    ((later : Option (List Insn)) → insns_before (known labels) slot source later ≡ before_all (Some insn) later)
    × (source_slots source ≡ slots_taken insn) × (slot + slots_taken insn ≤ MAX_SLOTS)
Resolves labels slot source (Err error) =
    ((later : Option (List Insn)) → insns_before (known labels) slot source later ≡ None)
    ⊎ (MAX_SLOTS < slot + source_slots source)

abbrev pub insns_found : Option Insn → List Insn
insns_found None = []
insns_found (Some insn) = insn ∷ []

abbrev pub slots_found : Option Insn → ℕ
slots_found None = 0
slots_found (Some insn) = slots_taken insn

-- a refusal, but for lack of memory: the lines have no instructions, or too many
abbrev pub RefusesText : (List ℕ → Option ℕ) → List Line → TextError → Type 0
RefusesText slots lines error =
    error ≢ errors.Memory → (insns_from slots 0 lines ≡ None) ⊎ (MAX_SLOTS < slots_of_lines lines)
