-- Texts and programs with the slots and the bytes of their instructions beside them (docs/ASSEMBLER.md, "Listings").
use Rattle.std.specs.Prelude.{ℕ, ◌+◌, ◌*◌, ◌-◌, ◌==◌, Bool, not, List, [], ◌∷◌, ◌++◌, codes, length, map, replicate, take, drop, Option, Some, None, if◌then◌else◌}
use Rattle.std.specs.List.{filter, flat_map, range_with_len}
use Rattle.std.specs.Fmt.{decimal}
use Rattle.hex.specs.Hex.{encode_lower}
use Rattle.bpf_insn.specs.declared.forms.Insn.{Insn}
use Rattle.bpf_insn.specs.Encoding.{slots_taken}
use Rattle.bpf_insn.specs.Programs.{image_of, insn_at, slots_of}
use Rattle.bpf_asm.specs.declared.listing.TheConstants.{LINE_WIDTH, SLOT_WIDTH, BYTES_WIDTH}
use Rattle.bpf_asm.specs.Canonical.{canonical_line}
use Rattle.bpf_asm.specs.Meaning.{source_slots}
use Rattle.bpf_asm.specs.Pieces.{lines_of}
use Rattle.bpf_asm.specs.Statements.{line_of}

-- ---- the lines of a text

-- a line: its number, from 1 on, the slots of the lines before it, the slots of its own instruction, and its text
pub record Listed : Type 0 where
  pub number : ℕ
  pub slot : ℕ
  pub slots : ℕ
  pub text : List ℕ

abbrev pub listed : ℕ → ℕ → List ℕ → Listed
listed number slot text =
    record { number = number; slot = slot; slots = source_slots (line_of text).source; text = text }

abbrev pub listed_from : ℕ → ℕ → List (List ℕ) → List Listed
listed_from number slot [] = []
listed_from number slot (text ∷ texts) =
    listed number slot text ∷ listed_from (number + 1) (slot + source_slots (line_of text).source) texts

-- after the last LF there is a line only if text follows
abbrev pub without_empty_end : List (List ℕ) → List (List ℕ)
without_empty_end [] = []
without_empty_end ([] ∷ []) = []
without_empty_end (text ∷ texts) = text ∷ without_empty_end texts

abbrev pub listed_lines : List ℕ → List Listed
listed_lines text = listed_from 1 0 (without_empty_end (lines_of text))

abbrev pub has_instruction : Listed → Bool
has_instruction l = not (l.slots == 0)

-- of each instruction of a text in order: the number of its line, and its slot
abbrev pub instruction_lines : List ℕ → List ℕ
instruction_lines text = map (λ l. l.number) (filter has_instruction (listed_lines text))

abbrev pub instruction_slots : List ℕ → List ℕ
instruction_slots text = map (λ l. l.slot) (filter has_instruction (listed_lines text))

-- the slots at which the instructions begin
abbrev pub beginnings_from : ℕ → List Insn → List ℕ
beginnings_from slot [] = []
beginnings_from slot (insn ∷ insns) = slot ∷ beginnings_from (slot + slots_taken insn) insns

-- ---- columns

-- right-aligned, and left-aligned, in a column of `width` bytes
abbrev pub on_right : ℕ → List ℕ → List ℕ
on_right width text = replicate (width - length text) 32 ++ text

abbrev pub on_left : ℕ → List ℕ → List ℕ
on_left width text = text ++ replicate (width - length text) 32

-- the bytes of this many slots of an image
abbrev pub bytes_at : List ℕ → ℕ → ℕ → List ℕ
bytes_at image slot slots = take (8 * slots) (drop (8 * slot) image)

-- an instruction's slot, and its bytes, each as two digits
abbrev pub slot_columns : ℕ → List ℕ → List ℕ
slot_columns slot bytes =
    on_right SLOT_WIDTH (decimal slot) ++ (codes " " ++ on_left BYTES_WIDTH (encode_lower bytes))

-- the same of a line whose instruction takes this many slots; blanks, if it has none
abbrev pub columns_by : ℕ → ℕ → List ℕ → List ℕ
columns_by slot slots bytes =
    if slots == 0 then replicate (SLOT_WIDTH + 1 + BYTES_WIDTH) 32 else slot_columns slot bytes

-- ---- listings

-- a line's number, the slot and the bytes of its instruction, and the line
abbrev pub line_row : Listed → List ℕ → List ℕ
line_row l bytes =
    on_right LINE_WIDTH (decimal l.number)
    ++ (codes " " ++ (columns_by l.slot l.slots bytes ++ (codes " " ++ (l.text ++ codes "\n"))))

-- a row for each line of a text that means the program of this image
abbrev pub text_listing : List ℕ → List ℕ → List ℕ
text_listing text image = flat_map (λ l. line_row l (bytes_at image l.slot l.slots)) (listed_lines text)

-- an instruction's slot, its bytes and its canonical line
abbrev pub insn_row : List ℕ → ℕ → Option Insn → List ℕ
insn_row image slot None = []
insn_row image slot (Some insn) =
    slot_columns slot (bytes_at image slot (slots_taken insn)) ++ (codes " " ++ (canonical_line insn ++ codes "\n"))

-- a row for each slot at which an instruction begins
abbrev pub program_listing : List Insn → List ℕ
program_listing program =
    flat_map (λ slot. insn_row (image_of program) slot (insn_at program slot)) (range_with_len 0 (slots_of program))
