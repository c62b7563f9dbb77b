-- The listing of a rule (docs/RULES.md, "Lines and instructions"): its instructions below the lines that made them.
use Rattle.std.specs.Prelude.{ℕ, zero, suc, ◌-◌, ◌==◌, Bool, List, [], ◌++◌, codes, slice_index}
use Rattle.std.specs.Prelude.{Option, Some, None, if◌then◌else◌}
use Rattle.std.specs.List.{after_first, before_first, flat_map, range_with_len}
use Rattle.std.specs.Fmt.{decimal}
use Rattle.hex.specs.Hex.{encode_lower}
use Rattle.bpf_insn.specs.declared.forms.Insn.{Insn}
use Rattle.bpf_insn.specs.Encoding.{slots_taken}
use Rattle.bpf_insn.specs.Programs.{image_of, insn_at, slots_of}
use Rattle.bpf_asm.specs.Canonical.{canonical_line}
use Rattle.bpf_asm.specs.Listing.{bytes_at}

-- ---- the lines of a text

-- a line goes up to the first LF
abbrev pub is_line_end : ℕ → Bool
is_line_end c = c == 10

-- the line of a text with this many lines before it
abbrev pub line_after : ℕ → List ℕ → List ℕ
line_after zero text = before_first is_line_end text
line_after (suc before) text = line_after before (after_first is_line_end text)

-- ---- rows

-- the line of the instruction at a slot, if `lines` begins with that of slot 1; 0 if it is of no line
abbrev pub line_at : List ℕ → ℕ → ℕ
line_at lines zero = 0
line_at lines (suc slot) = slice_index lines slot

-- a line's number and its text; no line is the end
abbrev pub heading : List ℕ → ℕ → List ℕ
heading text zero = codes "end\n"
heading text (suc before) =
    codes "line " ++ (decimal (suc before) ++ (codes " " ++ (line_after before text ++ codes "\n")))

-- the row of a line, if the instruction before is of another one
abbrev pub heading_by : List ℕ → ℕ → ℕ → List ℕ
heading_by text before line = if before == line then [] else heading text line

-- an instruction's slot, its bytes as two digits each, and its canonical line
abbrev pub slot_text : List ℕ → ℕ → Option Insn → List ℕ
slot_text image slot None = []
slot_text image slot (Some insn) = codes "slot " ++ (decimal slot ++ (codes " "
    ++ (encode_lower (bytes_at image slot (slots_taken insn)) ++ (codes " " ++ (canonical_line insn ++ codes "\n")))))

-- what is listed of a slot
abbrev pub slot_rows : List ℕ → List ℕ → List Insn → ℕ → List ℕ
slot_rows text lines program slot = heading_by text (line_at lines (slot - 1)) (line_at lines slot)
    ++ slot_text (image_of program) slot (insn_at program slot)

abbrev pub rule_listing : List ℕ → List ℕ → List Insn → List ℕ
rule_listing text lines program = flat_map (slot_rows text lines program) (range_with_len 0 (slots_of program))
