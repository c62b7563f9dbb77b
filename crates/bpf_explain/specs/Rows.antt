-- The rows of a program: each instruction with what is known where it occurs.
use Rattle.std.specs.Prelude.{ℕ, ◌+◌, List, [], ◌∷◌, ◌++◌, codes, length, Option, Some, None, slice_get}
use Rattle.std.specs.List.{flat_map, range_with_len}
use Rattle.std.specs.Fmt.{decimal}
use Rattle.node_env.specs.Env.{Extent}
use Rattle.bpf_insn.specs.declared.forms.Insn.{Insn}
use Rattle.bpf_insn.specs.Programs.{insn_at, slots_of}
use Rattle.bpf_asm.specs.Canonical.{canonical_line}
use Rattle.bpf_verify.specs.declared.findings.Verdict.{Verdict}
use Rattle.bpf_verify.specs.declared.findings.Verdict.TheVariants.{Accepted, Refused}
use Rattle.bpf_verify.specs.declared.findings.Findings.{Findings}
use Rattle.bpf_verify.specs.Findings.{table_in}
use Rattle.bpf_verify.specs.Typable.{Table}
use Rattle.parameters.specs.declared.detail.Detail.{Detail}
use Rattle.bpf_explain.specs.declared.fact.Fact.{Fact}
use Rattle.bpf_explain.specs.Facts.{remark}
use Rattle.bpf_explain.specs.Known.{facts_at}

abbrev pub line_part : Option ℕ → List ℕ
line_part None = []
line_part (Some line) = codes "line " ++ (decimal line ++ codes " ")

-- the instruction at a slot, with its line if there is one
abbrev pub row_text : Option ℕ → ℕ → Insn → List Fact → List ℕ
row_text line slot insn facts =
    line_part line ++ (codes "slot " ++ (decimal slot
    ++ (codes " " ++ (canonical_line insn ++ (remark facts ++ codes "\n")))))

abbrev pub insn_listed : Option Insn → List Insn
insn_listed None = []
insn_listed (Some insn) = insn ∷ []

-- how many instructions begin before a slot
unfoldable pub insn_count_before : List Insn → ℕ → ℕ
insn_count_before program slot =
    length (flat_map (λ before. insn_listed (insn_at program before)) (range_with_len 0 slot))

-- the row of a slot where an instruction begins
abbrev pub slot_row : Extent → Table → Detail → Option ℕ → ℕ → Option Insn → List ℕ
slot_row shape table detail line slot None = []
slot_row shape table detail line slot (Some insn) = row_text line slot insn (facts_at detail shape insn (table slot))

-- the lines are those of the instructions, in their order
abbrev pub row_at : List Insn → Extent → Table → Detail → List ℕ → ℕ → List ℕ
row_at program shape table detail lines slot =
    slot_row shape table detail (slice_get lines (insn_count_before program slot)) slot (insn_at program slot)

-- the rows of the slots before an end
unfoldable pub rows_before : List Insn → Extent → Table → Detail → List ℕ → ℕ → List ℕ
rows_before program shape table detail lines end =
    flat_map (row_at program shape table detail lines) (range_with_len 0 end)

-- up to the refused slot, with it, or to the last
abbrev pub rows_end : List Insn → Verdict → ℕ
rows_end program (Accepted announced) = slots_of program
rows_end program (Refused slot rule) = slot + 1

abbrev pub rows_text : List Insn → Extent → Findings → Detail → List ℕ → List ℕ
rows_text program shape findings detail lines =
    rows_before program shape (table_in findings) detail lines (rows_end program findings.verdict)
