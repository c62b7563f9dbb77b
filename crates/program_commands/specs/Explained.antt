-- What `verify` tells with `--text` and `--explain` (docs/COMMANDS.md, "What verify prints").
use Rattle.std.specs.Prelude.{◌≡◌, ℕ, List, [], ◌++◌, codes, Bool, true, false, Option, Some, None, Result, ◌⊎◌}
use Rattle.node_env.specs.Env.{Extent}
use Rattle.bpf_insn.specs.declared.forms.Insn.{Insn}
use Rattle.bpf_insn.specs.Programs.{slots_of}
use Rattle.bpf_asm.specs.Listing.{instruction_lines}
use Rattle.bpf_verify.specs.declared.findings.Findings.{Findings}
use Rattle.bpf_verify.specs.declared.findings.Verdict.{Verdict as Found}
use Rattle.bpf_verify.specs.declared.findings.Verdict.TheVariants as found
use Rattle.bpf_verify.specs.Findings.{AreFindings}
use Rattle.parameters.specs.declared.detail.Detail.{Detail}
use Rattle.bpf_explain.specs.Rows.{rows_text}
use Rattle.bpf_explain.specs.Reasons.{reason_in}
use Rattle.requests.specs.declared.request.ExplainOptions.{ExplainOptions}
use Rattle.program_commands.specs.declared.verdict.Verdict.{Verdict}
use Rattle.program_commands.specs.declared.verdict.Verdict.TheVariants.{Accepted, Refused}
use Rattle.command_answers.specs.declared.rejection.Unread.{Unread}
use Rattle.command_answers.specs.declared.ending.Ending.{Ending}
use Rattle.command_answers.specs.declared.ending.Ending.TheVariants as endings
use Rattle.command_answers.specs.declared.fault.Fault.{Fault}
use Rattle.requests.specs.Shapes.{HasShape, asked_extent}
use Rattle.command_answers.specs.Faults.{IsFaultOfProgram}
use Rattle.command_answers.specs.Input.{IsProgramOfInput, IsUnread}
use Rattle.command_answers.specs.Output.{LeavesAny}
use Rattle.command_answers.specs.Rejections.{unread_line}
use Rattle.program_commands.specs.Verdict.{verdict_ending, verdict_line}

-- a text, and how the command ends that wrote it
pub record Explanation : Type 0 where
  pub text : List ℕ
  pub ending : Ending

abbrev pub explanation : List ℕ → Ending → Explanation
explanation text ending = record { text = text; ending = ending }

-- ---- what is told of a program

-- the verdict as `verify` says it
abbrev pub verdict_in : List Insn → Found → Verdict
verdict_in program (found.Accepted announced) = Accepted (slots_of program) announced
verdict_in program (found.Refused slot rule) = Refused slot rule

-- these are the lines of its instructions, where it was read from a text
abbrev pub rows_told : List Insn → Extent → Findings → List ℕ → Option Detail → List ℕ
rows_told program shape findings lines None = []
rows_told program shape findings lines (Some detail) = rows_text program shape findings detail lines

abbrev pub reason_told : List Insn → Extent → Findings → Option Detail → List ℕ
reason_told program shape findings None = []
reason_told program shape findings (Some detail) = reason_in program shape findings findings.verdict

-- the rows where they are asked for, the line of the verdict, and the reason of a refusal
abbrev pub explained_text : List Insn → Extent → Findings → List ℕ → Option Detail → List ℕ
explained_text program shape findings lines detail = rows_told program shape findings lines detail
    ++ (verdict_line (verdict_in program findings.verdict) ++ (codes "\n" ++ reason_told program shape findings detail))

abbrev pub ExplainsProgram : ExplainOptions → List ℕ → List Insn → Explanation → Type 0
ExplainsProgram asked lines program told =
    (findings : Findings) × AreFindings program (asked_extent asked.shape) findings
    × (told ≡ explanation (explained_text program (asked_extent asked.shape) findings lines asked.detail)
    (verdict_ending (verdict_in program findings.verdict)))

-- ---- what is told of bytes

-- the lines of the instructions of a text; an image has none
abbrev pub lines_if_text : Bool → List ℕ → List ℕ
lines_if_text true bytes = instruction_lines bytes
lines_if_text false bytes = []

abbrev pub IsRefusedBy : List ℕ → Explanation → Type 0
IsRefusedBy line told = told ≡ explanation (line ++ codes "\n") endings.Refused

-- why they have no program, or what is told of their program
abbrev pub Explains : ExplainOptions → List ℕ → Explanation → Type 0
Explains asked bytes told =
    ((unread : Unread) × IsUnread asked.shape asked.text bytes unread × IsRefusedBy (unread_line unread) told)
    ⊎ (HasShape asked.shape × (program : List Insn) × IsProgramOfInput asked.text bytes program
    × ExplainsProgram asked (lines_if_text asked.text bytes) program told)

-- the whole of what is told, its first bytes if a write failed, or nothing at another fault
abbrev pub LeavesExplained : Option (List ℕ) → Option (List ℕ) → ExplainOptions → List ℕ → Result Ending Fault → Type 0
LeavesExplained old new asked bytes result =
    LeavesAny (Explains asked bytes) (λ told. told.text) (λ told. told.ending) (IsFaultOfProgram asked.text bytes) old new
    result
