-- What `verify` answers to the bytes that it read, the line that says it, and what it leaves on its output
-- (docs/COMMANDS.md, "What verify prints").
use Rattle.std.specs.Prelude.{◌≡◌, ℕ, List, ◌++◌, codes, false, Option, Result, Ok, Err}
use Rattle.std.specs.Fmt.{decimal}
use Rattle.node_env.specs.Env.{Extent}
use Rattle.bpf_insn.specs.declared.forms.Insn.{Insn}
use Rattle.bpf_insn.specs.Programs.{IsProgram, image_of, slots_of}
use Rattle.bpf_verify.specs.declared.rule.Rule.{Rule}
use Rattle.bpf_verify.specs.Paths.{IsLongestPath}
use Rattle.bpf_verify.specs.Refusals.{IsRefusedAt}
use Rattle.bpf_verify.specs.Rules.{rule_number}
use Rattle.bpf_verify.specs.Typable.{Table, Types, Typable}
use Rattle.requests.specs.declared.request.ShapeOptions.{ShapeOptions}
use Rattle.program_commands.specs.declared.verdict.Verdict.{Verdict}
use Rattle.program_commands.specs.declared.verdict.Verdict.TheVariants.{Accepted, Refused}
use Rattle.command_answers.specs.declared.ending.Ending.{Ending}
use Rattle.command_answers.specs.declared.ending.Ending.TheVariants as endings
use Rattle.command_answers.specs.declared.fault.Fault.{Fault}
use Rattle.command_answers.specs.declared.rejection.Unread.{Unread}
use Rattle.requests.specs.Shapes.{HasShape, asked_extent}
use Rattle.command_answers.specs.Faults.{IsOutOfMemory}
use Rattle.command_answers.specs.Input.{IsUnread}
use Rattle.command_answers.specs.Output.{LeavesAny}
use Rattle.command_answers.specs.Rejections.{unread_line}

-- A table types the slots before this one, which is the first that can't be typed. The rule is the lowest that the
-- instruction there breaks, with what the table has of each edge to it.
abbrev pub IsRefusedFor : List Insn → Extent → ℕ → Rule → Type 0
IsRefusedFor program shape slot rule =
    (table : Table) × Types program shape slot table × IsRefusedAt program shape table slot rule

-- the program keeps the rules, and these are its slots and the instructions on its longest path; or this slot is the
-- first that breaks one
-- (docs/VERIFIER.md, "What is accepted", "The longest path")
abbrev pub JudgesProgram : List Insn → Extent → Verdict → Type 0
JudgesProgram program shape (Accepted slots announced) = Typable program shape × (slots ≡ slots_of program)
    × IsLongestPath program announced
JudgesProgram program shape (Refused slot rule) = IsRefusedFor program shape slot rule

-- the bytes are the image of a program (RFC 9669, section 3) of which this is said
pub record JudgesImage (shape : Extent) (bytes : List ℕ) (verdict : Verdict) : Type 0 where
  pub program : List Insn
  pub whole : IsProgram program
  pub image : bytes ≡ image_of program
  pub judged : JudgesProgram program shape verdict

-- the verdict on these bytes under these options; or why there is no program, which is never lack of memory
abbrev pub Judges : ShapeOptions → List ℕ → Result Verdict Unread → Type 0
Judges asked bytes (Ok verdict) = HasShape asked × JudgesImage (asked_extent asked) bytes verdict
Judges asked bytes (Err unread) = IsUnread asked false bytes unread

-- the two say the same, but for the rule that a refusal names
abbrev pub SameVerdict : Verdict → Verdict → Type 0
SameVerdict (Accepted slots announced) (Accepted others count) = (slots ≡ others) × (announced ≡ count)
SameVerdict (Refused slot rule) (Refused place other) = slot ≡ place
SameVerdict verdict other = ⊥

-- both are one verdict, or one reason
abbrev pub SameJudgement : Result Verdict Unread → Result Verdict Unread → Type 0
SameJudgement (Ok verdict) (Ok other) = SameVerdict verdict other
SameJudgement (Ok verdict) (Err other) = ⊥
SameJudgement (Err unread) (Ok other) = ⊥
SameJudgement (Err unread) (Err other) = unread ≡ other

-- ---- the line of a verdict, without its end

abbrev pub verdict_line : Verdict → List ℕ
verdict_line (Accepted slots announced) = codes "accepted slots "
    ++ (decimal slots ++ (codes " announced " ++ decimal announced))
verdict_line (Refused slot rule) = codes "refused rule "
    ++ (decimal (rule_number rule) ++ (codes " slot " ++ decimal slot))

-- the line with its end
abbrev pub text_of_verdict : Verdict → List ℕ
text_of_verdict verdict = verdict_line verdict ++ codes "\n"

-- how the command ends that wrote it
abbrev pub verdict_ending : Verdict → Ending
verdict_ending (Accepted slots announced) = endings.Done
verdict_ending (Refused slot rule) = endings.Refused

-- the line of the verdict on these bytes, or of the refusal
abbrev pub judged_text : Result Verdict Unread → List ℕ
judged_text (Ok verdict) = text_of_verdict verdict
judged_text (Err unread) = unread_line unread ++ codes "\n"

abbrev pub judged_ending : Result Verdict Unread → Ending
judged_ending (Ok verdict) = verdict_ending verdict
judged_ending (Err unread) = endings.Refused

-- ---- what is left on the output

abbrev pub LeavesVerdict : Option (List ℕ) → Option (List ℕ) → ShapeOptions → List ℕ → Result Ending Fault → Type 0
LeavesVerdict old new asked bytes result =
    LeavesAny (Judges asked bytes) judged_text judged_ending IsOutOfMemory old new result
