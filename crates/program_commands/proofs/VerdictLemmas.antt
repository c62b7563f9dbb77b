-- What is said of a program is said of its image; and bytes have one verdict, but for the rule that a refusal names.
use Rattle.std.proofs.Common.{◌≡◌, ℕ, List, Result, Ok, Err, ◌∙◌, false, refl, sym, subst, true≢false}
use Rattle.std.specs.Prelude.{IfOk}
use Rattle.node_env.specs.Env.{Extent}
use Rattle.bpf_insn.specs.declared.forms.Insn.{Insn}
use Rattle.bpf_insn.specs.Programs.{IsProgram, image_of}
use Rattle.bpf_insn.specs.Images.{RefusesImage}
use Rattle.bpf_verify.specs.Accepted.{IsFirstBroken}
use Rattle.bpf_verify.specs.Paths.{IsLongestPath}
use Rattle.bpf_verify.specs.Typable.{Table, Types, Typable}
use Rattle.bpf_verify.specs.declared.findings.Findings.{Findings}
use Rattle.bpf_verify.specs.declared.findings.Verdict.{Verdict as Found}
use Rattle.bpf_verify.specs.declared.findings.Verdict.TheVariants as found
use Rattle.bpf_verify.specs.Findings.{AreFindings, IsVerdict, end_of, table_in}
use Rattle.requests.specs.declared.request.ShapeOptions.{ShapeOptions}
use Rattle.program_commands.specs.declared.verdict.Verdict.{Verdict}
use Rattle.program_commands.specs.declared.verdict.Verdict.TheVariants.{Accepted, Refused}
use Rattle.program_commands.specs.declared.program.ProgramRead.{ProgramRead}
use Rattle.command_answers.specs.declared.fault.Fault.{Fault}
use Rattle.command_answers.specs.declared.rejection.Unread.{Unread}
use Rattle.command_answers.specs.declared.rejection.Unread.TheVariants.{Shape, Image, Text}
use Rattle.command_answers.specs.declared.response.Response.{Response}
use Rattle.requests.specs.Shapes.{HasShape, asked_extent}
use Rattle.command_answers.specs.Input.{IsUnread}
use Rattle.program_commands.specs.Explained.{verdict_in}
use Rattle.program_commands.specs.Verdict.{Judges, JudgesImage, JudgesProgram, SameJudgement, SameVerdict, judged_ending, judged_text, text_of_verdict, verdict_ending}
use Rattle.program_commands.specs.inner.Input.{ReadsInput}
use Rattle.command_answers.specs.inner.Responses.{IsResponse}
use Rattle.program_commands.proofs.AnswerLemmas.{OneProgram, OneRefusal, Apart, one_unread, one_unread_of_image}

judged_image : (bytes : List ℕ) (program : List Insn) (shape asked : Extent) (verdict : Verdict) → shape ≡ asked
    → IsProgram program → bytes ≡ image_of program
    → JudgesProgram program shape verdict → JudgesImage asked bytes verdict
judged_image bytes program shape asked verdict at whole image judged =
    record {
      program = program;
      whole = whole;
      image = image;
      judged = subst (λ (s : Extent). JudgesProgram program s verdict) at judged;
    }

-- the verdict on the program of the bytes that were read is that on the bytes
pub judges : (options : ShapeOptions) (bytes : List ℕ) (read : ProgramRead) (verdict : Verdict)
    → ReadsInput options false bytes (Ok read) → JudgesProgram read.program read.shape verdict
    → Judges options bytes (Ok verdict)
judges options bytes read verdict reads judged =
    (reads.0, judged_image bytes read.program read.shape _ verdict reads.1 reads.2.0 reads.2.1 judged)

-- the line of that verdict is the answer to the bytes
pub judged_response : (options : ShapeOptions) (bytes : List ℕ) (read : ProgramRead) (given : Result Response Fault)
    → ReadsInput options false bytes (Ok read)
    → IfOk given (IsResponse {A = Verdict} (JudgesProgram read.program read.shape) text_of_verdict verdict_ending)
    → IfOk given (IsResponse {A = Result Verdict Unread} (Judges options bytes) judged_text judged_ending)
judged_response options bytes read (Ok response) reads is =
    (Ok is.0, judges options bytes read is.0 reads is.1, is.2, is.3)
judged_response options bytes read (Err fault) reads is = tt

judged_by : (program : List Insn) (shape : Extent) (table : Table) (verdict : Found)
    → IsVerdict program shape table verdict → Types program shape (end_of program verdict) table
    → JudgesProgram program shape (verdict_in program verdict)
judged_by program shape table (found.Accepted announced) is types = (is.0, refl, is.1)
judged_by program shape table (found.Refused slot rule) is types = (table, types, is)

-- the verdict of findings is one on their program
pub judged_by_findings : (program : List Insn) (shape : Extent) (findings : Findings)
    → AreFindings program shape findings → JudgesProgram program shape (verdict_in program findings.verdict)
judged_by_findings program shape findings are = judged_by program shape (table_in findings) findings.verdict
    are.verdict are.types

-- ---- one verdict

-- what the laws of the crates below say
pub record LawsBelow : Type 0 where
  pub one_program : OneProgram
  pub one_refusal : OneRefusal
  pub apart : Apart
  pub untypable : (program : List Insn) (shape : Extent) (slot : ℕ) → IsFirstBroken program shape slot
      → Typable program shape → ⊥
  pub one_slot : (program : List Insn) (shape : Extent) (slot place : ℕ) → IsFirstBroken program shape slot
      → IsFirstBroken program shape place → slot ≡ place
  pub one_longest : (program : List Insn) (count other : ℕ) → IsLongestPath program count → IsLongestPath program other
      → count ≡ other

-- if options and bytes have no program, nothing is said of one
unread_or_judged : Apart → (options : ShapeOptions) (bytes : List ℕ) (unread : Unread) (verdict : Verdict)
    → IsUnread options false bytes unread → HasShape options → JudgesImage (asked_extent options) bytes verdict → ⊥
unread_or_judged apart options bytes Shape verdict unread has judged = unread has
unread_or_judged apart options bytes (Image e) verdict unread has judged =
    unread.2.1 (apart judged.program e judged.whole
    (subst (λ (l : List ℕ). RefusesImage l e) judged.image unread.2.0))
unread_or_judged apart options bytes (Text e) verdict unread has judged = true≢false (sym unread.1)

-- what is said of the programs of one image is said of one program
of_one_program : OneProgram → (shape : Extent) (bytes : List ℕ) (a b : Verdict) (P : Type 0)
    → JudgesImage shape bytes a → JudgesImage shape bytes b
    → ((program : List Insn) → JudgesProgram program shape a → JudgesProgram program shape b → P) → P
of_one_program one_program shape bytes a b P first second then_p =
    let same : second.program ≡ first.program = one_program second.program first.program second.whole first.whole
    (sym second.image ∙ first.image) in
    then_p first.program first.judged (subst (λ (p : List Insn). JudgesProgram p shape b) same second.judged)

same_verdict : LawsBelow → (shape : Extent) (bytes : List ℕ) (a b : Verdict) → JudgesImage shape bytes a
    → JudgesImage shape bytes b → SameVerdict a b
same_verdict laws shape bytes (Accepted s x) (Accepted t y) first second =
    of_one_program laws.one_program _ bytes (Accepted s x) (Accepted t y) _ first second
    (λ program one other. (one.1 ∙ sym other.1, laws.one_longest program x y one.2 other.2))
same_verdict laws shape bytes (Accepted s x) (Refused t q) first second =
    of_one_program laws.one_program _ bytes (Accepted s x) (Refused t q) _ first second
    (λ program one other. laws.untypable program _ t other.2.first one.0)
same_verdict laws shape bytes (Refused s r) (Accepted t y) first second =
    of_one_program laws.one_program _ bytes (Refused s r) (Accepted t y) _ first second
    (λ program one other. laws.untypable program _ s one.2.first other.0)
same_verdict laws shape bytes (Refused s r) (Refused t q) first second =
    of_one_program laws.one_program _ bytes (Refused s r) (Refused t q) _ first second
    (λ program one other. laws.one_slot program _ s t one.2.first other.2.first)

pub one_verdict : LawsBelow → (options : ShapeOptions) (bytes : List ℕ) (a b : Result Verdict Unread)
    → Judges options bytes a → Judges options bytes b → SameJudgement a b
one_verdict laws options bytes (Err r) (Err q) first second =
    one_unread_of_image options false bytes r q refl first
    (one_unread laws.one_refusal options false bytes r q first second)
one_verdict laws options bytes (Err r) (Ok b) first second =
    unread_or_judged laws.apart options bytes r b first second.0 second.1
one_verdict laws options bytes (Ok a) (Err r) first second =
    unread_or_judged laws.apart options bytes r a second first.0 first.1
one_verdict laws options bytes (Ok a) (Ok b) first second = same_verdict laws _ bytes a b first.1 second.1
