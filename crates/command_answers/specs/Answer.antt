-- What `exec` answers to the bytes that it read, and the line that says it.
use Rattle.std.specs.Prelude.{◌≡◌, ℕ, List, [], ◌++◌, codes, Result, Ok, Err, if◌then◌else◌}
use Rattle.std.specs.Fmt.{decimal}
use Rattle.bpf_insn.specs.declared.forms.Insn.{Insn}
use Rattle.bpf_machine.specs.declared.word.Outcome.{Outcome}
use Rattle.bpf_machine.specs.declared.word.Outcome.TheVariants as outcomes
use Rattle.bpf_machine.specs.Run.{RunAnswers}
use Rattle.bpf_machine.specs.Traps.{trap_name, trap_number}
use Rattle.requests.specs.declared.request.ExecOptions.{ExecOptions}
use Rattle.command_answers.specs.declared.answer.Answer.{Answer}
use Rattle.command_answers.specs.declared.ending.Ending.{Ending}
use Rattle.command_answers.specs.declared.ending.Ending.TheVariants.{Done, Refused}
use Rattle.command_answers.specs.declared.rejection.Unread.{Unread}
use Rattle.command_answers.specs.declared.rejection.Unread.TheVariants.{Text}
use Rattle.requests.specs.Case.{case_memory, case_setting}
use Rattle.command_answers.specs.Left.{Left, left_lines}
use Rattle.requests.specs.Shapes.{HasShape, asked_extent}
use Rattle.command_answers.specs.Input.{IsProgramOfInput, IsUnread}
use Rattle.command_answers.specs.Rejections.{unread_line}

-- the bytes have a program, and its run in the case that is asked for comes to this and leaves this
pub record RunsRead (asked : ExecOptions) (bytes : List ℕ) (outcome : Outcome) (left : Left) : Type 0 where
  pub program : List Insn
  pub read : IsProgramOfInput asked.text bytes program
  pub run :
      RunAnswers program (case_setting (asked_extent asked.shape) asked.case)
      (case_memory (asked_extent asked.shape) asked.case) asked.fuel left.memory left.outbox.sent outcome
  pub nodes : left.outbox.nodes ≡ asked.shape.nodes

-- the answer to these bytes under these options, and what the run leaves; or why there is none, which is never lack of
-- memory
abbrev pub AnswersLeaving : ExecOptions → List ℕ → Result Answer Unread → Left → Type 0
AnswersLeaving asked bytes (Ok answer) left =
    HasShape asked.shape × RunsRead asked bytes answer.outcome left × (answer.fuel ≡ asked.fuel)
AnswersLeaving asked bytes (Err unread) left = IsUnread asked.shape asked.text bytes unread

abbrev pub Answers : ExecOptions → List ℕ → Result Answer Unread → Type 0
Answers asked bytes answered = (left : Left) × AnswersLeaving asked bytes answered left

-- both are one reason, but for the error of a text that means no program
abbrev pub SameUnread : Unread → Unread → Type 0
SameUnread (Text error) (Text other) = Unit {0}
SameUnread unread other = unread ≡ other

-- both are one answer, or one reason
abbrev pub SameAnswer : Result Answer Unread → Result Answer Unread → Type 0
SameAnswer (Ok answer) (Ok other) = answer ≡ other
SameAnswer (Ok answer) (Err other) = ⊥
SameAnswer (Err unread) (Ok other) = ⊥
SameAnswer (Err unread) (Err other) = SameUnread unread other

-- ---- the line of an answer, without its end (docs/COMMANDS.md, "What exec prints")

abbrev pub outcome_line : Outcome → ℕ → List ℕ
outcome_line (outcomes.Ended r0 steps) fuel = codes "r0 " ++ (decimal r0 ++ (codes " steps " ++ decimal steps))
outcome_line (outcomes.Trap slot kind) fuel =
    codes "trap " ++ (decimal (trap_number kind) ++ (codes " " ++ (trap_name kind ++ (codes " slot " ++ decimal slot))))
outcome_line outcomes.OutOfFuel fuel = codes "out of fuel " ++ decimal fuel

abbrev pub answer_line : Answer → List ℕ
answer_line answer = outcome_line answer.outcome answer.fuel

-- what the run left, where that is to be shown
abbrev pub shown_lines : ExecOptions → Left → List ℕ
shown_lines asked left = if asked.show then left_lines left else []

-- the line with its end, and what is shown behind it
abbrev pub told_text : ExecOptions → Answer → Left → List ℕ
told_text asked answer left = (answer_line answer ++ codes "\n") ++ shown_lines asked left

-- the same, or the line of the refusal
abbrev pub answered_text : ExecOptions → Result Answer Unread → Left → List ℕ
answered_text asked (Ok answer) left = told_text asked answer left
answered_text asked (Err unread) left = unread_line unread ++ codes "\n"

-- how the command ends that wrote it. A trap and the end of fuel are results
abbrev pub answered_ending : Result Answer Unread → Ending
answered_ending (Ok answer) = Done
answered_ending (Err unread) = Refused
