-- What `exec` leaves on its output.
use Rattle.std.specs.Prelude.{◌≡◌, ◌⊎◌, ℕ, Bool, true, false, List, ◌++◌, codes, take, Option, Result, Ok, Err}
use Rattle.std.specs.Io.KnownBytes.{Appends}
use Rattle.bpf_insn.specs.declared.forms.Insn.{Insn}
use Rattle.bpf_machine.specs.declared.word.Outcome.{Outcome}
use Rattle.bpf_machine.specs.Run.{RunAnswers}
use Rattle.run_trace.specs.Lines.{trace_text}
use Rattle.run_trace.specs.Steps.{TracedStep, steps_of}
use Rattle.stream_io.specs.Parts.{Breaks}
use Rattle.requests.specs.declared.request.ExecOptions.{ExecOptions}
use Rattle.command_answers.specs.declared.answer.Answer.{Answer}
use Rattle.command_answers.specs.declared.ending.Ending.{Ending}
use Rattle.command_answers.specs.declared.ending.Ending.TheVariants.{Done, Refused}
use Rattle.command_answers.specs.declared.fault.Fault.{Fault}
use Rattle.command_answers.specs.declared.fault.Fault.TheVariants as faults
use Rattle.command_answers.specs.declared.rejection.Unread.{Unread}
use Rattle.command_answers.specs.Answer.{AnswersLeaving, answered_ending, answered_text, told_text}
use Rattle.requests.specs.Case.{case_memory, case_setting}
use Rattle.command_answers.specs.Left.{Left}
use Rattle.requests.specs.Shapes.{HasShape, asked_extent}
use Rattle.command_answers.specs.Input.{IsProgramOfInput, IsUnread}
use Rattle.command_answers.specs.Faults.{IsFaultOfProgram}
use Rattle.command_answers.specs.Output.{Leaves, LeavesAny, LeavesNothing}
use Rattle.command_answers.specs.Rejections.{unread_line}

-- the line of the answer to these bytes, and what the run left, where that is asked for
abbrev pub LeavesAnswer : Option (List ℕ) → Option (List ℕ) → ExecOptions → List ℕ → Result Ending Fault → Type 0
LeavesAnswer old new asked bytes result =
    LeavesAny {A = Result Answer Unread × Left} (λ a. AnswersLeaving asked bytes a.0 a.1)
    (λ a. answered_text asked a.0 a.1) (λ a. answered_ending a.0) (IsFaultOfProgram asked.text bytes) old new result

-- ---- a trace (docs/COMMANDS.md, "A trace")

-- the steps of a program's run in the case that is asked for
abbrev pub case_steps : ExecOptions → List Insn → List TracedStep
case_steps asked program =
    steps_of program (case_setting (asked_extent asked.shape) asked.case)
    (case_memory (asked_extent asked.shape) asked.case) asked.fuel

-- their lines
abbrev pub case_trace : ExecOptions → List Insn → List ℕ
case_trace asked program = trace_text program (case_steps asked program)

-- the run of a program in the case that is asked for comes to this and leaves this
pub record RunsProgram (asked : ExecOptions) (program : List Insn) (outcome : Outcome) (left : Left) : Type 0 where
  pub run :
      RunAnswers program (case_setting (asked_extent asked.shape) asked.case)
      (case_memory (asked_extent asked.shape) asked.case) asked.fuel left.memory left.outbox.sent outcome
  pub nodes : left.outbox.nodes ≡ asked.shape.nodes

-- the lines of the steps, and behind them what is told of the outcome
abbrev pub traced_text : ExecOptions → List Insn → Outcome → Left → List ℕ
traced_text asked program outcome left =
    case_trace asked program ++ told_text asked (record { outcome = outcome; fuel = asked.fuel }) left

-- a whole traced text of a program
pub record Traces (asked : ExecOptions) (program : List Insn) (text : List ℕ) : Type 0 where
  pub outcome : Outcome
  pub left : Left
  pub runs : RunsProgram asked program outcome left
  pub whole : text ≡ traced_text asked program outcome left

-- the whole text of a program's traced run; its first bytes where a write failed, of which some are of the lines of the
-- steps alone; whole lines of the first steps where memory ran out
abbrev pub LeavesSteps : Option (List ℕ) → Option (List ℕ) → ExecOptions → List Insn → Result Ending Fault → Type 0
LeavesSteps old new asked program (Ok ending) =
    (text : List ℕ) × Traces asked program text × (ending ≡ Done) × Appends old new text
LeavesSteps old new asked program (Err (faults.Write after)) =
    Breaks old new (case_trace asked program) after
    ⊎ ((text : List ℕ) × Traces asked program text × Breaks old new text after)
LeavesSteps old new asked program (Err faults.Memory) =
    (count : ℕ) × Appends old new (trace_text program (take count (case_steps asked program)))
LeavesSteps old new asked program (Err faults.Read) = ⊥
LeavesSteps old new asked program (Err faults.Thread) = ⊥
LeavesSteps old new asked program (Err (faults.CommandLine said)) = ⊥

-- the options have a shape, and the bytes are this program's
pub record ReadsProgram (asked : ExecOptions) (bytes : List ℕ) (program : List Insn) : Type 0 where
  pub shape : HasShape asked.shape
  pub read : IsProgramOfInput asked.text bytes program

-- the traced run of the program of these bytes, or the line that refuses them, or nothing where they couldn't be read
abbrev pub LeavesTraced : Option (List ℕ) → Option (List ℕ) → ExecOptions → List ℕ → Result Ending Fault → Type 0
LeavesTraced old new asked bytes result =
    ((program : List Insn) × ReadsProgram asked bytes program × LeavesSteps old new asked program result)
    ⊎ (((unread : Unread) × IsUnread asked.shape asked.text bytes unread
    × Leaves old new (unread_line unread ++ codes "\n") Refused result)
    ⊎ LeavesNothing (IsFaultOfProgram asked.text bytes) old new result)

-- with or without the lines of the steps
abbrev pub LeavesBy : Bool → Option (List ℕ) → Option (List ℕ) → ExecOptions → List ℕ → Result Ending Fault → Type 0
LeavesBy true old new asked bytes result = LeavesTraced old new asked bytes result
LeavesBy false old new asked bytes result = LeavesAnswer old new asked bytes result

-- as the options ask for it
abbrev pub LeavesExec : Option (List ℕ) → Option (List ℕ) → ExecOptions → List ℕ → Result Ending Fault → Type 0
LeavesExec old new asked bytes result = LeavesBy asked.trace old new asked bytes result
