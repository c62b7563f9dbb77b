-- What `exec` answers and leaves, from the run in the case that is asked for.
use Rattle.std.proofs.Common.{◌≡◌, ◌≤◌, ◌∙◌, ◌++◌, arith, codes, length, ℕ, Bool, true, false, List, take, Option, Result, Ok, Err, refl, subst, inl, inr}
use Rattle.std.proofs.lemmas.List.{take-append-le, take_all}
use Rattle.std.specs.Io.KnownBytes.{Keeps}
use Rattle.std.specs.Ordering.{nat_cmp}
use Rattle.std.specs.FinMap.{FinMap}
use Rattle.node_env.specs.Env.{Extent, Setting}
use Rattle.bpf_insn.specs.declared.forms.Insn.{Insn}
use Rattle.bpf_machine.specs.declared.word.Outcome.{Outcome}
use Rattle.bpf_machine.specs.Run.{RunAnswers}
use Rattle.command_answers.specs.declared.answer.Answer.{Answer}
use Rattle.command_answers.specs.declared.ending.Ending.{Ending}
use Rattle.command_answers.specs.declared.ending.Ending.TheVariants.{Refused}
use Rattle.program_commands.specs.declared.exec.Reply.{Reply}
use Rattle.command_answers.specs.declared.fault.Fault.{Fault}
use Rattle.command_answers.specs.declared.fault.Fault.TheVariants as faults
use Rattle.program_commands.specs.declared.program.ProgramRead.{ProgramRead}
use Rattle.command_answers.specs.declared.rejection.Unread.{Unread}
use Rattle.requests.specs.declared.request.ExecOptions.{ExecOptions}
use Rattle.command_answers.specs.Answer.{AnswersLeaving, answered_ending, answered_text}
use Rattle.requests.specs.Case.{case_memory, case_setting}
use Rattle.command_answers.specs.Left.{Left}
use Rattle.program_commands.specs.Exec.{LeavesAnswer, LeavesBy}
use Rattle.requests.specs.Shapes.{HasShape, asked_extent}
use Rattle.command_answers.specs.Faults.{IsFaultOfProgram}
use Rattle.command_answers.specs.Input.{IsProgramOfInput, IsUnread}
use Rattle.command_answers.specs.Output.{Leaves}
use Rattle.command_answers.specs.Rejections.{unread_line}
use Rattle.program_commands.specs.inner.Exec.{LeavesRunOf, RunsCase, answer_in}
use Rattle.command_answers.specs.inner.Left.{left_in}
use Rattle.program_commands.specs.inner.Input.{ReadsInput}
use Rattle.program_commands.proofs.LeavesLemmas.{leaves_any, memory_of_program, no_write_of_program}

-- a run in a setting and from a memory that are the case's
pub case_run : (asked : ExecOptions) (program : List Insn) (shape : Extent) (env : Setting) (memory left : List ℕ)
    (sent : FinMap nat_cmp ℕ) (outcome : Outcome)
    → shape ≡ asked_extent asked.shape → RunAnswers program env memory asked.fuel left sent outcome
    → env ≡ case_setting shape asked.case → memory ≡ case_memory shape asked.case
    → RunAnswers program (case_setting (asked_extent asked.shape) asked.case)
    (case_memory (asked_extent asked.shape) asked.case) asked.fuel left sent outcome
case_run asked program shape env memory left sent outcome at run there begins =
    subst (λ (s : Extent). RunAnswers program (case_setting s asked.case)
    (case_memory s asked.case) asked.fuel left sent
    outcome) at
    (subst (λ (l : List ℕ). RunAnswers program (case_setting shape asked.case) l asked.fuel left sent outcome) begins
    (subst (λ (e : Setting). RunAnswers program e memory asked.fuel left sent outcome) there run))

answers_run : (asked : ExecOptions) (bytes : List ℕ) (program : List Insn) (reply : Reply) → HasShape asked.shape
    → IsProgramOfInput asked.text bytes program → RunsCase asked program reply
    → AnswersLeaving asked bytes (Ok (answer_in asked.fuel reply)) (left_in reply.left)
answers_run asked bytes program reply has read run =
    (has, record { program = program; read = read; run = run.0; nodes = run.1 }, refl)

-- ---- the run of a program that was read, or why there is none, is the answer to what was read

left_run : (asked : ExecOptions) (bytes : List ℕ) (read : ProgramRead) (old new : Option (List ℕ))
    (ended : Result Ending Fault) → ReadsInput asked.shape asked.text bytes (Ok read)
    → LeavesRunOf false old new asked read.program ended → LeavesAnswer old new asked bytes ended
left_run asked bytes read old new (Ok ending) reads left = (
  (Ok (answer_in asked.fuel left.0), left_in left.0.left),
  answers_run asked bytes read.program left.0 reads.0 reads.2 left.1,
  left.2,
  left.3,
)
left_run asked bytes read old new (Err (faults.Write after)) reads left = (
  (Ok (answer_in asked.fuel left.0), left_in left.0.left),
  answers_run asked bytes read.program left.0 reads.0 reads.2 left.1,
  left.2,
  left.3,
)
left_run asked bytes read old new (Err faults.Read) reads left = absurd left.0
left_run asked bytes read old new (Err faults.Memory) reads left = (memory_of_program asked.text bytes, left.1)
left_run asked bytes read old new (Err faults.Thread) reads left = absurd left.0
left_run asked bytes read old new (Err (faults.CommandLine said)) reads left = absurd left.0

pub by_run : (trace : Bool) (asked : ExecOptions) (bytes : List ℕ) (read : ProgramRead) (old new : Option (List ℕ))
    (ended : Result Ending Fault) → ReadsInput asked.shape asked.text bytes (Ok read)
    → LeavesRunOf trace old new asked read.program ended → LeavesBy trace old new asked bytes ended
by_run true asked bytes read old new ended reads left =
    inl (read.program, record { shape = reads.0; read = reads.2 }, left)
by_run false asked bytes read old new ended reads left = left_run asked bytes read old new ended reads left

pub by_refusal : (trace : Bool) (asked : ExecOptions) (bytes : List ℕ) (why : Unread) (left : Left)
    (old new : Option (List ℕ)) (ended : Result Ending Fault) → IsUnread asked.shape asked.text bytes why
    → Leaves old new (unread_line why ++ codes "\n") Refused ended → LeavesBy trace old new asked bytes ended
by_refusal true asked bytes why left old new ended is told = inr (inl (why, is, told))
by_refusal false asked bytes why left old new ended is told =
    leaves_any {A = Result Answer Unread × Left} (λ a. AnswersLeaving asked bytes a.0 a.1)
    (λ a. answered_text asked a.0 a.1) (λ a. answered_ending a.0) (IsFaultOfProgram asked.text bytes) (Err why, left)
    old new ended is (memory_of_program asked.text bytes) told

-- nothing is left of an input that couldn't be read
left_fault : (asked : ExecOptions) (bytes : List ℕ) (fault : Fault) (old new : Option (List ℕ))
    → IsFaultOfProgram asked.text bytes fault → Keeps old new → LeavesAnswer old new asked bytes (Err fault)
left_fault asked bytes (faults.Write after) old new is keeps =
    absurd (no_write_of_program asked.text bytes after is)
left_fault asked bytes faults.Read old new is keeps = (is, keeps)
left_fault asked bytes faults.Memory old new is keeps = (is, keeps)
left_fault asked bytes faults.Thread old new is keeps = (is, keeps)
left_fault asked bytes (faults.CommandLine said) old new is keeps = (is, keeps)

pub by_fault : (trace : Bool) (asked : ExecOptions) (bytes : List ℕ) (fault : Fault) (old new : Option (List ℕ))
    → IsFaultOfProgram asked.text bytes fault → Keeps old new → LeavesBy trace old new asked bytes (Err fault)
by_fault true asked bytes fault old new is keeps = inr (inr (is, keeps))
by_fault false asked bytes fault old new is keeps = left_fault asked bytes fault old new is keeps

-- a slice of a whole vector, after it was written
pub whole_after : (n : ℕ) (new rest : List ℕ) → n ≡ length new → take n (new ++ rest) ≡ new
whole_after n new rest e =
    let le : n ≤ length new = omega arith in
    take-append-le n new rest le ∙ take_all n new (omega arith)
