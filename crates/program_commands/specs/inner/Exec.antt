-- Beside Exec: what proofs and private contracts alone cite.
use Rattle.std.specs.Prelude.{◌≡◌, ℕ, Bool, true, false, List, Option, Result}
use Rattle.bpf_insn.specs.declared.forms.Insn.{Insn}
use Rattle.bpf_machine.specs.Run.{RunAnswers}
use Rattle.command_answers.specs.declared.answer.Answer.{Answer}
use Rattle.command_answers.specs.declared.ending.Ending.{Ending}
use Rattle.command_answers.specs.declared.ending.Ending.TheVariants.{Done}
use Rattle.program_commands.specs.declared.exec.Reply.{Reply}
use Rattle.command_answers.specs.declared.fault.Fault.{Fault}
use Rattle.requests.specs.declared.request.ExecOptions.{ExecOptions}
use Rattle.command_answers.specs.Answer.{told_text}
use Rattle.requests.specs.Case.{case_memory, case_setting}
use Rattle.command_answers.specs.inner.Left.{left_in}
use Rattle.program_commands.specs.Exec.{LeavesSteps}
use Rattle.requests.specs.Shapes.{asked_extent}
use Rattle.command_answers.specs.Faults.{IsOutOfMemory}
use Rattle.command_answers.specs.Output.{LeavesAny}

-- the answer of a reply with so much fuel
abbrev pub answer_in : ℕ → Reply → Answer
answer_in fuel reply = record { outcome = reply.outcome; fuel = fuel }

-- a reply that is the run of the program in the case that is asked for
abbrev pub RunsCase : ExecOptions → List Insn → Reply → Type 0
RunsCase asked program reply =
    RunAnswers program (case_setting (asked_extent asked.shape) asked.case)
    (case_memory (asked_extent asked.shape) asked.case) asked.fuel reply.left.memory.items reply.left.outbox.sent
    reply.outcome
    × (reply.left.outbox.nodes ≡ asked.shape.nodes)

-- what the run of a program in the case that is asked for leaves, with the lines of its steps or without
abbrev pub LeavesRunOf : Bool → Option (List ℕ) → Option (List ℕ) → ExecOptions → List Insn → Result Ending Fault
    → Type 0
LeavesRunOf true old new asked program ended = LeavesSteps old new asked program ended
LeavesRunOf false old new asked program ended =
    LeavesAny {A = Reply} (RunsCase asked program)
    (λ reply. told_text asked (answer_in asked.fuel reply) (left_in reply.left)) (λ reply. Done)
    IsOutOfMemory old new ended
