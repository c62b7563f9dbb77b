-- What `exec` leaves of an input, from what it leaves of the program or of the rejection.
use Rattle.std.specs.FinMap.{empty}
use Rattle.std.proofs.Common.{ℕ, List, [], ◌++◌, codes, Option, Result, Ok, Err}
use Rattle.std.specs.Io.KnownBytes.{Keeps}
use Rattle.command_answers.specs.declared.ending.Ending.{Ending}
use Rattle.command_answers.specs.declared.ending.Ending.TheVariants.{Refused}
use Rattle.command_answers.specs.declared.fault.Fault.{Fault}
use Rattle.program_commands.specs.declared.program.ProgramRead.{ProgramRead}
use Rattle.command_answers.specs.declared.rejection.Unread.{Unread}
use Rattle.requests.specs.declared.request.ExecOptions.{ExecOptions}
use Rattle.command_answers.specs.Left.{Left}
use Rattle.program_commands.specs.Exec.{LeavesExec}
use Rattle.command_answers.specs.Faults.{IsFaultOfProgram}
use Rattle.command_answers.specs.Output.{Leaves}
use Rattle.command_answers.specs.Rejections.{unread_line}
use Rattle.program_commands.specs.inner.Exec.{LeavesRunOf}
use Rattle.program_commands.specs.inner.Input.{ReadsInput}
use Rattle.program_commands.proofs.CaseLemmas.{by_fault, by_refusal, by_run}

pub exec_run : (asked : ExecOptions) (bytes : List ℕ) (read : ProgramRead) (old new : Option (List ℕ))
    (ended : Result Ending Fault) → ReadsInput asked.shape asked.text bytes (Ok read)
    → LeavesRunOf asked.trace old new asked read.program ended
    → LeavesExec old new asked bytes ended
exec_run asked bytes read old new ended reads left =
    by_run asked.trace asked bytes read old new ended reads left

-- nothing is left by a run that isn't
no_left : Left
no_left = record { memory = []; outbox = record { nodes = 0; sent = empty } }

pub exec_rejected : (asked : ExecOptions) (bytes : List ℕ) (unread : Unread) (old new : Option (List ℕ))
    (ended : Result Ending Fault) → ReadsInput asked.shape asked.text bytes (Err unread)
    → Leaves old new (unread_line unread ++ codes "\n") Refused ended
    → LeavesExec old new asked bytes ended
exec_rejected asked bytes unread old new ended reads left =
    by_refusal asked.trace asked bytes unread no_left old new ended reads left

pub exec_unread : (asked : ExecOptions) (bytes : List ℕ) (fault : Fault) (old new : Option (List ℕ))
    → IsFaultOfProgram asked.text bytes fault → Keeps old new → LeavesExec old new asked bytes (Err fault)
exec_unread asked bytes fault old new is keeps = by_fault asked.trace asked bytes fault old new is keeps
