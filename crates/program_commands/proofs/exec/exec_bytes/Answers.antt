use Rattle.program_commands.proofs.ExecLemmas.{exec_rejected, exec_run}
use Rattle.program_commands.proofs.exec.exec_bytes.Goals as goal

pub returns-in-Ok-clause-left : goal.returns-in-Ok-clause-left
returns-in-Ok-clause-left g c =
    exec_run c.args.options.now c.args.bytes.now c.in-Ok.read _ _ _
    (rw c.in-Ok.is at c.in_ok-found.ensures.read) c.exec.ensures.left

pub returns-in-Err-clause-left : goal.returns-in-Err-clause-left
returns-in-Err-clause-left g c =
    exec_rejected c.args.options.now c.args.bytes.now c.in-Err.unread _ _ _ (rw c.in-Err.is at c.in_ok-found.ensures.read)
    c.reject.ensures.left
