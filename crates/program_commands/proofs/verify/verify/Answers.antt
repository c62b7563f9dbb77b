use Rattle.std.specs.Prelude.{Err, Result}
use Rattle.command_answers.specs.declared.rejection.Unread.{Unread}
use Rattle.program_commands.specs.declared.verdict.Verdict.{Verdict}
use Rattle.program_commands.specs.Verdict.{Judges, judged_ending, judged_text}
use Rattle.program_commands.proofs.LeavesLemmas.{responded}
use Rattle.program_commands.proofs.VerdictLemmas.{judged_response}
use Rattle.program_commands.proofs.verify.verify.Goals as goal

pub returns-in-Ok-clause-response : goal.returns-in-Ok-clause-response
returns-in-Ok-clause-response c =
    judged_response c.args.options c.args.bytes.now c.in-Ok.read c.verdict_response.result
    (rw c.in-Ok.is at c.in_ok-found.ensures.read) c.verdict_response.ensures.response

pub returns-in-Err-clause-response : goal.returns-in-Err-clause-response
returns-in-Err-clause-response c =
    responded {A = Result Verdict Unread} (Judges c.args.options c.args.bytes.now) judged_text judged_ending
    (Err c.in-Err.unread) c.rejected.result (rw c.in-Err.is at c.in_ok-found.ensures.read) c.rejected.ensures.text
    c.rejected.ensures.ending
