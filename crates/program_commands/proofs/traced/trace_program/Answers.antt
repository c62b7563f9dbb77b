use Rattle.command_answers.proofs.WriteLemmas.{caused_behind}
use Rattle.program_commands.proofs.TracedLemmas.{traced_broken, traced_whole}
use Rattle.program_commands.proofs.traced.trace_program.Goals as goal

pub returns-in-Ok-clause-left : goal.returns-in-Ok-clause-left
returns-in-Ok-clause-left g c =
    traced_whole _ _ _ c.args.options.now c.args.program.now c.in_ok-reply.reply c.in_ok-reply.written c.in-Ok.ending
    c.in_ok-reply.ensures.run c.in_ok-reply.ensures.written c.in-Ok.ensures.left

pub returns-clause-left : goal.returns-clause-left
returns-clause-left g c =
    rw c.behind.ensures
    (traced_broken _ _ _ c.args.options.now c.args.program.now c.in_ok-reply.reply c.in_ok-reply.written
    c.in-Err.fault c.in_ok-reply.ensures.run c.in_ok-reply.ensures.written c.in-Err.ensures.left)

pub returns-clause-cause : goal.returns-clause-cause
returns-clause-cause g c =
    rw c.behind.ensures
    (caused_behind (g.W.Sink.has_failed c.write_reply.new.out) _ c.in-Err.fault c.in-Err.ensures.cause)
