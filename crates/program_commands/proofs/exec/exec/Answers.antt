use Rattle.command_answers.specs.declared.ending.Ending.TheVariants.{Done}
use Rattle.program_commands.specs.declared.exec.Reply.{Reply}
use Rattle.command_answers.specs.Answer.{told_text}
use Rattle.command_answers.specs.Faults.{IsOutOfMemory}
use Rattle.program_commands.specs.inner.Exec.{RunsCase, answer_in}
use Rattle.command_answers.specs.inner.Left.{left_in}
use Rattle.program_commands.proofs.LeavesLemmas.{leaves_any}
use Rattle.program_commands.proofs.exec.exec.Goals as goal

pub returns-clause-left : goal.returns-clause-left
returns-clause-left g c =
    rw c.if-options.false
    (leaves_any {A = Reply} (RunsCase c.args.options.now c.args.read.now.program)
    (λ reply. told_text c.args.options.now (answer_in c.args.options.now.fuel reply) (left_in reply.left))
    (λ reply. Done) IsOutOfMemory c.in-Ok.reply (g.W.Write.contents c.args.out.now)
    (g.W.Write.contents c.write_reply.new.out) c.write_reply.result c.in-Ok.ensures tt c.write_reply.ensures.left)
