use Rattle.std.proofs.Common.{inr}
use Rattle.command_answers.proofs.FaultLemmas.{said_so_much}
use Rattle.command_answers.proofs.note.say_text.Goals as goal

pub returns : goal.returns
returns g c = inr (
  c.args.text.now,
  c.requires.note,
  said_so_much _ _ c.args.text.now c.write_fully.result c.write_fully.ensures.all c.write_fully.ensures.prefix,
)
