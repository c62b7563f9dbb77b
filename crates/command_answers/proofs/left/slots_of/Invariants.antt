use Rattle.std.proofs.Common.{◌≡◌}
use Rattle.command_answers.specs.Left.{slots_below}
use Rattle.command_answers.proofs.left.slots_of.Given as goal

abbrev pub invariant-loop-receiver : goal.invariant-loop-receiver
invariant-loop-receiver l = l.slots.items ≡ slots_below l.outbox.sent l.receiver
