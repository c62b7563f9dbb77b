-- Beside Left: what proofs and private contracts alone cite.
use Rattle.command_answers.specs.declared.left.LeftByRun.{LeftByRun}
use Rattle.command_answers.specs.Left.{Left}

-- what a run leaves, as contracts see it
abbrev pub left_in : LeftByRun → Left
left_in left = record { memory = left.memory.items; outbox = left.outbox }
