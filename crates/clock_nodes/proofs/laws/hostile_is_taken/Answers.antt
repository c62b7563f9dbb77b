use Rattle.clock_nodes.proofs.TakenHostile.{say_typable, echo_typable}
use Rattle.clock_nodes.proofs.laws.hostile_is_taken.Goals as goal

pub returns-clause-say : goal.returns-clause-say
returns-clause-say c = say_typable

pub returns-clause-echo : goal.returns-clause-echo
returns-clause-echo c = echo_typable
