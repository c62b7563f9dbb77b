use Rattle.clock_nodes.proofs.Lengths.{clock_longest}
use Rattle.clock_nodes.proofs.TakenClock.{clock_typable}
use Rattle.clock_nodes.proofs.laws.clock_is_taken.Goals as goal

pub returns-clause-typable : goal.returns-clause-typable
returns-clause-typable c = clock_typable

pub returns-clause-longest : goal.returns-clause-longest
returns-clause-longest c = clock_longest
