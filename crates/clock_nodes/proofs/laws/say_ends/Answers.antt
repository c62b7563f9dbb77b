use Rattle.clock_nodes.proofs.HostileRuns.{say_has_runs, say_ends_so}
use Rattle.clock_nodes.proofs.Programs.{say_slots, say_is_program}
use Rattle.clock_nodes.proofs.laws.say_ends.Goals as goal

pub returns-clause-slots : goal.returns-clause-slots
returns-clause-slots c = say_slots

pub returns-clause-program : goal.returns-clause-program
returns-clause-program c = say_is_program

pub returns-clause-runs : goal.returns-clause-runs
returns-clause-runs c = say_has_runs

pub returns-clause-ends : goal.returns-clause-ends
returns-clause-ends c = say_ends_so
