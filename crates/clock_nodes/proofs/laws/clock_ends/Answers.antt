use Rattle.clock_nodes.proofs.ClockRuns.{clock_has_runs, clock_ends_so}
use Rattle.clock_nodes.proofs.Programs.{clock_slots, clock_is_program}
use Rattle.clock_nodes.proofs.laws.clock_ends.Goals as goal

pub returns-clause-slots : goal.returns-clause-slots
returns-clause-slots c = clock_slots

pub returns-clause-program : goal.returns-clause-program
returns-clause-program c = clock_is_program

pub returns-clause-runs : goal.returns-clause-runs
returns-clause-runs c = clock_has_runs

pub returns-clause-ends : goal.returns-clause-ends
returns-clause-ends c = clock_ends_so
