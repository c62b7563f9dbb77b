use Rattle.clock_nodes.proofs.HostileRuns.{echo_has_runs, echo_ends_so}
use Rattle.clock_nodes.proofs.Programs.{echo_slots, echo_is_program}
use Rattle.clock_nodes.proofs.laws.echo_ends.Goals as goal

pub returns-clause-slots : goal.returns-clause-slots
returns-clause-slots c = echo_slots

pub returns-clause-program : goal.returns-clause-program
returns-clause-program c = echo_is_program

pub returns-clause-runs : goal.returns-clause-runs
returns-clause-runs c = echo_has_runs

pub returns-clause-ends : goal.returns-clause-ends
returns-clause-ends c = echo_ends_so
