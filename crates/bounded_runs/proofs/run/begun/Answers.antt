use Rattle.std.proofs.Common.{arith}
use Rattle.bounded_runs.specs.inner.Run.{bound_of_run}
use Rattle.bounded_runs.proofs.Runs.{begins_followed}
use Rattle.bounded_runs.proofs.run.begun.Goals as goal

pub returns-clause-followed : goal.returns-clause-followed
returns-clause-followed c =
    let units = c.memory-memory.ensures.extent.units in
    begins_followed c.args.view.program.now (bound_of_run c.args.view) c.args.view.env.now c.args.memory.now
    c.at_entry.result c.shape.ensures.setting c.at_entry.ensures.wide c.at_entry.ensures.registers
    c.at_entry.ensures.bytes (omega (arith, units, c.requires)) c.are_bytes.ensures
