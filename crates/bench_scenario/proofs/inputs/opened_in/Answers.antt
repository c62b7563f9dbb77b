use Rattle.bench_scenario.proofs.InputLemmas.{last_there}
use Rattle.bench_scenario.proofs.RunLemmas.{fault_due, fault_met, is_memory}
use Rattle.bench_scenario.proofs.inputs.opened_in.Goals as goal

pub open_pulse_of-requires-clause-last : goal.open_pulse_of-requires-clause-last
open_pulse_of-requires-clause-last g c κs within =
    last_there c.args.scenario.now _ c.args.pulse c.in_ok-events.ensures c.requires.last

pub want_of-requires : goal.want_of-requires
want_of-requires g c =
    let met = fault_met c.args.scenario.now _ _ c.in-Err.fault.event c.in-Err.fault.fault c.in_ok-bench.ensures.setup
    c.in_ok-events.ensures c.in-Err.ensures.fault in
    let due = fault_due c.requires.reads.0 c.args.scenario.now c.in-Err.fault.event c.in-Err.fault.fault
    c.requires.reads.1 met c.in-Err.ensures.open in
    is_memory c.in-Err.fault.fault due c.in-Err.ensures.alone
