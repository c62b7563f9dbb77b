use Rattle.std.proofs.Common.{refl}
use Rattle.bench_scenario.proofs.RunLemmas.{is_memory, keyed_due}
use Rattle.bench_scenario.proofs.keyed.run_with_key.Goals as goal

pub want_of-requires : goal.want_of-requires
want_of-requires g c =
    let due = keyed_due c.requires.reads.0 c.args.scenario.now c.args.key _ _ c.in-Err.fault.event c.in-Err.fault.fault
    c.requires.reads.1 c.in_ok-bench.ensures.setup c.in_ok-events.ensures c.in-Err.ensures.fault
    (c.in-Err.ensures.open refl) in
    is_memory c.in-Err.fault.fault due (c.in-Err.ensures.alone refl)
