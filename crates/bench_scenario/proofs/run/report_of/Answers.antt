use Rattle.std.proofs.Common.{refl}
use Rattle.bench_scenario.proofs.RunLemmas.{fault_due, fault_met, run_met}
use Rattle.bench_scenario.proofs.run.report_of.Goals as goal

pub returns-in-Err : goal.returns-in-Err
returns-in-Err g c =
    let reads = c.requires.reads in
    let stopped = fault_met c.args.scenario.now _ _ c.in-Err.fault.event c.in-Err.fault.fault
    c.in-Ok-bench_for.ensures.setup c.in-Ok.ensures c.in-Err.ensures.fault in
    record {
      told = record {
        fault = stopped;
        want = fault_due reads.0 c.args.scenario.now c.in-Err.fault.event c.in-Err.fault.fault
            reads.1 stopped
            (c.in-Err.ensures.open refl);
      };
      thread = λ started. c.in-Err.ensures.thread started;
    }

pub returns : goal.returns
returns g c = record {
  told = record {
    records = _;
    memories = _;
    run = run_met c.args.scenario.now _ _ _ _ c.in-Ok-bench_for.ensures.setup c.in-Ok.ensures
        c.in-Ok-run_events_on.ensures.run;
    whole = c.in-Ok-report.ensures.text;
    verdict = c.in-Ok-report.ensures.agrees;
  };
  thread = λ started. tt;
}
