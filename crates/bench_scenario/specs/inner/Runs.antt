-- Beside Runs: what proofs and private contracts alone cite.
use Rattle.scenario_text.specs.declared.scenario.Scenario.{Scenario}
use Rattle.bench_scenario.specs.declared.run.ReportFault.{ReportFault}
use Rattle.bench_scenario.specs.declared.run.ReportFault.TheVariants as faults
use Rattle.bench_scenario.specs.Runs.{StopsRun}

-- why there is no report of the run: no write comes before there is one
abbrev pub IsDueOfRun : Scenario → ReportFault → Type 0
IsDueOfRun s (faults.Run stop) = StopsRun s stop.event stop.fault
IsDueOfRun s (faults.Write written) = ⊥
IsDueOfRun s faults.Memory = Unit {0}
