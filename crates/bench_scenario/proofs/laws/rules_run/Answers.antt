use Rattle.bench_scenario.proofs.RuleLaws as proofs
use Rattle.bench_scenario.proofs.laws.rules_run.Goals as goal

pub returns : goal.returns
returns c = proofs.rules_run
