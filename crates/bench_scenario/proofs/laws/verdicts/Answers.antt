use Rattle.bench_scenario.proofs.VerdictLaws.{counts, counts_nothing, own_agrees}
use Rattle.bench_scenario.proofs.laws.verdicts.Goals as goal

pub returns-clause-agree : goal.returns-clause-agree
returns-clause-agree c = own_agrees

pub returns-clause-counts : goal.returns-clause-counts
returns-clause-counts c = counts

pub returns-clause-nothing : goal.returns-clause-nothing
returns-clause-nothing c = counts_nothing
