use Rattle.bench_workers.proofs.OneRun.{one_run}
use Rattle.bench_workers.proofs.laws.one_run.Goals as goal

pub returns : goal.returns
returns c = one_run
