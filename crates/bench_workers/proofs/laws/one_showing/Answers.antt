use Rattle.bench_workers.proofs.OneShowing.{one_showing}
use Rattle.bench_workers.proofs.laws.one_showing.Goals as goal

pub returns : goal.returns
returns c = one_showing
