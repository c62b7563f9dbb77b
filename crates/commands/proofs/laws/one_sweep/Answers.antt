use Rattle.commands.proofs.SweepLaws.{one_sweep}
use Rattle.commands.proofs.laws.one_sweep.Goals as goal

pub returns : goal.returns
returns c = one_sweep c.one_run.ensures
