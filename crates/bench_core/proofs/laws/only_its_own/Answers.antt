use Rattle.bench_core.proofs.OwnPulse.{only_its_own, only_its_own_for}
use Rattle.bench_core.proofs.laws.only_its_own.Goals as goal

pub returns-clause-one : goal.returns-clause-one
returns-clause-one c = only_its_own

pub returns-clause-many : goal.returns-clause-many
returns-clause-many c = only_its_own_for
