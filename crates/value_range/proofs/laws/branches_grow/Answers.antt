use Rattle.value_range.proofs.GrowingPairs.{branch_grows}
use Rattle.value_range.proofs.laws.branches_grow.Goals as goal

pub returns : goal.returns
returns c = branch_grows
