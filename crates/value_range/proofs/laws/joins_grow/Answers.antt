use Rattle.value_range.proofs.Growing.{hull_grows}
use Rattle.value_range.proofs.GrowingPairs.{meet_grows}
use Rattle.value_range.proofs.laws.joins_grow.Goals as goal

pub returns : goal.returns
returns c = record { hull = hull_grows; meet = meet_grows }
