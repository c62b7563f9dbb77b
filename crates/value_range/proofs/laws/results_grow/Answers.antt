use Rattle.value_range.proofs.Growing.{alu_grows, neg_grows, movsx_grows, swap_grows}
use Rattle.value_range.proofs.laws.results_grow.Goals as goal

pub returns : goal.returns
returns c = record { alu = alu_grows; neg = neg_grows; movsx = movsx_grows; swap = swap_grows }
