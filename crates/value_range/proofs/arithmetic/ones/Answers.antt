use Rattle.std.proofs.Common.{arith}
use Rattle.value_range.proofs.InTable.{ones_cover_shifted}
use Rattle.value_range.proofs.arithmetic.ones.Goals as goal

pub returns-clause-covers : goal.returns-clause-covers
returns-clause-covers c = ones_cover_shifted c.args.n (omega arith)
