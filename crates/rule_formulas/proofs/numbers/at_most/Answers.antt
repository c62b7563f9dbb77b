use Rattle.std.proofs.Common.{arith}
use Rattle.std.proofs.lemmas.Int.{ints}
use Rattle.rule_formulas.specs.Numbers.{integers}
use Rattle.rule_formulas.proofs.numbers.at_most.Goals as goal

pub returns : goal.returns
returns c v h =
    c.in_ok-at_most_0.ensures (integers v)
    (omega (arith, ints, h, c.constant_of-constant.ensures, c.sum_of-left.ensures.says v, c.taken_sum_of-right.ensures.says v))
