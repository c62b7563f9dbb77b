use Rattle.std.proofs.Common.{rules}
use Rattle.bench_scenario.proofs.CoinLemmas.{same_coins}
use Rattle.bench_scenario.proofs.coins.drawn_coins.Goals as goal

pub returns-in-Zeros : goal.returns-in-Zeros
returns-in-Zeros c = rw c.in-Zeros.is (rw (← (same_coins 0 c.args.count)) (search rules))

pub returns-in-Ones : goal.returns-in-Ones
returns-in-Ones c = rw c.in-Ones.is (rw (← (same_coins 1 c.args.count)) (search rules))
