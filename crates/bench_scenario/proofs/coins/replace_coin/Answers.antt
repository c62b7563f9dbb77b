use Rattle.std.proofs.Common.{arith, rules, inr}
use Rattle.bench_scenario.proofs.CoinLemmas.{entry_sets, entry_passes}
use Rattle.bench_scenario.proofs.coins.replace_coin.Goals as goal

pub returns-then-node-coins : goal.returns-then-node-coins
returns-then-node-coins c f n is = entry_sets f c.args.entry.now c.args.pulse n c.args.coins.now _ is (search rules)
    (omega arith) (search rules)

pub returns-else-node-coins : goal.returns-else-node-coins
returns-else-node-coins c f n is = entry_passes f c.args.entry.now c.args.pulse n c.args.coins.now is
    (inr (omega arith))
