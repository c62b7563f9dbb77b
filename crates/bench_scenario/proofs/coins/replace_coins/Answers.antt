use Rattle.std.proofs.Common.{rules, ◌∙◌}
use Rattle.bench_scenario.proofs.CoinLemmas.{next_replaced}
use Rattle.bench_scenario.proofs.coins.replace_coins.Goals as goal

pub loop-entry-preserved : goal.loop-entry-preserved
loop-entry-preserved c f n is =
    c.replace_coin.ensures _ n (c.loop-entry.invariant f n is)
    ∙ next_replaced f c.args.entries.now c.loop-entry.entry-index _ c.args.pulse n c.loop-entry-test.true
    (search rules)
