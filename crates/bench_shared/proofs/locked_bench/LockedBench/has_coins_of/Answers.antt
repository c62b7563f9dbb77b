use Rattle.std.proofs.Common.{Some, ap, ◌∙◌}
use Rattle.bench_core.specs.Views.{entry_of}
use Rattle.bench_shared.proofs.Passing.{opened_last}
use Rattle.bench_shared.proofs.locked_bench.LockedBench.has_coins_of.Goals as goal

pub returns-in-Opened : goal.returns-in-Opened
returns-in-Opened g c =
    let place = c.in-Some.ensures.item.3 in
    let coins = c.in-Opened.coins.items in
    λ held. (
      coins,
      opened_last c.args.receipts.now c.in-Some.receipt.now coins place.0 (place.1 c.in-Some.receipt.now)
          (ap entry_of c.in-Opened.is),
      c.has_coins.ensures.0 held ∙ ap Some c.deref.ensures.value,
    )
