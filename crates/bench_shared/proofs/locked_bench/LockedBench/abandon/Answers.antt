use Rattle.std.proofs.Common.{arith}
use Rattle.bench_shared.proofs.Counting.{one_more, closes_after}
use Rattle.bench_shared.proofs.locked_bench.LockedBench.abandon.Goals as goal

pub invariant_of-self-2 : goal.invariant_of-self-2
invariant_of-self-2 g c =
    let was = c.args.self.now in
    record {
      entries_counted = one_more _ _ _ _ _ c.in_ok-abandon.ensures.ok was.entries_counted c.add.ensures.total;
      closes_counted = closes_after _ _ _ _ _ c.in_ok-abandon.ensures.ok was.closes_counted (omega arith);
    }
