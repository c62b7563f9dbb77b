use Rattle.std.proofs.Common.{sym, ap, subst, arith}
use Rattle.bench_shared.specs.Passes.{AreNew}
use Rattle.bench_shared.specs.Receipts.{placed_receipts}
use Rattle.bench_shared.proofs.Newness.{are_new-none, are_new-push}
use Rattle.bench_shared.proofs.shared.loader_passes.Goals as goal

pub loop-number-init : goal.loop-number-init
loop-number-init g c = record {
  parts = omega arith;
  amount = c.requires.amount;
  len = c.new-passes.ensures.len;
  new = subst AreNew (sym c.new-passes.ensures.items) are_new-none;
}

pub loop-number-preserved : goal.loop-number-preserved
loop-number-preserved g c =
    let i = c.loop-number.invariant in
    let p = c.in_ok-push.ensures in
    record {
      parts = omega (arith, i.parts, c.split_off.ensures.parts_left);
      amount = omega (arith, i.amount, c.split_off.ensures.amount_left);
      len = omega (arith, p.len, i.len);
      new = are_new-push c.loop-number.passes.items _ _ p.items i.new (omega (arith, i.len, c.loop-number.passes.ok.0))
          (ap placed_receipts c.new.ensures.items);
    }
