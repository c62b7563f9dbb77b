use Rattle.std.proofs.Common.{length, refl, sym, ap, ◌∙◌, subst}
use Rattle.bench_shared.specs.Rows.{InOrder}
use Rattle.bench_shared.proofs.Passing.{rows_stay, count_after, not_open}
use Rattle.bench_shared.proofs.shared.SharedBench.abandon.Goals as goal

pub invariant_of-pass-2 : goal.invariant_of-pass-2
invariant_of-pass-2 g c =
    let i = c.pass.invariant in
    let e = c.in_ok-place.ensures in
    let rs = c.pass.inside.receipts.items in
    let stay = rows_stay rs _ _ c.push_reserved.ensures.items refl in
    record {
      part = e.parts ∙ i.part;
      counted = count_after rs _ _ _ _ c.push_reserved.ensures.items i.counted e.counted;
      close_part = i.close_part;
      close_whole = i.close_whole;
      closes_counted = i.closes_counted ∙ ap length (sym stay);
      rows = stay ∙ i.rows;
      order = subst (λ l. InOrder l) (sym stay) i.order;
      room = not_open;
    }
