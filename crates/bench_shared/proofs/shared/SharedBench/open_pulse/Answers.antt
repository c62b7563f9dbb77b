use Rattle.std.proofs.Common.{length, refl, sym, ap, ◌∙◌, subst, arith}
use Rattle.bench_shared.specs.Rows.{InOrder}
use Rattle.bench_shared.proofs.Passing.{rows_stay, grown, count_after}
use Rattle.bench_shared.proofs.shared.SharedBench.open_pulse.Goals as goal

pub invariant_of-pass-2 : goal.invariant_of-pass-2
invariant_of-pass-2 g c =
    let i = c.pass.invariant in
    let e = c.in_ok-place.ensures in
    let rs = c.pass.inside.receipts.items in
    let is = grown rs _ _ _ c.push_reserved.ensures.items c.in-Ok.ensures.items in
    let stay = rows_stay rs _ _ is refl in
    record {
      part = e.parts ∙ i.part;
      counted = count_after rs _ _ _ _ is i.counted e.counted;
      close_part = i.close_part;
      close_whole = i.close_whole;
      closes_counted = i.closes_counted ∙ ap length (sym stay);
      rows = stay ∙ i.rows;
      order = subst (λ l. InOrder l) (sym stay) i.order;
      room = λ _. omega (
        arith,
        c.push_reserved.ensures.len,
        c.push_reserved.ensures.capacity,
        c.in-Ok.ensures.ok,
        c.in-Ok.ensures.len,
      );
    }
