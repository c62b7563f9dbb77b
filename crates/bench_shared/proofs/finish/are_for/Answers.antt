use Rattle.std.proofs.Common.{◌≡◌, ◌<◌, sym, ap, ◌∙◌, arith, take, length, rules, tests}
use Rattle.std.proofs.lemmas.List.{take_all}
use Rattle.bench_shared.proofs.Placing.{entry_taken, entry_passed, receipt_taken, same_actor-told}
use Rattle.bench_shared.proofs.finish.are_for.Goals as goal
use Rattle.bench_shared.specs.Receipts.{placed_receipts}
use Rattle.bench_shared.specs.Ends.{placed_by}
use Rattle.bench_core.specs.Views.{entry_of}
use Rattle.std.specs.Prelude.{map, ◌++◌, [], ◌∷◌}
use borrow.Author.Tests.{ltb-true}
use Rattle.bench_shared.proofs.finish.are_for.Goals.{then-is_by+in-Some+else-not-is_for, else-is_by}

pub loop-place-preserved : goal.loop-place-preserved
loop-place-preserved c =
    let history = c.args.history.now in
    let place = c.loop-place.place in
    let by = same_actor-told _ _ _ c.is_by.ensures in
    let i = c.loop-place.invariant in
    elim c.if-is_by.branch [
      | then-is_by+in-Some+else-not-is_for w ↦
          let here : c.loop-place.count < length c.args.receipts.now = ltb-true _ _ (sym w.in-Some.ensures.lookup.0) in
          let taken = receipt_taken c.args.receipts.now c.loop-place.count w.in-Some.receipt.now _ here
          w.in-Some.ensures.lookup.1 (w.is_for.ensures w.if-not-is_for.false) in
          record {
            within = omega (arith, w.count-is, here);
            same = entry_taken history place c.index-history-place.result c.args.actor c.loop-place-test.true
                c.index-history-place.is (by ∙ w.if-is_by.true)
                ∙ ap (λ l. l ++ (place, entry_of c.index-history-place.result) ∷ []) i.same ∙ sym taken
                ∙ ap (λ k. placed_receipts (take k c.args.receipts.now)) (sym w.count-is);
          }
      | else-is_by w ↦
          record {
            within = omega (arith, w.count-is, i.within);
            same = entry_passed history place c.index-history-place.result c.args.actor c.loop-place-test.true
                c.index-history-place.is (by ∙ w.if-is_by.false) ∙ i.same
                ∙ ap (λ k. placed_receipts (take k c.args.receipts.now)) (sym w.count-is);
          }
    ]

pub returns : goal.returns
returns c = λ all.
    let history = c.args.history.now in
    let i = c.loop-place.invariant in
    let count : c.loop-place.count ≡ length c.args.receipts.now = search (rules, tests) in
    ap (λ l. placed_by c.args.actor (map entry_of l))
    (sym (take_all c.loop-place.place history (omega (arith, c.loop-place-test.false)))) ∙ i.same
    ∙ ap placed_receipts (take_all c.loop-place.count c.args.receipts.now (omega (arith, count)))
