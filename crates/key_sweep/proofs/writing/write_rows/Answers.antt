use Rattle.std.proofs.Common.{◌+◌, ◌∙◌, List, arith, subst, sym, ℕ}
use Rattle.key_sweep.specs.inner.Blocks.{IsBlock}
use Rattle.key_sweep.proofs.RowLemmas.{front_of_names, front_of_rows, some_swept, swept_more, swept_names}
use Rattle.key_sweep.proofs.writing.write_rows.Goals as goal

pub returns-in_err-told-clause-left : goal.returns-in_err-told-clause-left
returns-in_err-told-clause-left g c =
    front_of_names (g.R.RowMaker.is_row c.args.maker.now) (g.R.RowMaker.first_row c.args.maker.now) _ _ c.args.keys
    c.as_slice.result.now c.in_err-told.field-0.0 c.from_residual.result (c.as_slice.ensures.value ∙ c.in-Ok.ensures)
    c.in_err-told.ensures.fault c.from_residual.ensures.1

pub loop-next-init : goal.loop-next-init
loop-next-init g c = record {
  swept = swept_names (g.R.RowMaker.is_row c.args.maker.now) (g.R.RowMaker.first_row c.args.maker.now) _ _
      c.args.keys.first c.first-next.result c.in_ok-told.told c.as_slice.result.now
      (c.as_slice.ensures.value ∙ c.in-Ok.ensures) c.first-next.ensures.value c.in_ok-told.ensures.whole;
  past = let last = c.last-past.ensures.value in omega (arith, last);
  within =
      let first = c.first-next.ensures.value in
      let last = c.last-past.ensures.value in
      let order = c.first-next.ensures.span.0 in
      omega (arith, first, last, order);
}

pub returns-in_err-told-2-clause-left : goal.returns-in_err-told-2-clause-left
returns-in_err-told-2-clause-left g c =
    let past = c.loop-next.invariant.past in
    let count = c.min-count.ensures in
    let before = c.loop-next-test.true in
    let is_row = g.R.RowMaker.is_row c.args.maker.now in
    front_of_rows is_row (g.R.RowMaker.first_row c.args.maker.now) _ _ _ c.args.keys c.loop-next.next c.loop-next.told
    c.in-Ok-block_of.block.rows c.min-count.result c.as_slice-in-loop-next.result.now c.in_err-told-2.field-0.0
    c.from_residual-in_err-told-2.result c.loop-next.invariant.swept
    (subst (λ (t : List ℕ). IsBlock is_row c.loop-next.next c.min-count.result t c.in-Ok-block_of.block.rows)
    (sym c.as_slice-in-loop-next.ensures.value) c.in-Ok-block_of.ensures)
    (omega (arith, past, before)) (omega (arith, past, count, before)) c.in_err-told-2.ensures.fault
    c.from_residual-in_err-told-2.ensures.1

pub returns-then-block-count-clause-left : goal.returns-then-block-count-clause-left
returns-then-block-count-clause-left g c =
    let past = c.loop-next.invariant.past in
    let count = c.min-count.ensures in
    let fewer = c.if-block-count.true in
    let is_row = g.R.RowMaker.is_row c.args.maker.now in
    let names = g.R.RowMaker.first_row c.args.maker.now in
    let rows = c.in-Ok-block_of.block.rows in
    some_swept is_row names _ _ c.args.keys (c.loop-next.next + rows) c.in_ok-told-2.told
    (swept_more is_row names _ _ _ c.args.keys.first c.loop-next.next (c.loop-next.next + rows) c.loop-next.told
    c.in_ok-told-2.told rows c.min-count.result c.as_slice-in-loop-next.result.now (omega arith)
    c.loop-next.invariant.swept
    (subst (λ (t : List ℕ). IsBlock is_row c.loop-next.next c.min-count.result t rows)
    (sym c.as_slice-in-loop-next.ensures.value) c.in-Ok-block_of.ensures) c.in_ok-told-2.ensures.whole)
    (omega (arith, past, count, fewer))

pub loop-next-preserved : goal.loop-next-preserved
loop-next-preserved g c =
    let past = c.loop-next.invariant.past in
    let count = c.min-count.ensures in
    let all = c.if-block-count.false in
    let before = c.loop-next-test.true in
    let few = c.in-Ok-block_of.ensures.few in
    let is_row = g.R.RowMaker.is_row c.args.maker.now in
    let rows = c.in-Ok-block_of.block.rows in
    record {
      swept = swept_more is_row (g.R.RowMaker.first_row c.args.maker.now) _ _ _ c.args.keys.first c.loop-next.next
          (c.loop-next.next + c.min-count.result) c.loop-next.told c.in_ok-told-2.told rows c.min-count.result
          c.as_slice-in-loop-next.result.now (omega (arith, all, few)) c.loop-next.invariant.swept
          (subst (λ (t : List ℕ). IsBlock is_row c.loop-next.next c.min-count.result t rows)
          (sym c.as_slice-in-loop-next.ensures.value) c.in-Ok-block_of.ensures) c.in_ok-told-2.ensures.whole;
      past = past;
      within = omega (arith, count, before);
    }
