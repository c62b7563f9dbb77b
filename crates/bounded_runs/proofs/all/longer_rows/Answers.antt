use Rattle.std.proofs.Common.{◌∷◌, ◌++◌, Some, ap, map, sym, ◌∙◌}
use Rattle.bounded_runs.proofs.AllRows.{small_more}
use Rattle.bounded_runs.proofs.all.longer_rows.Goals as goal

pub loop-number-preserved : goal.loop-number-preserved
loop-number-preserved c =
    let rows = map (λ v. v.items) c.args.rows.now in
    let n = c.loop-number.number in
    c.in_ok-push_longer.ensures
    ∙ ap (λ all. all ++ map (λ row. Some n ∷ row) rows) c.loop-number.invariant
    ∙ sym (small_more rows n)
