use Rattle.std.proofs.Common.{◌++◌, ap, ◌∙◌}
use Rattle.std.specs.Prelude.{option_to_list}
use Rattle.bench_shared.proofs.Rowing.{next_pulse}
use Rattle.bench_shared.proofs.board.Board.post.Goals as goal

pub post_row-requires-clause-next : goal.post_row-requires-clause-next
post_row-requires-clause-next g c =
    let i = c.pass.invariant in
    let owed = ap (λ v. v.owed) c.pass.view_is ∙ c.requires.owed in
    next_pulse _ c.pass.inside.seat.rows c.args.row i.order
    (i.rows ∙ ap (λ o. c.pass.inside.seat.rows ++ option_to_list o) owed)
