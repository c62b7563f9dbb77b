use Rattle.std.proofs.Common.{sym, ap, ◌∙◌, arith}
use Rattle.bench_shared.specs.Seats.{SeatView}
use Rattle.bench_shared.proofs.Moves.{splits, joins, compares}
use Rattle.bench_shared.proofs.board.Board.meet_seat.Goals as goal

pub split_seat-note-requires : goal.split_seat-note-requires
split_seat-note-requires c = (
  ap (λ (v : SeatView). v.board) c.engine.view_is ∙ c.requires.board.0 ∙ sym c.self.view_is,
  omega (arith, c.self.invariant),
  splits _ _ c.engine.inside.seat.me.0.rows (λ posted h. h),
)

pub join_seat-requires : goal.join_seat-requires
join_seat-requires c =
    let r = c.replace-old.ensures.value in (
      c.split_seat-note.ensures.0 ∙ ap (λ (v : SeatView). v.board) c.engine.view_is ∙ c.requires.board.0
          ∙ sym c.self.view_is,
      ap (λ s. s.table_id) r ∙ ap (λ (v : SeatView). v.board) c.watch.view_is ∙ c.requires.board.1 ∙ sym c.self.view_is,
      ap (λ s. s.me.1) r ∙ ap (λ m. m.1) c.watch.invariant.seat,
      omega (arith, c.self.invariant),
      joins _ _ _ _,
    )

pub load-requires : goal.load-requires
load-requires c = (
  c.join_seat.ensures.0 ∙ c.split_seat-note.ensures.0 ∙ ap (λ (v : SeatView). v.board) c.engine.view_is
      ∙ c.requires.board.0 ∙ sym c.self.view_is,
  omega (arith, c.self.invariant),
  compares _ _ _ (ap (λ m. m.0.posts) c.join_seat.ensures.2 ∙ ap (λ m. m.0.posts) c.split_seat-note.ensures.2
      ∙ ap (λ m. m.0.posts) c.engine.invariant.seat),
)
