use Rattle.std.proofs.Common.{[], sym, ap, ◌∙◌, arith}
use Rattle.bench_shared.proofs.Rowing.{starts-none}
use Rattle.bench_shared.proofs.Moves.{splits}
use Rattle.bench_shared.specs.Seats.{SeatView}
use Rattle.bench_shared.proofs.board.Board.watcher.Goals as goal

pub split_seat-seat-requires : goal.split_seat-seat-requires
split_seat-seat-requires c = (
  ap (λ (v : SeatView). v.board) c.engine.view_is ∙ c.requires ∙ sym c.self.view_is,
  omega (arith, c.self.invariant),
  splits _ _ [] (λ posted _. starts-none posted),
)
