use Rattle.std.proofs.Common.{sym, ap, ◌∙◌, subst, arith}
use Rattle.bench_shared.specs.Rows.{StartsWith}
use Rattle.bench_shared.specs.inner.Rows.{pulse_of}
use Rattle.bench_shared.specs.Seats.{SeatView}
use Rattle.bench_shared.proofs.Moves.{looks}
use Rattle.bench_shared.proofs.Telling.{looked, found, last_pulse}
use Rattle.bench_shared.proofs.board.Board.look.Goals as goal

pub load-requires : goal.load-requires
load-requires c = (
  ap (λ (v : SeatView). v.board) c.watch.view_is ∙ c.requires ∙ sym c.self.view_is,
  omega (arith, c.self.invariant),
  looks _ _ _,
)

pub invariant_of-watch : goal.invariant_of-watch
invariant_of-watch c =
    let l = looked _ _ _ c.watch.invariant.seat c.load.ensures.2 in
    let f = found _ _ c.row-found.result l.1 l.2 c.row-found.ensures.none c.row-found.ensures.some in
    record { seat = l.0; counted = c.pulse-watch-inside.ensures ∙ ap pulse_of f ∙ last_pulse _ l.2; order = l.2 }

pub returns-clause-last : goal.returns-clause-last
returns-clause-last c =
    let l = looked _ _ _ c.watch.invariant.seat c.load.ensures.2 in
    found _ _ c.row-found.result l.1 l.2 c.row-found.ensures.none c.row-found.ensures.some

pub returns-clause-later : goal.returns-clause-later
returns-clause-later c =
    let l = looked _ _ _ c.watch.invariant.seat c.load.ensures.2 in
    subst (λ (v : SeatView). StartsWith c.load.new.seat.me.0.rows v.rows) c.watch.view_is l.3

pub returns-clause-order : goal.returns-clause-order
returns-clause-order c = (looked _ _ _ c.watch.invariant.seat c.load.ensures.2).2
