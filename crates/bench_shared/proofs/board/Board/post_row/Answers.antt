use Rattle.std.proofs.Common.{◌+◌, [], ◌∷◌, ◌++◌, length, length-append, sym, ap, ◌∙◌, arith}
use Rattle.bench_core.specs.Told.{Row}
use Rattle.bench_shared.specs.Seats.{SeatView}
use Rattle.bench_shared.proofs.Moves.{posts}
use Rattle.bench_shared.proofs.Telling.{posted}
use Rattle.bench_shared.proofs.board.Board.post_row.Goals as goal

pub store-requires : goal.store-requires
store-requires c = (
  ap (λ (v : SeatView). v.board) c.engine.view_is ∙ c.requires.board ∙ sym c.self.view_is,
  omega (arith, c.self.invariant),
  posts _ _ _ c.args.posted _ (ap (λ m. m.0.posts) c.engine.invariant.seat) c.word.ensures.ranges
      (c.requires.next ∙ ap (λ (v : SeatView). length v.rows + 1) (sym c.engine.view_is)) c.word.ensures.word,
)

pub invariant_of-engine : goal.invariant_of-engine
invariant_of-engine c =
    let next = c.requires.next ∙ ap (λ (v : SeatView). length v.rows + 1) (sym c.engine.view_is) in
    let p = posted _ _ _ c.args.posted c.engine.invariant.seat c.engine.invariant.order c.word.ensures.ranges
    c.word.ensures.word next c.store.ensures.2 in
    record {
      seat = p.0;
      counted = ap (λ (r : Row). r.pulse) c.posted.view_is
          ∙ omega (arith, next, ap length p.1, length-append c.engine.inside.seat.me.0.rows (c.args.posted ∷ []));
      order = p.2;
    }

pub returns-clause-last : goal.returns-clause-last
returns-clause-last c =
    let next = c.requires.next ∙ ap (λ (v : SeatView). length v.rows + 1) (sym c.engine.view_is) in
    let p = posted _ _ _ c.args.posted c.engine.invariant.seat c.engine.invariant.order c.word.ensures.ranges
    c.word.ensures.word next c.store.ensures.2 in
    p.1 ∙ ap (λ (v : SeatView). v.rows ++ c.args.posted ∷ []) c.engine.view_is

pub returns-clause-order : goal.returns-clause-order
returns-clause-order c =
    let next = c.requires.next ∙ ap (λ (v : SeatView). length v.rows + 1) (sym c.engine.view_is) in
    (posted _ _ _ c.args.posted c.engine.invariant.seat c.engine.invariant.order c.word.ensures.ranges
    c.word.ensures.word next c.store.ensures.2).2
