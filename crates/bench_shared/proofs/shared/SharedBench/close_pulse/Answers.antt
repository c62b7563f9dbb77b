use Rattle.std.proofs.Common.{List, ◌++◌, ◌∷◌, [], length, sym, ap, ◌∙◌, subst, arith, length-append, append-nil}
use Rattle.bench_shared.specs.Rows.{InOrder}
use Rattle.std.specs.Prelude.{option_to_list}
use Rattle.bench_core.specs.Replay.{Closed}
use Rattle.bench_core.specs.Told.{Row, PulseTold}
use Rattle.bench_core.specs.Setup.{Setup}
use Rattle.bench_shared.specs.Passes.{EngineView, Placed}
use Rattle.bench_shared.specs.Receipts.{placed_receipts}
use Rattle.bench_shared.specs.Plans.{Plan}
use Rattle.bench_shared.specs.Told.{OpenedLast, TellsAgreement}
use Rattle.bench_shared.proofs.Closing.{tells_close}
use Rattle.bench_shared.proofs.Passing.{rows_after, rows_among, count_after, placed_after, not_open}
use Rattle.bench_shared.proofs.Rowing.{in_order-push}
use Rattle.bench_shared.proofs.shared.SharedBench.close_pulse.Goals as goal

pub invariant_of-pass-2 : goal.invariant_of-pass-2
invariant_of-pass-2 g c =
    let i = c.pass.invariant in
    let e = c.in_ok-place.ensures in
    let rs = c.pass.inside.receipts.items in
    let row = c.in_ok-place.told.row in
    let same = ap (λ (told : PulseTold). told.row) c.told.view_is in
    let more = rows_after rs _ _ c.push_reserved.ensures.items ∙ ap (λ (r : Row). rows_among rs ++ r ∷ []) same in
    let paid = ap (λ v. v.owed) c.pass.view_is ∙ c.requires in
    let were = i.rows ∙ ap (λ o. c.pass.inside.seat.rows ++ option_to_list o) paid ∙ append-nil _ in
    record {
      part = e.parts ∙ i.part;
      counted = count_after rs _ _ _ _ c.push_reserved.ensures.items i.counted e.counted;
      close_part = e.close_parts ∙ i.close_part;
      close_whole = e.close_parts ∙ i.close_whole;
      closes_counted = omega (
        arith,
        e.closes_counted,
        i.closes_counted,
        ap length more,
        length-append (rows_among rs)
            (row ∷ []),
      );
      rows = more ∙ ap (λ l. l ++ row ∷ []) were ∙ ap (λ (r : Row). c.pass.inside.seat.rows ++ r ∷ []) (sym same);
      order = subst (λ l. InOrder l) (sym more)
          (in_order-push 0 (rows_among rs) row i.order e.ranges (omega (arith, e.pulse, i.closes_counted)));
      room = not_open;
    }

pub returns-clause-receipt : goal.returns-clause-receipt
returns-clause-receipt g c =
    placed_after c.pass.inside.receipts.items _ _ _ _ c.push_reserved.ensures.items
    (ap (λ (v : EngineView). v.receipts) c.pass.view_is)
    (ap (λ (told : PulseTold). Closed told.row) c.told.view_is)

pub returns-clause-told : goal.returns-clause-told
returns-clause-told g c =
    let e = c.in_ok-place.ensures in
    let held = c.has_coins_of.ensures c.if-not-has_coins_of.false in
    let setup = c.is_of.ensures c.if-not-is_of.false ∙ ap (λ (p : Plan). p.setup) c.self.view_is in (
      held.0,
      subst (λ (l : List Placed). OpenedLast l held.0)
          (ap placed_receipts c.deref.ensures.value ∙ ap (λ (v : EngineView). v.receipts) c.pass.view_is) held.1,
      tells_close c.args.self.now.setup c.deref_mut-round.result.now.bench c.close.new.self.bench held.0
          c.in_ok-place.told
          setup e.replays e.accepted held.2 e.ok e.told,
    )

pub returns-clause-agrees : goal.returns-clause-agrees
returns-clause-agrees g c =
    let setup = c.is_of.ensures c.if-not-is_of.false ∙ ap (λ (p : Plan). p.setup) c.self.view_is in
    subst (λ (s : Setup). TellsAgreement s c.in_ok-place.told) setup c.in_ok-place.ensures.agrees
