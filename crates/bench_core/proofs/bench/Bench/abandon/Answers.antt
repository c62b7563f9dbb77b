use Rattle.std.proofs.Common.{◌≡◌, ℕ, arith, None, is_some, cond, ap, Bool}
use Rattle.bench_core.specs.declared.entry.Entry.TheVariants.{Abandoned}
use Rattle.bench_core.specs.Replay.{Abandoned as AbandonedValue}
use Rattle.bench_core.proofs.Kept.{kept_step, abandoned_advances, as_seen, is_open_from, length_push, places_seen}
use Rattle.bench_core.proofs.bench.Bench.abandon.Goals as goal

pub invariant_of-self : goal.invariant_of-self
invariant_of-self c =
    let b = c.self.inside in
    let kept = c.self.invariant in
    let advances = abandoned_advances b c.add.new.history
    (is_open_from b.coins c.if-is_none.ensures) kept.staged c.add.ensures.items in
    let longer = length_push b.history.items c.add.new.history.items Abandoned c.add.ensures.items in
    let before = places_seen b in
    let one : ◌≡◌ {A = ℕ} (cond (is_some b.coins) 1 0) 1 = ap (λ (o : Bool). cond o 1 0) c.if-is_none.ensures in
    let after = places_seen (record b { coins = None; history = c.add.new.history }) in
    kept_step b _ AbandonedValue kept tt advances kept.same kept.flags kept.firsts kept.spare (omega arith) (λ h. absurd cc)
    (omega (arith, longer, kept.staged))
    (omega (arith, longer, before, one, after, kept.limit))
    (omega (arith, longer, before, one, after, kept.room, c.add.ensures.capacity))

pub returns-clause-ok : goal.returns-clause-ok
returns-clause-ok c =
    let b = c.self.inside in
    as_seen c.args.self.now b (record b { coins = None; history = c.add.new.history }) AbandonedValue c.self.view_is
    (abandoned_advances b c.add.new.history
    (is_open_from b.coins c.if-is_none.ensures) c.self.invariant.staged c.add.ensures.items)
