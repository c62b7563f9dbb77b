use Rattle.std.proofs.Common.{◌+◌, ◌≤◌, vec_len, vec_capacity, ◌≡◌, ◌++◌, ◌∷◌, [], arith, rules, ◌∙◌, ap}
use Rattle.bench_core.specs.Views.{change_of}
use Rattle.bench_core.specs.declared.entry.Entry.TheVariants.{Staged}
use Rattle.bench_core.specs.Replay.{Staged as StagedValue}
use Rattle.bench_core.proofs.Kept.{kept_step, staged_advances, as_seen, length_push, places_seen}
use Rattle.bench_core.proofs.bench.Bench.stage.Goals as goal

pub invariant_of-self-2 : goal.invariant_of-self-2
invariant_of-self-2 c =
    let b = c.self.inside in
    let kept = c.self.invariant in
    let entry = Staged c.args.actor c.args.change in
    let is : c.add.new.history.items ≡ b.history.items ++ entry ∷ [] = c.add.ensures.items
    ∙ ap (λ es. es ++ entry ∷ []) c.reserve.ensures.items in
    let advances = staged_advances b c.add.new.history c.args.actor c.args.change c.in-None.ensures.none kept.staged
    is in
    let longer = length_push b.history.items c.add.new.history.items entry is in
    let places = places_seen (record b { history = c.add.new.history }) in
    kept_step b (record b { history = c.add.new.history })
    (StagedValue c.args.actor (change_of c.args.change)) kept c.loads_accepted.ensures advances kept.same kept.flags
    kept.firsts kept.spare
    (omega arith) kept.counted (omega (arith, longer, kept.staged))
    (omega (arith, longer, places, c.places_kept-kept.ensures))
    (let ok : vec_len c.reserve.new.self + (1 + c.places_kept-kept.result) ≤ vec_capacity c.reserve.new.self =
    search rules in omega (
      arith,
      longer,
      places,
      c.places_kept-kept.ensures,
      c.add.ensures.capacity,
      c.reserve.ensures.len,
      ok,
    ))

pub returns-clause-ok : goal.returns-clause-ok
returns-clause-ok c =
    let b = c.self.inside in
    let entry = Staged c.args.actor c.args.change in
    let is : c.add.new.history.items ≡ b.history.items ++ entry ∷ [] = c.add.ensures.items
    ∙ ap (λ es. es ++ entry ∷ []) c.reserve.ensures.items in
    as_seen c.args.self.now b (record b { history = c.add.new.history })
    (StagedValue c.args.actor (change_of c.args.change)) c.self.view_is
    (staged_advances b c.add.new.history c.args.actor c.args.change c.in-None.ensures.none c.self.invariant.staged
    is)
