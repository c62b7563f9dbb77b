use Rattle.std.proofs.Common.{ℕ, List, Some, refl, sym, ◌++◌, ◌∷◌, [], vec_len, vec_capacity, ◌≡◌, ◌≤◌, ◌+◌, length, ap, ◌∙◌, subst, arith, rules}
use Rattle.std.proofs.lemmas.List.{length-map}
use Rattle.bench_core.specs.declared.limits.TheConstants.{MAX_ENTRIES}
use Rattle.bench_core.specs.Replay.{Advances, BenchValue, Opened as OpenedValue, openings}
use Rattle.bench_core.specs.declared.bench.Bench.TheInside.{Inside}
use Rattle.bench_core.specs.Tasks.{tasks_from}
use Rattle.bench_core.specs.Views.{entry_of}
use Rattle.bench_core.specs.inner.Kept.{view_of}
use Rattle.bench_core.specs.inner.Nodes.{KnowsClock, KnowsFirsts}
use Rattle.bench_core.specs.inner.OpenPulse.{nodes_left}
use Rattle.bench_core.specs.declared.entry.Entry.TheVariants.{Opened}
use Rattle.bench_core.proofs.Opening.{sound_of, staged_slice, staged_within, nodes_after, openings_le, Opens, opened_advances, tasks_made}
use Rattle.bench_core.proofs.Kept.{kept_step, as_seen, length_push, places_seen}
use Rattle.bench_core.proofs.bench.Bench.open.Goals as goal

pub prepare-requires-clause-count : goal.prepare-requires-clause-count
prepare-requires-clause-count c = rw c.deref.ensures.value (sound_of c.self.inside c.self.invariant).nodes

pub prepare-requires-clause-within : goal.prepare-requires-clause-within
prepare-requires-clause-within c = rw (
  c.deref-5.ensures.value,
  staged_slice c.self.inside.history.items
      c.self.inside.staged_from,
) (staged_within c.self.inside c.self.invariant)

pub prepare-requires-clause-after : goal.prepare-requires-clause-after
prepare-requires-clause-after c = rw (
  c.deref.ensures.value,
  c.deref-5.ensures.value,
  staged_slice
      c.self.inside.history.items c.self.inside.staged_from,
)
    (nodes_after c.self.inside c.self.invariant c.args.coins.items (search rules))

pub prepare-requires-clause-mail : goal.prepare-requires-clause-mail
prepare-requires-clause-mail c = (sound_of c.self.inside c.self.invariant).mail

pub overflow_add-self : goal.overflow_add-self
overflow_add-self c =
    let b = c.self.inside in
    omega (
      arith,
      c.self.invariant.opened,
      openings_le
          (view_of b).history,
      length-map b.history.items entry_of,
      c.self.invariant.limit,
    )

-- ---- the bench at the end

abbrev opened_bench : goal.After-self-3-1 → Inside
opened_bench c = record c.self.inside {
  nodes = c.put.new.nodes;
  flags = c.put.new.flags;
  firsts = c.put.new.firsts;
  coins = Some c.in_ok-kept.kept;
  opened = c.self.inside.opened + 1;
  staged_from = c.len-entries.result;
  history = c.add.new.history;
  earlier = c.prepare.new.earlier;
  spare_coins = c.refilled.new.earlier;
}

record Ends (c : goal.After-self-3-1) : Type 0 where
  history : c.add.new.history.items ≡ c.self.inside.history.items ++ Opened c.args.coins ∷ []
  at_end : c.len-entries.result ≡ length c.add.new.history.items
  advances : Advances (view_of c.self.inside) (OpenedValue c.args.coins.items) (view_of (opened_bench c))

ends : (c : goal.After-self-3-1) → Ends c
ends c =
    let b = c.self.inside in
    let b' = opened_bench c in
    let is : c.add.new.history.items ≡ b.history.items ++ Opened c.args.coins ∷ [] = c.add.ensures.items
    ∙ ap (λ es. es ++ Opened c.args.coins ∷ []) c.reserve.ensures.items in
    let at_end : c.len-entries.result ≡ length c.add.new.history.items = omega arith in
    let opens : Opens b b' c.args.coins.items c.args.coins = record {
      fit = search rules;
      shut = search rules;
      nodes = c.put.ensures.nodes ∙ (ap (nodes_left c.in_ok-prepared.prepared.changed) (sym c.deref.ensures.value)
          ∙ (c.in_ok-prepared.ensures.nodes ∙ rw (
            c.deref.ensures.value,
            c.deref-5.ensures.value,
            staged_slice b.history.items
                b.staged_from,
          ) refl));
      kept = ap Some (c.in_ok-kept.ensures ∙ c.deref-6.ensures.value);
      enters = refl;
      history = is;
      from = at_end;
    } in
    record {
      history = is;
      at_end = at_end;
      advances = opened_advances b b' c.args.coins.items c.args.coins opens refl refl refl refl refl;
    }

pub invariant_of-self-2 : goal.invariant_of-self-2
invariant_of-self-2 c =
    let b = c.self.inside in
    let last = c in
    let b' = opened_bench last in
    let e = ends last in
    let at_end = e.at_end in
    let few : length (view_of b).history + 2 ≤ MAX_ENTRIES = subst
    (λ (v : BenchValue). length v.history + 2 ≤ MAX_ENTRIES) (sym c.self.view_is) c.requires.room in
    let kept = c.self.invariant in
    let longer = length_push b.history.items c.add.new.history.items (Opened c.args.coins) e.history in
    let ok : vec_len c.reserve.new.self + 2 ≤ vec_capacity c.reserve.new.self = search rules in
    let places = places_seen b' in
    let flags : KnowsClock b.clock c.put.new.nodes.items c.put.new.flags.items = rw
    (c.put.ensures.nodes, c.put.ensures.flags, sym c.deref.ensures.value, sym c.deref-3.ensures.value)
    c.in_ok-prepared.ensures.flags in
    let firsts : KnowsFirsts c.put.new.nodes.items c.put.new.firsts.items = rw
    (c.put.ensures.nodes, c.put.ensures.firsts, sym c.deref.ensures.value, sym c.deref-4.ensures.value)
    c.in_ok-prepared.ensures.firsts in
    kept_step b b' (OpenedValue c.args.coins.items) kept tt e.advances kept.same flags firsts kept.spare
    (omega arith) (λ h. omega arith) (omega (arith, at_end))
    (omega (arith, longer, places, few, length-map b.history.items entry_of))
    (omega (arith, longer, places, c.add.ensures.capacity, c.reserve.ensures.len, ok))

pub returns-clause-ok : goal.returns-clause-ok
returns-clause-ok c =
    let last = c in
    as_seen c.args.self.now c.self.inside (opened_bench last) (OpenedValue c.args.coins.items) c.self.view_is
    (ends last).advances

pub returns-clause-tasks : goal.returns-clause-tasks
returns-clause-tasks c = λ hands_out.
    let b = c.self.inside in
    let last = c in
    let b' = opened_bench last in
    let changed = c.in_ok-prepared.prepared.changed in
    let left : nodes_left changed c.deref.result.now ≡ c.put.new.nodes.items = ap (nodes_left changed)
    c.deref.ensures.value ∙ sym c.put.ensures.nodes in
    c.in_ok-prepared.ensures.tasks hands_out
    ∙ (ap (tasks_from (view_of b).setup b.mail c.deref-2.result.now b.opened 0) left
    ∙ (ap (λ (n : ℕ). tasks_from (view_of b).setup b.mail c.deref-2.result.now n 0 c.put.new.nodes.items)
    c.self.invariant.opened
    ∙ (ap (λ (cs : List ℕ). tasks_from (view_of b).setup b.mail cs (openings (view_of b).history) 0
    c.put.new.nodes.items) c.deref-2.ensures.value
    ∙ tasks_made (view_of b) (view_of b') c.args.coins.items (ends last).advances)))
