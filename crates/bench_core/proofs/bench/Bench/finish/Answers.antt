use Rattle.std.proofs.Common.{◌≡◌, ◌+◌, ℕ, [], ◌∷◌, ◌++◌, map, length, ◌*◌, IsTrue, Option, None, Some, Vec, ◌<◌, ◌≤◌, is_some, cond, refl, sym, ap, ◌∙◌, subst, arith}
use Rattle.std.specs.Prelude.{IsSome, option_map}
use Rattle.std.specs.Vec.{with_items}
use Rattle.std.specs.declared.alloc.Global.{Global}
use Rattle.bench_core.specs.declared.bench.Bench.TheInside.{Inside}
use Rattle.bench_core.specs.declared.entry.Entry.TheVariants.{Closed}
use Rattle.bench_core.specs.State.{Node, node_at, coins_of}
use Rattle.bench_core.specs.Setup.{HasRuleClock}
use Rattle.bench_core.specs.Pulse.{Pulse}
use Rattle.bench_core.specs.Settled.{settled_flags, faulty_count}
use Rattle.bench_core.specs.Told.{Row, PulseTold, IsRecord, row_from, told_clock}
use Rattle.bench_core.specs.Headline.{IsWhole}
use Rattle.bench_core.specs.inner.Found.{found_at}
use Rattle.bench_core.specs.inner.Nodes.{KnowsClock, KnowsFirsts}
use Rattle.bpf_machine.specs.Run.{End}
use Rattle.bpf_verify.specs.Accepted.{Accepted}
use Rattle.bench_core.specs.inner.Told.{both_marked}
use Rattle.bench_core.specs.Replay.{Closed as ClosedValue, BenchValue, Advances, rows_of}
use Rattle.bench_core.specs.inner.Kept.{view_of}
use Rattle.bench_core.proofs.Kept.{kept_step, as_seen, length_push, places_seen}
use Rattle.bench_core.proofs.Sound.{sound_pulse}
use Rattle.bench_core.proofs.Telling.{both_settled}
use Rattle.bench_core.proofs.Closing.{closed_state}
use Rattle.bench_core.proofs.Replays.{rows_count}
use Rattle.bench_core.proofs.Agreement.{agreement}
use Rattle.bench_core.proofs.WholeRuns.{whole_run}
use Rattle.bench_core.proofs.Opening.{sound_of, accepted_of}
use Rattle.bench_core.proofs.Closed.{knows_after, small_clocks, enough_memory, few_pulses, is_record, closed_advances}
use Rattle.bench_core.proofs.Served.{ClosesServed, closes_served, firsts_after, fits_served, served_seen, steps_served}
use Rattle.bench_core.proofs.bench.Bench.finish.Goals as goal

pub close_nodes-requires-clause-nodes : goal.close_nodes-requires-clause-nodes
close_nodes-requires-clause-nodes c = ap length c.deref_mut.ensures.value
    ∙ ((sound_of c.self.inside c.self.invariant).nodes ∙ sym c.nodes-count.ensures.value)

pub close_nodes-requires-clause-flags : goal.close_nodes-requires-clause-flags
close_nodes-requires-clause-flags c = ap length c.deref.ensures.value
    ∙ (c.self.invariant.flags.count ∙ ((sound_of c.self.inside c.self.invariant).nodes
    ∙ sym c.nodes-count.ensures.value))

pub close_nodes-requires-clause-found : goal.close_nodes-requires-clause-found
close_nodes-requires-clause-found c =
    rw c.nodes-count.ensures.value
    (subst (λ (v : BenchValue). v.setup.shape.nodes ≤ length c.args.found.now) (sym c.self.view_is) c.requires.found)

pub close_nodes-requires-clause-fits : goal.close_nodes-requires-clause-fits
close_nodes-requires-clause-fits c =
    let b = c.self.inside in
    let served = served_seen b c.args.self.now c.args.dones.now c.args.found.now c.self.view_is c.requires.served in
    rw (c.deref_mut.ensures.value, c.nodes-count.ensures.value)
    (λ i lt. fits_served (view_of b).setup (view_of b).state (coins_of (view_of b).state) c.args.dones.now i
    (sound_of b c.self.invariant) served.fit lt (found_at c.args.found.now i) (served.each i lt))

-- ---- the nodes are closed

closing : (c : goal.After-swap) → ClosesServed c.self.inside c.args.dones.now c.args.found.now c.close_nodes.new.nodes
    c.close_nodes.new.mail
closing c =
    closes_served c.self.inside c.args.self.now c.deref_mut.result.now c.deref.result.now c.args.dones.now
    c.args.found.now c.close_nodes.new.nodes c.close_nodes.new.mail c.nodes-count.result c.self.invariant
    c.self.view_is (c.requires.open, c.requires.served)
    (c.deref_mut.ensures.value, c.deref.ensures.value, c.nodes-count.ensures.value)
    (c.close_nodes.auto.nodes, c.close_nodes.ensures.mail, c.close_nodes.ensures.left)

pub overflow_add-number : goal.overflow_add-number
overflow_add-number c =
    let kept = c.self.invariant in
    let x = closing c in
    let few = few_pulses (view_of c.self.inside) _ kept.setup kept.replays kept.limit x.pulse in
    omega (arith, few)

-- ---- what is told of them

closing_told : (c : goal.After-deref-2) → ClosesServed c.self.inside c.args.dones.now c.args.found.now c.close_nodes.new.nodes
    c.close_nodes.new.mail
closing_told c =
    closes_served c.self.inside c.args.self.now c.deref_mut.result.now c.deref.result.now c.args.dones.now
    c.args.found.now c.close_nodes.new.nodes c.close_nodes.new.mail c.nodes-count.result c.self.invariant
    c.self.view_is (c.requires.open, c.requires.served)
    (c.deref_mut.ensures.value, c.deref.ensures.value, c.nodes-count.ensures.value)
    (c.close_nodes.auto.nodes, c.close_nodes.ensures.mail, c.close_nodes.ensures.left)

pub tell-told-requires-clause-last : goal.tell-told-requires-clause-last
tell-told-requires-clause-last c =
    let kept = c.self.invariant in
    let x = closing_told c in
    few_pulses (view_of c.self.inside) _ kept.setup kept.replays kept.limit x.pulse

pub tell-told-requires-clause-few : goal.tell-told-requires-clause-few
tell-told-requires-clause-few c =
    let x = closing_told c in
    let nodes : c.deref-2.result.now ≡ c.close_nodes.new.nodes = c.deref-2.ensures.value ∙ x.items in
    rw nodes (omega (arith, x.count, c.self.invariant.setup.extent.few))

pub tell-told-requires-clause-memory : goal.tell-told-requires-clause-memory
tell-told-requires-clause-memory c =
    let b = c.self.inside in
    let kept = c.self.invariant in
    let x = closing_told c in
    let nodes : c.deref-2.result.now ≡ c.close_nodes.new.nodes = c.deref-2.ensures.value ∙ x.items in
    let after = closed_state (view_of b).state c.close_nodes.new.nodes c.close_nodes.new.mail in
    rw nodes (enough_memory (view_of b).setup after kept.setup
    (sound_pulse (view_of b).setup (view_of b).state after kept.setup (sound_of b kept) x.pulse))

pub tell-told-requires-clause-small : goal.tell-told-requires-clause-small
tell-told-requires-clause-small c =
    let b = c.self.inside in
    let kept = c.self.invariant in
    let x = closing_told c in
    let nodes : c.deref-2.result.now ≡ c.close_nodes.new.nodes = c.deref-2.ensures.value ∙ x.items in
    let marks : c.args.room.settled ≡ map (λ x. x.mark) b.nodes.items =
    c.requires.settled
    ∙ ap (λ (v : BenchValue). map (λ (x : Node). x.mark) v.state.nodes) (sym c.self.view_is) in
    rw (c.modulus-modulus.ensures.value, nodes) (small_clocks (view_of b).setup (view_of b).state
    (closed_state (view_of b).state c.close_nodes.new.nodes c.close_nodes.new.mail)
    c.args.room.settled kept.setup (sound_of b kept) x.pulse marks)

-- ---- the bench at the end

closing_end : (c : goal.After-add) → ClosesServed c.self.inside c.args.dones.now c.args.found.now c.close_nodes.new.nodes
    c.close_nodes.new.mail
closing_end c =
    closes_served c.self.inside c.args.self.now c.deref_mut.result.now c.deref.result.now c.args.dones.now
    c.args.found.now c.close_nodes.new.nodes c.close_nodes.new.mail c.nodes-count.result c.self.invariant
    c.self.view_is (c.requires.open, c.requires.served)
    (c.deref_mut.ensures.value, c.deref.ensures.value, c.nodes-count.ensures.value)
    (c.close_nodes.auto.nodes, c.close_nodes.ensures.mail, c.close_nodes.ensures.left)

abbrev closed_bench : goal.After-add → Inside
closed_bench c = record c.self.inside {
  nodes = with_items c.self.inside.nodes c.close_nodes.new.nodes;
  mail = c.swap.new.x;
  spare = c.swap.new.y;
  closed = c.self.inside.closed + 1;
  coins = c.replace.new.dest;
  history = c.add.new.history;
}

record Ends (c : goal.After-add) : Type 0 where
  settled : both_marked c.args.room.settled c.deref-2.result.now
      ≡ settled_flags c.self.inside.nodes.items (closed_bench c).nodes.items
  row : c.tell-told.result.row ≡ row_from c.self.inside.rule.modulus (c.self.inside.closed + 1)
      (settled_flags c.self.inside.nodes.items (closed_bench c).nodes.items) (closed_bench c).nodes.items
  entered : c.add.new.history.items ≡ c.self.inside.history.items ++ Closed c.tell-told.result.row ∷ []
  advances : Advances (view_of c.self.inside) (ClosedValue c.tell-told.result.row) (view_of (closed_bench c))

ends : (c : goal.After-add)
    → ClosesServed c.self.inside c.args.dones.now c.args.found.now c.close_nodes.new.nodes
    c.close_nodes.new.mail → Ends c
ends c x =
    let b = c.self.inside in
    let b' = closed_bench c in
    let items = x.items in
    let nodes : c.deref-2.result.now ≡ c.close_nodes.new.nodes = c.deref-2.ensures.value ∙ items in
    let marks : c.args.room.settled ≡ map (λ x. x.mark) b.nodes.items =
    c.requires.settled
    ∙ ap (λ (v : BenchValue). map (λ (x : Node). x.mark) v.state.nodes) (sym c.self.view_is) in
    let both = both_settled b.nodes.items c.close_nodes.new.nodes in
    let row : c.tell-told.result.row ≡ row_from b.rule.modulus (b.closed + 1)
    (settled_flags b.nodes.items b'.nodes.items) b'.nodes.items = c.tell-told.ensures.row
    ∙ rw (c.modulus-modulus.ensures.value, items, nodes, marks, both) refl in
    let pulse : Pulse (view_of b).setup (view_of b).state (closed_state (view_of b).state b'.nodes.items b'.mail) = rw
    (items, c.swap.ensures.x_after) x.pulse in
    let entered : c.add.new.history.items ≡ b.history.items ++ Closed c.tell-told.result.row ∷ [] = c.add.ensures.items
    ∙ ap (λ (t : PulseTold). b.history.items ++ Closed t.row ∷ []) c.told.view_is in
    record {
      settled = rw (items, nodes, marks, both) refl;
      row = row;
      entered = entered;
      advances = closed_advances b b' c.tell-told.result.row c.self.invariant pulse row entered refl refl refl refl refl
          c.replace.ensures.after;
    }

record_is : (c : goal.After-add)
    → ClosesServed c.self.inside c.args.dones.now c.args.found.now c.close_nodes.new.nodes
    c.close_nodes.new.mail → Ends c
    → IsRecord (view_of c.self.inside).setup (view_of c.self.inside).state (view_of (closed_bench c)).state
    c.tell-told.result
record_is c x e =
    let b = c.self.inside in
    let kept = c.self.invariant in
    is_record (view_of b).setup (view_of b).history (view_of b).state (view_of (closed_bench c)).state
    c.tell-told.result kept.setup kept.replays e.advances.step.0 (record {
      row = e.row;
      clocks = c.tell-told.ensures.clocks ∙ ap (map told_clock) c.deref-2.ensures.value;
      settled = c.tell-told.ensures.settled ∙ e.settled;
      steps = steps_served (view_of b).setup (view_of b).state (coins_of (view_of b).state) c.args.dones.now
          c.args.found.now c.tell-told.result.steps x.served c.tell-told.ensures.steps;
      agree = c.tell-told.ensures.agree;
    })

open_place : (o : Option (Vec ℕ Global)) → IsSome (option_map (λ v. v.items) o) → ◌≡◌ {A = ℕ} (cond (is_some o) 1 0) 1
open_place None h = absurd cc
open_place (Some v) h = refl

pub invariant_of-self : goal.invariant_of-self
invariant_of-self c =
    let b = c.self.inside in
    let kept = c.self.invariant in
    let x = closing_end c in
    let last = c in
    let e = ends last x in
    let b' = closed_bench last in
    let items = x.items in
    let flags : KnowsClock b.clock b'.nodes.items b.flags.items = rw items
    (knows_after (view_of b).setup (view_of b).state
    (closed_state (view_of b).state c.close_nodes.new.nodes c.close_nodes.new.mail) b.clock b.flags.items x.pulse
    kept.flags) in
    let firsts : KnowsFirsts b'.nodes.items b.firsts.items = rw items
    (firsts_after (view_of b).setup (view_of b).state
    (closed_state (view_of b).state c.close_nodes.new.nodes c.close_nodes.new.mail) b.firsts.items x.pulse
    kept.firsts) in
    let longer = length_push b.history.items c.add.new.history.items (Closed c.tell-told.result.row) e.entered in
    let is_open = open_place b.coins
    (subst (λ (v : BenchValue). IsSome v.state.coins) (sym c.self.view_is) c.requires.open) in
    let before = places_seen b in
    let places = places_seen b' in
    let shut : ◌≡◌ {A = ℕ} (cond (is_some b'.coins) 1 0) 0 = ap (λ (o : Option (Vec ℕ Global)). cond (is_some o) 1 0)
    c.replace.ensures.after in
    kept_step b b' (ClosedValue c.tell-told.result.row) kept tt e.advances kept.same flags firsts
    (ap length c.swap.ensures.y_after ∙ (sound_of b kept).mail) (omega arith) (λ h. let none = subst IsSome c.replace.ensures.after h in absurd cc)
    (omega (arith, longer, kept.staged))
    (omega (arith, longer, before, is_open, places, shut, kept.limit))
    (omega (arith, longer, before, is_open, places, shut, kept.room, c.add.ensures.capacity))

-- ---- what it says of itself

pub returns-clause-ok : goal.returns-clause-ok
returns-clause-ok c =
    let last = c in
    let e = ends last (closing_end c) in
    as_seen c.args.self.now c.self.inside (closed_bench last) (ClosedValue c.tell-told.result.row) c.self.view_is
    e.advances

pub returns-clause-headline : goal.returns-clause-headline
returns-clause-headline c =
    let b = c.self.inside in
    let kept = c.self.invariant in
    let last = c in
    let e = ends last (closing_end c) in
    let after = (view_of (closed_bench last)).state in
    subst (λ (v : BenchValue). (i : ℕ) (p : Accepted) → i < v.setup.shape.nodes
    → (node_at v.state.nodes i).program ≡ Some p
    → (end : End) × IsWhole v.setup v.state after i p end) c.self.view_is
    (λ i p lt loaded. whole_run (view_of b).setup (view_of b).state after i p kept.setup
    (sound_of b kept) (accepted_of b kept) e.advances.step.0 lt loaded)

pub returns-clause-record : goal.returns-clause-record
returns-clause-record c =
    let last = c in
    let x = closing_end c in
    let after = (view_of (closed_bench last)).state in
    subst (λ (v : BenchValue). IsRecord v.setup v.state after c.tell-told.result) c.self.view_is
    (record_is last x (ends last x))

pub returns-clause-agrees : goal.returns-clause-agrees
returns-clause-agrees c =
    let b = c.self.inside in
    let kept = c.self.invariant in
    let last = c in
    let x = closing_end c in
    let e = ends last x in
    let after = (view_of (closed_bench last)).state in
    subst (λ (v : BenchValue). HasRuleClock v.setup
    → 2 * v.setup.faults + faulty_count v.state after < v.setup.shape.nodes
    → IsTrue c.tell-told.result.agree) c.self.view_is
    (λ own few. (record_is last x e).agree.1 (agreement (view_of b).setup (view_of b).history (view_of b).state
    after kept.setup own kept.replays e.advances.step.0 few))

pub returns-clause-pulse : goal.returns-clause-pulse
returns-clause-pulse c =
    let b = c.self.inside in
    let last = c in
    let e = ends last (closing_end c) in
    let count = rows_count (view_of b).setup (view_of b).history (view_of b).state c.self.invariant.replays in
    let number : c.tell-told.result.row.pulse ≡ b.closed + 1 = ap (λ (r : Row). r.pulse) e.row in
    subst (λ (v : BenchValue). c.tell-told.result.row.pulse ≡ length (rows_of v.history) + 1) c.self.view_is
    (omega (arith, number, count))
