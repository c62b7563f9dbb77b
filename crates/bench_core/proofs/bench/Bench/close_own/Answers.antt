use Rattle.std.proofs.Common.{◌≡◌, ◌<◌, ◌-◌, ℕ, Some, [], List, Option, Vec, sym, ap, subst, arith}
use Rattle.std.specs.Prelude.{option_map, unwrap_or}
use Rattle.std.specs.declared.alloc.Global.{Global}
use Rattle.bench_core.specs.State.{node_at, coins_of}
use Rattle.bpf_machine.specs.Run.{End}
use Rattle.bpf_verify.specs.Accepted.{Accepted}
use Rattle.bench_core.specs.Headline.{IsWhole}
use Rattle.bench_core.specs.Replay.{BenchValue}
use Rattle.bench_core.specs.Tasks.{Done}
use Rattle.bench_core.specs.inner.Kept.{view_of}
use Rattle.bench_core.specs.inner.Served.{AreServed}
use Rattle.bench_core.proofs.Opening.{sound_of, all_fit}
use Rattle.bench_core.proofs.Closed.{sorted_at, coins_fit, exact_at}
use Rattle.bench_core.proofs.Served.{sorted_served}
use Rattle.bench_core.proofs.bench.Bench.close_own.Goals as goal

pub place_results-found-requires-clause-parts : goal.place_results-found-requires-clause-parts
place_results-found-requires-clause-parts c =
    let b = c.self.inside in
    let sound = sound_of b c.self.invariant in
    record {
      count = rw c.deref.ensures.value sound.nodes;
      nodes = rw c.deref.ensures.value (all_fit (view_of b).setup (view_of b).state sound);
      mail = sound.mail;
      coins = rw c.deref-2.ensures.value (coins_fit (view_of b).setup b.coins c.in-Some.coins c.in-Some.is sound.coins);
    }

pub place_results-found-requires-clause-handed : goal.place_results-found-requires-clause-handed
place_results-found-requires-clause-handed c =
    (exact_at c.self.inside c.args.self.now c.in-Some.coins c.deref.result.now c.deref-2.result.now c.deref-3.result.now
    c.args.dones.items c.self.invariant c.self.view_is c.in-Some.is
    c.deref.ensures.value c.deref-2.ensures.value c.deref-3.ensures.value c.requires.exact).no_stranger

pub make_room-requires : goal.make_room-requires
make_room-requires c =
    let count = (sound_of c.self.inside c.self.invariant).nodes in
    rw c.deref-4.ensures.value (omega (arith, count, c.self.invariant.setup.extent.few))

pub finish-told-requires-clause-served : goal.finish-told-requires-clause-served
finish-told-requires-clause-served c =
    let b = c.self.inside in
    let s = (view_of b).setup in
    let sorted = sorted_at s c.deref.result.now b.nodes.items b.mail c.deref-2.result.now
    c.in-Some.coins.items (b.opened - 1) c.deref-3.result.now c.args.dones.items c.place_results-found.result
    c.deref.ensures.value c.deref-2.ensures.value c.deref-3.ensures.value c.place_results-found.ensures.found
    c.place_results-found.ensures.ends
    (exact_at c.self.inside c.args.self.now c.in-Some.coins c.deref.result.now c.deref-2.result.now
    c.deref-3.result.now c.args.dones.items c.self.invariant c.self.view_is c.in-Some.is
    c.deref.ensures.value c.deref-2.ensures.value c.deref-3.ensures.value c.requires.exact) in
    let served = sorted_served s (view_of b).state c.in-Some.coins.items (b.opened - 1) c.args.dones.items
    c.place_results-found.result (sound_of b c.self.invariant).nodes sorted in
    let coins : c.in-Some.coins.items ≡ coins_of (view_of b).state =
    sym (ap (λ (o : Option (Vec ℕ Global)). unwrap_or (option_map (λ v. v.items) o) []) c.in-Some.is) in
    let mine = subst (λ (ns : List ℕ). AreServed s (view_of b).state ns c.args.dones.items
    c.place_results-found.result) coins served in
    let seen = subst (λ (v : BenchValue). AreServed v.setup v.state (coins_of v.state) c.args.dones.items
    c.place_results-found.result) c.self.view_is mine in
    subst (λ (ds : List Done). AreServed c.args.self.now.setup c.args.self.now.state
    (coins_of c.args.self.now.state) ds c.place_results-found.result) (sym c.deref-5.ensures.value) seen

pub returns-clause-headline : goal.returns-clause-headline
returns-clause-headline c =
    let before = c.args.self.now in
    subst (λ (v : BenchValue). (i : ℕ) (p : Accepted) → i < before.setup.shape.nodes
    → (node_at before.state.nodes i).program ≡ Some p
    → (end : End) × IsWhole before.setup before.state v.state i p end) (sym c.self-2.view_is)
    c.finish-told.ensures.headline
