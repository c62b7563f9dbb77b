use Rattle.std.proofs.Common.{◌≡◌, ◌<◌, ◌+◌, ◌*◌, ◌∙◌, ℕ, [], IsTrue, List, Option, Some, Vec, sym, ap, subst, refl, arith}
use Rattle.std.specs.Prelude.{option_map, unwrap_or}
use Rattle.std.specs.declared.alloc.Global.{Global}
use Rattle.bench_core.specs.State.{State, coins_of, node_at}
use Rattle.bpf_machine.specs.Run.{End}
use Rattle.bpf_verify.specs.Accepted.{Accepted}
use Rattle.bench_core.specs.declared.bench.Bench.TheInside.{Inside}
use Rattle.bench_core.specs.declared.found.Found.{Found}
use Rattle.bench_core.specs.Headline.{IsWhole}
use Rattle.bench_core.specs.Settled.{faulty_count}
use Rattle.bench_core.specs.Setup.{HasRuleClock}
use Rattle.bench_core.specs.Replay.{BenchValue}
use Rattle.bench_core.specs.Tasks.{Done}
use Rattle.bench_core.specs.Told.{AreSteps}
use Rattle.bench_core.specs.inner.Kept.{view_of}
use Rattle.bench_core.specs.inner.Served.{AreServed}
use Rattle.bench_core.proofs.Opening.{sound_of, all_fit}
use Rattle.bench_core.proofs.Closed.{coins_fit}
use Rattle.bench_core.proofs.Served.{are_steps, served_at}
use Rattle.bench_core.proofs.bench.Bench.run_and_close.Goals as goal

pub run_nodes-requires-clause-parts : goal.run_nodes-requires-clause-parts
run_nodes-requires-clause-parts c =
    let b = c.self.inside in
    let sound = sound_of b c.self.invariant in
    record {
      count = rw c.deref.ensures.value sound.nodes;
      nodes = rw c.deref.ensures.value (all_fit (view_of b).setup (view_of b).state sound);
      mail = sound.mail;
      coins = rw c.deref-2.ensures.value (coins_fit (view_of b).setup b.coins c.in-Some.coins c.in-Some.is sound.coins);
    }

pub run_nodes-requires-clause-firsts : goal.run_nodes-requires-clause-firsts
run_nodes-requires-clause-firsts c = rw (c.deref.ensures.value, c.deref-3.ensures.value) c.self.invariant.firsts

pub make_room-requires : goal.make_room-requires
make_room-requires c =
    let count = (sound_of c.self.inside c.self.invariant).nodes in
    rw c.deref-4.ensures.value (omega (arith, count, c.self.invariant.setup.extent.few))

-- the results that were run serve the bench's nodes, in lists that are equal to its own
served_own : (b : Inside) (p : State) (coins : Vec ℕ Global) (cs : List ℕ) (ds dones : List Done) (found : List Found)
    → p.nodes ≡ b.nodes.items → p.mail ≡ b.mail → b.coins ≡ Some coins → cs ≡ coins.items → ds ≡ dones
    → AreServed (view_of b).setup p cs ds found
    → AreServed (view_of b).setup (view_of b).state (coins_of (view_of b).state) dones found
served_own b p coins cs ds dones found nodes mail is same given h =
    served_at (view_of b).setup p (view_of b).state cs (coins_of (view_of b).state) ds dones found nodes mail
    (same ∙ sym (ap (λ (o : Option (Vec ℕ Global)). unwrap_or (option_map (λ v. v.items) o) []) is)) given h

pub finish-told-requires-clause-served : goal.finish-told-requires-clause-served
finish-told-requires-clause-served c =
    served_own c.self.inside _ c.in-Some.coins c.deref-2.result.now c.run_nodes.new.runs.dones.items
    c.deref-6.result.now c.run_nodes.new.found c.deref.ensures.value refl c.in-Some.is c.deref-2.ensures.value
    (sym (c.deref-6.ensures.value ∙ ap (λ (v : Vec Done Global). v.items) c.replace-dones.ensures.value))
    c.in_ok-run_nodes.ensures

pub returns-clause-steps : goal.returns-clause-steps
returns-clause-steps c =
    let b = c.self.inside in
    let served = served_own b _ c.in-Some.coins c.deref-2.result.now c.run_nodes.new.runs.dones.items
    c.deref-5.result.now c.run_nodes.new.found c.deref.ensures.value refl c.in-Some.is c.deref-2.ensures.value
    (sym (c.deref-5.ensures.value ∙ ap (λ (v : Vec Done Global). v.items) c.replace-dones.ensures.value))
    c.in_ok-run_nodes.ensures in
    subst (λ (w : BenchValue). AreSteps w.setup w.state (coins_of w.state) c.in_ok-steps.steps.items) c.self.view_is
    (are_steps (view_of b).setup (view_of b).state (coins_of (view_of b).state) c.deref-5.result.now
    c.run_nodes.new.found c.in_ok-steps.steps.items served (c.in_ok-steps.ensures.count ∙ c.nodes.ensures.value)
    (λ i lt. c.in_ok-steps.ensures.each i (omega (arith, lt, c.nodes.ensures.value))))

pub returns-clause-headline : goal.returns-clause-headline
returns-clause-headline c =
    let b = view_of c.self.inside in
    subst (λ (w : BenchValue). (i : ℕ) (p : Accepted) → i < w.setup.shape.nodes
    → (node_at w.state.nodes i).program ≡ Some p
    → (end : End) × IsWhole w.setup w.state (view_of c.self-2.inside).state i p end) c.self.view_is
    (subst (λ (v : BenchValue). (i : ℕ) (p : Accepted) → i < b.setup.shape.nodes
    → (node_at b.state.nodes i).program ≡ Some p
    → (end : End) × IsWhole b.setup b.state v.state i p end) (sym c.self-2.view_is) c.finish-told.ensures.headline)

pub returns-clause-agrees : goal.returns-clause-agrees
returns-clause-agrees c =
    let b = view_of c.self.inside in
    subst (λ (w : BenchValue). HasRuleClock w.setup
    → 2 * w.setup.faults + faulty_count w.state (view_of c.self-2.inside).state < w.setup.shape.nodes
    → IsTrue c.finish-told.result.told.agree) c.self.view_is
    (subst (λ (v : BenchValue). HasRuleClock b.setup
    → 2 * b.setup.faults + faulty_count b.state v.state < b.setup.shape.nodes
    → IsTrue c.finish-told.result.told.agree) (sym c.self-2.view_is) c.finish-told.ensures.agrees)
