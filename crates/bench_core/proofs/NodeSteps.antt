-- How many instructions each node ran, by its result.
use Rattle.std.proofs.Common.{◌≡◌, ◌≢◌, ℕ, ◌<◌, List, length, get_or, is_some, inl, inr, sym, ap, ◌∙◌, arith}
use Rattle.std.specs.Prelude.{IsNone, ◌-◌}
use Rattle.std.proofs.lemmas.List.Elements.{All-contains, All-weaker}
use Rattle.bpf_machine.specs.Run.{End}
use Rattle.bench_core.specs.Setup.{Setup}
use Rattle.bench_core.specs.State.{State, node_at, coins_of}
use Rattle.bench_core.specs.Told.{AreSteps, RanTo}
use Rattle.bench_core.specs.Replay.{BenchValue, openings}
use Rattle.bench_core.specs.Tasks.{Done, IsHanded, IsResultOf, IsExact, HandedOut}
use Rattle.bench_core.specs.inner.Steps.{Took, TookAt}
use Rattle.bench_core.proofs.Closed.{ran_of, one_end}

ran_took : (s : Setup) (b : State) (coins : List ℕ) (opening i k : ℕ) (dones : List Done)
    → IsExact (IsHanded s b.nodes b.mail coins opening) b.nodes dones → Took dones i k
    → (one : End) × RanTo s b coins i one × (k ≡ one.steps)
ran_took s b coins opening i k dones exact took =
    let handed = All-contains (λ d. IsHanded s b.nodes b.mail coins opening d.task) dones took.one exact.no_stranger
    took.among in
    (took.one.end, ran_of s b coins opening i took.one handed took.node took.ends, took.steps)

ran_steps : (s : Setup) (b : State) (coins : List ℕ) (opening i k : ℕ) (dones : List Done) (end : End)
    → length b.nodes ≡ s.shape.nodes → IsExact (IsHanded s b.nodes b.mail coins opening) b.nodes dones
    → TookAt dones i k → RanTo s b coins i end → k ≡ end.steps
ran_steps s b coins opening i k dones end whole exact (inl took) ran =
    let that = ran_took s b coins opening i k dones exact took in
    that.2 ∙ sym (ap (λ (e : End). e.steps) (one_end s b coins i end that.0 ran that.1))
ran_steps s b coins opening i k dones end whole exact (inr none) ran =
    absurd (exact.none_missing i (record {
      within = omega (arith, ran.node, whole);
      loaded = ap is_some ran.loaded;
      none = All-weaker (λ d. d.task.node ≢ i) (λ d. IsResultOf (IsHanded s b.nodes b.mail coins opening) i d → ⊥)
          (λ d other result. other result.1) dones none.0;
    }))

rested_steps : (s : Setup) (b : State) (coins : List ℕ) (opening i k : ℕ) (dones : List Done)
    → IsExact (IsHanded s b.nodes b.mail coins opening) b.nodes dones → TookAt dones i k
    → IsNone (node_at b.nodes i).program → k ≡ 0
rested_steps s b coins opening i k dones exact (inl took) rests =
    let that = (ran_took s b coins opening i k dones exact took).1 in
    let loaded = that.loaded in
    absurd cc
rested_steps s b coins opening i k dones exact (inr none) rests = none.1

pub are_steps : (b : BenchValue) (dones : List Done) (steps : List ℕ) → length b.state.nodes ≡ b.setup.shape.nodes
    → IsExact (HandedOut b) b.state.nodes dones → length steps ≡ b.setup.shape.nodes
    → ((i : ℕ) → i < b.setup.shape.nodes → TookAt dones i (get_or steps i 0))
    → AreSteps b.setup b.state (coins_of b.state) steps
are_steps b dones steps whole exact count each = record {
  nodes = count;
  ran = λ i end ran. ran_steps b.setup b.state (coins_of b.state) (openings b.history - 1) i (get_or steps i 0)
      dones end whole exact (each i ran.node) ran;
  rested = λ i within rests. rested_steps b.setup b.state (coins_of b.state) (openings b.history - 1) i
      (get_or steps i 0) dones exact (each i within) rests;
}
