-- What a node runs in a pulse of a scenario.
use Rattle.std.proofs.Common.{◌≡◌, ℕ, zero, suc, ◌<◌, ◌≤◌, List, [], ◌∷◌, ◌++◌, length, map, Option, IfSome, arith, refl, sym, ap, ◌∙◌, subst}
use Rattle.std.specs.Prelude.{Bool, true, false, ◌==◌, if◌then◌else◌, flat_map, slice_index}
use Rattle.std.specs.FinMap.{get}
use Rattle.std.proofs.lemmas.List.{length-map}
use Rattle.node_env.specs.Env.{Setting}
use Rattle.node_env.specs.Slots.{map_of}
use Rattle.bpf_machine.specs.Run.{CompleteRun, End}
use Rattle.bpf_verify.specs.Accepted.{Accepted}
use Rattle.bench_core.specs.Setup.{Setup, IsSetup}
use Rattle.bench_core.specs.State.{Load as LoadChange, State, AreCoins, setting_at}
use Rattle.bench_core.specs.Replay.{BenchValue, Replays}
use Rattle.bench_core.specs.Told.{RanTo}
use Rattle.bench_core.proofs.Sound.{sound_replay}
use Rattle.bench_workers.specs.Events.{Event, Stage, Pulse}
use Rattle.bench_workers.specs.Opening.{OpensPulse, pulses_in}
use Rattle.bench_workers.proofs.OpeningLemmas.{pulses-append}
use Rattle.scenario_text.specs.declared.scenario.Scenario.{Scenario}
use Rattle.bench_scenario.specs.declared.inputs.NodeInput.{NodeInput}
use Rattle.bench_scenario.specs.Coins.{coins_in_pulse, places_below}
use Rattle.bench_scenario.specs.Events.{changes_at, corrupt_events, events_at, events_of, events_to, load_events, unload_events}
use Rattle.bench_scenario.specs.Inputs.{FitsInput, IsInputOf, input_setting}
use Rattle.bench_scenario.specs.Noise.{has_noise, noise_events, noise_of}
use Rattle.bench_scenario.specs.Runs.{bench_of}

-- ---- pulses

-- events without a pulse
abbrev NoPulse : List Event → Type 0
NoPulse es = pulses_in es ≡ 0

none_append : (xs ys : List Event) → NoPulse xs → NoPulse ys → NoPulse (xs ++ ys)
none_append xs ys h g = omega (arith, pulses-append xs ys, h, g)

none_flat : {A : Type 0} (f : A → List Event) (xs : List A) → ((x : A) → NoPulse (f x)) → NoPulse (flat_map f xs)
none_flat f [] each = refl
none_flat f (x ∷ xs) each = none_append (f x) (flat_map f xs) (each x) (none_flat f xs each)

none_if : (b : Bool) (es : List Event) → NoPulse es → NoPulse (if b then es else [])
none_if true es h = h
none_if false es h = refl

none_loads : (program : Accepted) (nodes : List ℕ) → NoPulse (map (λ node. Stage (LoadChange node program)) nodes)
none_loads program [] = refl
none_loads program (node ∷ nodes) = none_loads program nodes

none_changed : (s : Scenario) (p : ℕ) → NoPulse (changes_at s p)
none_changed s p =
    none_append (flat_map (load_events p) s.loads.items) _
    (none_flat (load_events p) s.loads.items (λ l. none_if (l.pulse == p) _ (none_loads l.program l.nodes.items)))
    (none_append (flat_map (unload_events p) s.unloads.items) _
    (none_flat (unload_events p) s.unloads.items (λ u. none_if (u.pulse == p) _ refl))
    (none_flat (corrupt_events p) s.corruptions.items (λ c. none_if (c.pulse == p) _ refl)))

none_noise : (s : Scenario) (p : ℕ) → NoPulse (noise_events s p)
none_noise s p = none_flat (noise_of s p) (places_below s.nodes) (λ i. none_if (has_noise s p i) _ refl)

-- so many pulses as there are
pub pulses_to : (s : Scenario) (n : ℕ) → pulses_in (events_to s n) ≡ n
pulses_to s zero = refl
pulses_to s (suc n) =
    let before = pulses_to s n in
    let changes = none_changed s (suc n) in
    let both = pulses-append (events_to s n) (events_at s (suc n)) in
    let noise = none_noise s (suc n) in
    let rest = pulses-append (changes_at s (suc n)) (noise_events s (suc n) ++ Pulse (coins_in_pulse s (suc n)) ∷ []) in
    let last = pulses-append (noise_events s (suc n)) (Pulse (coins_in_pulse s (suc n)) ∷ []) in
    omega arith

pub last_there : (s : Scenario) (es : List Event) (pulse : ℕ) → es ≡ events_of s → pulse ≤ s.pulses
    → pulse ≤ pulses_in es
last_there s es pulse listed last =
    let whole = pulses_to s s.pulses in
    let same : pulses_in es ≡ pulses_in (events_of s) = ap pulses_in listed in
    omega arith

-- ---- the pulse that is opened

pub opened_met : (s : Scenario) (bench : Setup) (es : List Event) (pulse : ℕ) (coins : List ℕ) (b : State)
    → bench ≡ bench_of s → es ≡ events_of s → OpensPulse bench es pulse coins b
    → OpensPulse (bench_of s) (events_of s) pulse coins b
opened_met s bench es pulse coins b same listed opened =
    subst (λ (e : List Event). OpensPulse (bench_of s) e pulse coins b) listed
    (subst (λ (t : Setup). OpensPulse t es pulse coins b) same opened)

-- what its node runs has the shape of the bench
pub fits_so : (b : BenchValue) (coins : List ℕ) (node : ℕ) (x : NodeInput) → IsSetup b.setup
    → Replays b.setup b.history b.state → node < b.setup.shape.nodes → AreCoins b.setup.shape coins
    → IsInputOf b.state coins node x → FitsInput b.setup.shape node x
fits_so b coins node x ok replays low fit is =
    let sound = sound_replay b.setup b.history b.state ok replays in
    let small : slice_index coins node < 2 = fit.1 node 0 (rw fit.0 low) in
    record {
      id = low;
      program = subst (λ (o : Option Accepted). IfSome o (λ p. p.shape ≡ b.setup.shape)) is.program
          (sound.programs node low);
      memory = ap length is.memory ∙ (sound.memories node low).length;
      heard = ap length is.heard ∙ (length-map b.state.mail (λ row. get row node) ∙ sound.mail);
      coin = subst (λ (c : ℕ). c < 2) (sym is.coin) small;
    }

-- ---- what its program sees

pub sees : (s : Setup) (b : State) (coins : List ℕ) (node : ℕ) (x : NodeInput) → IsInputOf b coins node x
    → input_setting s.shape node x ≡ setting_at s b.mail coins node
sees s b coins node x is =
    λ k. record { shape = s.shape; id = node; inbox = map_of (is.heard k); coin = is.coin k }

-- its complete run is that of which the pulse tells the steps
pub ran_so : (s : Setup) (b : State) (coins : List ℕ) (node : ℕ) (x : NodeInput) (end : End)
    → IsInputOf b coins node x → FitsInput s.shape node x
    → CompleteRun x.program.program (input_setting s.shape node x) x.memory.items end → RanTo s b coins node end
ran_so s b coins node x end is fits run = record {
  program = x.program;
  node = fits.id;
  loaded = is.program;
  run = subst (λ (m : List ℕ). CompleteRun x.program.program (setting_at s b.mail coins node) m end) is.memory
      (subst (λ (e : Setting). CompleteRun x.program.program e x.memory.items end) (sees s b coins node x is) run);
}
