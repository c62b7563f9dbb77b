-- The events of a scenario that was read fit its bench.
use Rattle.std.proofs.Common.{◌≡◌, ℕ, zero, suc, ◌+◌, ◌-◌, ◌*◌, ◌<◌, List, [], ◌∷◌, ◌++◌, length, map, ap, arith, refl, sym, subst}
use Rattle.std.specs.Prelude.{Bool, ◌==◌, ◌&&◌, if◌then◌else◌, true, false, flat_map, All, unwrap_or}
use Rattle.std.proofs.lemmas.List.Elements.{All-append}
use Rattle.bpf_verify.specs.Accepted.{Accepted}
use Rattle.bench_core.specs.State.{AreCoins, Load as LoadChange, Unload as UnloadChange, Corrupt as CorruptChange}
use Rattle.bench_core.specs.Setup.{Setup}
use Rattle.bench_workers.specs.Events.{Event, Stage, Pulse}
use Rattle.scenario_text.specs.declared.scenario.Coins.{Coins}
use Rattle.scenario_text.specs.declared.scenario.Coins.TheVariants.{Zeros, Ones, Chacha}
use Rattle.scenario_text.specs.declared.scenario.CoinEntry.{CoinEntry}
use Rattle.scenario_text.specs.declared.scenario.Load.{Load}
use Rattle.scenario_text.specs.declared.scenario.Unload.{Unload}
use Rattle.scenario_text.specs.declared.scenario.Corrupt.{Corrupt}
use Rattle.scenario_text.specs.declared.scenario.Scenario.{Scenario}
use Rattle.scenario_text.specs.Texts.{ReadsText}
use Rattle.scenario_text.specs.Views.{FitsLoad, corrupt_of, frame_of, load_draft}
use Rattle.scenario_text.proofs.EntryLemmas.{Each, HasCoin, HasImage, HasNode, HasNodes, coins_there, corruptions_there, loads_fit, loads_there, unloads_there}
use Rattle.bench_scenario.specs.Coins.{coin_of, coins_in_pulse, drawn, keyed, places_below, replaced}
use Rattle.bench_scenario.specs.Events.{changes_at, corrupt_events, events_at, events_of, events_to, load_events, unload_events}
use Rattle.bench_scenario.specs.Noise.{has_noise, noise_events, noise_of, noise_program}
use Rattle.bench_scenario.specs.Runs.{bench_of}
use Rattle.bench_scenario.proofs.CoinLemmas.{places_length}
use Rattle.bench_scenario.proofs.ListLemmas.{map_more}
use Rattle.bench_scenario.proofs.FitLemmas.{Fits, each_append, each_flat, each_map}

-- ---- coins

drawn_below : (coins : Coins) (key place : ℕ) → drawn coins key place < 2
drawn_below Zeros key place = omega arith
drawn_below Ones key place = omega arith
drawn_below Chacha key place = omega arith

chosen_below : (b : Bool) (m n : ℕ) → m < 2 → n < 2 → (if b then m else n) < 2
chosen_below true m n first second = first
chosen_below false m n first second = second

replaced_below : (es : List CoinEntry) (pulse node coin : ℕ) → Each HasCoin es → coin < 2
    → replaced es pulse node coin < 2
replaced_below [] pulse node coin each below = below
replaced_below (e ∷ es) pulse node coin each below =
    replaced_below es pulse node (if (e.pulse == pulse) && (e.node == node) then e.value else coin) each.1
    (chosen_below ((e.pulse == pulse) && (e.node == node)) e.value coin each.0 below)

coin_below : (s : Scenario) (pulse node : ℕ) → Each HasCoin s.entries.items → coin_of s pulse node < 2
coin_below s pulse node each = replaced_below s.entries.items pulse node _ each
    (drawn_below s.coins (unwrap_or s.key 0) ((pulse - 1) * s.nodes + node))

one_below : (coin : ℕ) → coin < 2 → All (λ c. c < 2) (coin ∷ [])
one_below coin below zero d within = below
one_below coin below (suc k) d within = absurd (omega arith)

coins_below : (f : ℕ → ℕ) (n : ℕ) → ((i : ℕ) → f i < 2) → All (λ c. c < 2) (map f (places_below n))
coins_below f zero below = λ k d within. absurd (omega arith)
coins_below f (suc n) below =
    subst (All (λ c. c < 2)) (sym (map_more f (places_below n) n))
    (All-append (λ c. c < 2) (map f (places_below n)) (f n ∷ []) (coins_below f n below) (one_below (f n) (below n)))

pulse_fits : (s : Scenario) (pulse : ℕ) → Each HasCoin s.entries.items → AreCoins (bench_of s).shape (coins_in_pulse s pulse)
pulse_fits s pulse each = (
  places_length (coin_of s pulse) s.nodes,
  coins_below (coin_of s pulse) s.nodes
      (λ node. coin_below s pulse node each),
)

-- ---- changes

load_fits : (s : Setup) (program : Accepted) (node : ℕ) → program.shape ≡ s.shape → node < s.shape.nodes
    → Fits s (Stage (LoadChange node program))
load_fits s program node shape there = (λ bad. absurd (omega arith), λ other. other.1 shape, λ bad. bad.1)

unload_fits : (s : Setup) (node : ℕ) → node < s.shape.nodes → Fits s (Stage (UnloadChange node))
unload_fits s node there = (λ bad. absurd (omega arith), λ other. other.1, λ bad. bad.1)

corrupt_fits : (s : Setup) (node : ℕ) (image : List ℕ) → node < s.shape.nodes → length image ≡ s.shape.memory
    → Fits s (Stage (CorruptChange node image))
corrupt_fits s node image there whole = (λ bad. absurd (omega arith), λ other. other.1, λ bad. bad.1 whole)

each_if : (s : Setup) (b : Bool) (es : List Event) → Each (Fits s) es → Each (Fits s) (if b then es else [])
each_if s true es each = each
each_if s false es each = tt

-- what is asked of a load
abbrev LoadThere : Scenario → Load → Type 0
LoadThere s l = HasNodes (frame_of s) (load_draft l) × FitsLoad (frame_of s) l

both : (s : Scenario) (ls : List Load) → Each (λ (l : Load). HasNodes (frame_of s) (load_draft l)) ls
    → Each (FitsLoad (frame_of s)) ls → Each (LoadThere s) ls
both s [] there fit = tt
both s (l ∷ ls) there fit = ((there.0, fit.0), both s ls there.1 fit.1)

loads_fit_at : (s : Scenario) (p : ℕ) (l : Load) → LoadThere s l → Each (Fits (bench_of s)) (load_events p l)
loads_fit_at s p l there =
    each_if (bench_of s) (l.pulse == p) (map (λ node. Stage (LoadChange node l.program)) l.nodes.items)
    (each_map (Fits (bench_of s)) (λ n. n < s.nodes) (λ node. Stage (LoadChange node l.program)) l.nodes.items
    (λ node below. load_fits (bench_of s) l.program node there.1.0 below) there.0)

unloads_fit_at : (s : Scenario) (p : ℕ) (u : Unload) → HasNode (frame_of s) u
    → Each (Fits (bench_of s)) (unload_events p u)
unloads_fit_at s p u there = each_if (bench_of s) (u.pulse == p) (Stage (UnloadChange u.node) ∷ [])
    (unload_fits (bench_of s) u.node there, tt)

corruptions_fit_at : (s : Scenario) (p : ℕ) (c : Corrupt) → HasImage (frame_of s) (corrupt_of c)
    → Each (Fits (bench_of s)) (corrupt_events p c)
corruptions_fit_at s p c there =
    each_if (bench_of s) (c.pulse == p) (Stage (CorruptChange c.node c.image.items) ∷ [])
    (corrupt_fits (bench_of s) c.node c.image.items there.0 there.1, tt)

changes_fit : (text : List ℕ) (s : Scenario) (p : ℕ) → ReadsText text s → Each (Fits (bench_of s)) (changes_at s p)
changes_fit text s p reads =
    let b = bench_of s in
    each_append (Fits b) (flat_map (load_events p) s.loads.items)
    (flat_map (unload_events p) s.unloads.items ++ flat_map (corrupt_events p) s.corruptions.items)
    (each_flat (Fits b) (LoadThere s) (load_events p) s.loads.items (loads_fit_at s p)
    (both s s.loads.items (loads_there text s reads) (loads_fit text s reads)))
    (each_append (Fits b) (flat_map (unload_events p) s.unloads.items) (flat_map (corrupt_events p) s.corruptions.items)
    (each_flat (Fits b) (HasNode (frame_of s)) (unload_events p) s.unloads.items (unloads_fit_at s p)
    (unloads_there text s reads))
    (each_flat (Fits b) (λ (c : Corrupt). HasImage (frame_of s) (corrupt_of c)) (corrupt_events p) s.corruptions.items
    (corruptions_fit_at s p) (corruptions_there text s reads)))

places_each : (P : ℕ → Type 0) (n : ℕ) → ((i : ℕ) → i < n → P i) → Each P (places_below n)
places_each P zero each = tt
places_each P (suc n) each = each_append P (places_below n) (n ∷ []) (places_each P n (λ i low. each i (omega arith)))
    (each n (omega arith), tt)

noise_fits : (s : Scenario) (p : ℕ) → Each (Fits (bench_of s)) (noise_events s p)
noise_fits s p = each_flat (Fits (bench_of s)) (λ i. i < s.nodes) (noise_of s p) (places_below s.nodes)
    (λ i there. each_if (bench_of s) (has_noise s p i) (Stage (LoadChange i (noise_program s p i)) ∷ [])
    (load_fits (bench_of s) (noise_program s p i) i refl there, tt))
    (places_each (λ i. i < s.nodes) s.nodes (λ i low. low))

-- with any key
events_fit_to : (text : List ℕ) (s : Scenario) (key n : ℕ) → ReadsText text s
    → Each (Fits (bench_of s)) (events_to (keyed s key) n)
events_fit_to text s key zero reads = tt
events_fit_to text s key (suc n) reads =
    let b = bench_of s in
    let k = keyed s key in
    each_append (Fits b) (events_to k n) (events_at k (suc n)) (events_fit_to text s key n reads)
    (each_append (Fits b) (changes_at s (suc n)) (noise_events k (suc n) ++ Pulse (coins_in_pulse k (suc n)) ∷ [])
    (changes_fit text s (suc n) reads)
    (each_append (Fits b) (noise_events k (suc n)) (Pulse (coins_in_pulse k (suc n)) ∷ []) (noise_fits k (suc n))
    (pulse_fits k (suc n) (coins_there text s reads), tt)))

pub keyed_fit : (text : List ℕ) (s : Scenario) (key : ℕ) → ReadsText text s
    → Each (Fits (bench_of s)) (events_of (keyed s key))
keyed_fit text s key reads = events_fit_to text s key s.pulses reads

-- a scenario's own key, or that of one without
abbrev pub own_key : Scenario → ℕ
own_key s = unwrap_or s.key 0

own_to : (s : Scenario) (n : ℕ) → events_to (keyed s (own_key s)) n ≡ events_to s n
own_to s zero = refl
own_to s (suc n) = ap (λ es. es ++ events_at s (suc n)) (own_to s n)

pub own_events : (s : Scenario) → events_of (keyed s (own_key s)) ≡ events_of s
own_events s = own_to s s.pulses

pub events_fit : (text : List ℕ) (s : Scenario) → ReadsText text s → Each (Fits (bench_of s)) (events_of s)
events_fit text s reads = subst (Each (Fits (bench_of s))) (own_events s) (keyed_fit text s (own_key s) reads)
