-- How many entries the events of a scenario add.
use Rattle.std.proofs.Common.{◌≡◌, ℕ, zero, suc, ◌+◌, ◌*◌, ◌≤◌, List, [], ◌∷◌, ◌++◌, length, map, arith, ap, refl}
use Rattle.std.specs.Prelude.{Bool, ◌==◌, if◌then◌else◌, true, false, flat_map}
use Rattle.bench_core.specs.State.{Change, Load as LoadChange}
use Rattle.bench_workers.specs.Events.{Event, Stage, Pulse}
use Rattle.bench_workers.specs.Runs.{entries_after}
use Rattle.bpf_verify.specs.Accepted.{Accepted}
use Rattle.scenario_text.specs.declared.scenario.Load.{Load}
use Rattle.scenario_text.specs.declared.scenario.Unload.{Unload}
use Rattle.scenario_text.specs.declared.scenario.Corrupt.{Corrupt}
use Rattle.scenario_text.specs.declared.scenario.Scenario.{Scenario}
use Rattle.scenario_text.specs.Spelling.{load_count}
use Rattle.scenario_text.specs.Views.{load_draft}
use Rattle.bench_scenario.specs.Coins.{coins_in_pulse}
use Rattle.bench_scenario.specs.Events.{changes_at, corrupt_events, events_at, events_of, events_to, load_events, unload_events}
use Rattle.bench_scenario.specs.Noise.{noise_events}
use Rattle.scenario_text.specs.Noise.{noise_count}
use Rattle.bench_scenario.proofs.FitLemmas.{entries_append}
use Rattle.bench_scenario.proofs.NoiseCounts.{noise_total, total_to}
use Rattle.bench_scenario.proofs.Weights.{each_once, load_pulse, weight_at, weight_of, weight_to}

-- ---- the entries of a pulse

entries_of_nodes : (program : Accepted) (nodes : List ℕ)
    → entries_after (map (λ node. Stage (LoadChange node program)) nodes) ≡ length nodes
entries_of_nodes program [] = refl
entries_of_nodes program (node ∷ nodes) = let rest = entries_of_nodes program nodes in omega arith

entries_of_load : (b : Bool) (program : Accepted) (nodes : List ℕ)
    → entries_after (if b then map (λ node. Stage (LoadChange node program)) nodes else []) ≡
    (if b then length nodes else 0)
entries_of_load true program nodes = entries_of_nodes program nodes
entries_of_load false program nodes = refl

entries_of_one : (b : Bool) (c : Change) → entries_after (if b then Stage c ∷ [] else []) ≡ (if b then 1 else 0)
entries_of_one true c = refl
entries_of_one false c = refl

abbrev load_weight : Load → ℕ
load_weight l = length l.nodes.items

entries_flat : {A : Type 0} (f : A → List Event) (pulse weight : A → ℕ) (p : ℕ)
    → ((x : A) → entries_after (f x) ≡ (if pulse x == p then weight x else 0))
    → (xs : List A) → entries_after (flat_map f xs) ≡ weight_at pulse weight p xs
entries_flat f pulse weight p each [] = refl
entries_flat f pulse weight p each (x ∷ xs) =
    let parts = entries_append (f x) (flat_map f xs) in
    let first = each x in
    let rest = entries_flat f pulse weight p each xs in
    omega arith

abbrev unload_pulse : Unload → ℕ
unload_pulse u = u.pulse

abbrev corrupt_pulse : Corrupt → ℕ
corrupt_pulse c = c.pulse

abbrev one : {A : Type 0} → A → ℕ
one x = 1

entries_at : (s : Scenario) (p : ℕ) → entries_after (events_at s p)
    ≡ weight_at load_pulse load_weight p s.loads.items + weight_at unload_pulse one p s.unloads.items + weight_at
    corrupt_pulse one p s.corruptions.items + 2 + entries_after (noise_events s p)
entries_at s p =
    let loads = entries_flat (load_events p) load_pulse load_weight p
    (λ l. entries_of_load (l.pulse == p) l.program l.nodes.items) s.loads.items in
    let unloads = entries_flat (unload_events p) unload_pulse one p
    (λ u. entries_of_one (u.pulse == p) _) s.unloads.items in
    let corruptions = entries_flat (corrupt_events p) corrupt_pulse one p
    (λ c. entries_of_one (c.pulse == p) _) s.corruptions.items in
    let changes = entries_append (flat_map (load_events p) s.loads.items)
    (flat_map (unload_events p) s.unloads.items ++ flat_map (corrupt_events p) s.corruptions.items) in
    let later = entries_append (flat_map (unload_events p) s.unloads.items)
    (flat_map (corrupt_events p) s.corruptions.items) in
    let noise = entries_append (noise_events s p) (Pulse (coins_in_pulse s p) ∷ []) in
    let all = entries_append (changes_at s p) (noise_events s p ++ Pulse (coins_in_pulse s p) ∷ []) in
    omega arith

entries_to : (s : Scenario) (n : ℕ) → entries_after (events_to s n)
    ≡ weight_to load_pulse load_weight n s.loads.items + weight_to unload_pulse one n s.unloads.items + weight_to
    corrupt_pulse one n s.corruptions.items + 2 * n + total_to (λ p. entries_after (noise_events s p)) n
entries_to s zero = refl
entries_to s (suc n) =
    let before = entries_to s n in
    let here = entries_at s (suc n) in
    let all = entries_append (events_to s n) (events_at s (suc n)) in
    omega arith

weight_of_loads : (ls : List Load) → weight_of load_weight ls ≡ load_count (map load_draft ls)
weight_of_loads [] = refl
weight_of_loads (l ∷ ls) = ap (λ n. length l.nodes.items + n) (weight_of_loads ls)

weight_of_ones : {A : Type 0} (xs : List A) → weight_of one xs ≡ length xs
weight_of_ones [] = refl
weight_of_ones (x ∷ xs) = let rest = weight_of_ones xs in omega arith

-- a load counts once for each node, everything else once, a pulse twice, and noise once for each node and pulse
pub entries_within : (s : Scenario) → entries_after (events_of s)
    ≤ load_count (map load_draft s.loads.items) + length s.unloads.items + length s.corruptions.items + 2 * s.pulses
    + noise_count s.pulses (map load_draft s.loads.items)
entries_within s =
    let all = entries_to s s.pulses in
    let loads = each_once load_pulse load_weight s.loads.items s.pulses in
    let unloads = each_once unload_pulse one s.unloads.items s.pulses in
    let corruptions = each_once corrupt_pulse one s.corruptions.items s.pulses in
    let noise = noise_total s s.pulses in
    omega (arith, weight_of_loads s.loads.items, weight_of_ones s.unloads.items, weight_of_ones s.corruptions.items)
