-- The loads of drawn messages, node by node, and pulse by pulse.
use Rattle.std.proofs.Common.{◌≡◌, ℕ, ◌+◌, ◌*◌, ◌^◌, ◌<◌, ◌≤◌, List, [], ◌∷◌, ◌++◌, append_assoc, add-one, arith, ap, sym, ◌∙◌}
use Rattle.std.specs.Prelude.{true, false, flat_map}
use Rattle.std.proofs.Math.Nat.{mul-le-mul_left}
use Rattle.std.proofs.lemmas.Bool.{cond-false, cond-true}
use Rattle.std.proofs.lemmas.List.{append-nil}
use Rattle.bpf_verify.specs.Accepted.{Accepted}
use Rattle.bpf_verify.specs.Paths.{IsLongestPath}
use Rattle.bench_core.specs.State.{Load as LoadChange}
use Rattle.bench_workers.specs.Events.{Event, Stage}
use Rattle.scenario_text.specs.declared.scenario.Scenario.{Scenario}
use Rattle.scenario_text.specs.Views.{extent_of, frame_of}
use Rattle.clock_nodes.specs.Listings.{say_listing}
use Rattle.bench_scenario.specs.Coins.{places_below}
use Rattle.bench_scenario.specs.Noise.{has_noise, messages_of, noise_of, noise_program}
use Rattle.bench_scenario.proofs.NoiseCounts.{noise_more}
use Rattle.bench_scenario.proofs.SayLengths.{say_announces}

-- ---- places

-- the row of a node's messages, and its first place
pub row_small : (pulse nodes sender : ℕ) → pulse < 2 ^ 32 → nodes ≤ 64 → sender < 2 ^ 32
    → pulse * nodes + sender < 2 ^ 39
row_small pulse nodes sender low few there =
    let most : pulse * nodes ≤ pulse * 64 = mul-le-mul_left pulse few in
    omega (arith, most, low, there)

pub place_small : (row nodes : ℕ) → row < 2 ^ 39 → nodes ≤ 64 → row * nodes < 2 ^ 45
place_small row nodes low few =
    let most : row * nodes ≤ row * 64 = mul-le-mul_left row few in
    omega (arith, most, low)

-- ---- the program

pub program_is : (v : Accepted) (s : Scenario) (p i : ℕ) → v.program ≡ say_listing (messages_of s p i)
    → v.shape ≡ extent_of (frame_of s) → IsLongestPath v.program v.budget → v ≡ noise_program s p i
program_is v s p i is shape longest =
    let budget = say_announces v (messages_of s p i) is longest in
    λ k. record { program = is k; shape = shape k; budget = budget k }

-- ---- one node more

pub more_noise : (s : Scenario) (p n : ℕ) (old now next : List Event) (program : Accepted)
    → now ≡ old ++ flat_map (noise_of s p) (places_below n) → has_noise s p n ≡ true → program ≡ noise_program s p n
    → next ≡ now ++ Stage (LoadChange n program) ∷ []
    → next ≡ old ++ flat_map (noise_of s p) (places_below (n + 1))
more_noise s p n old now next program was has is grown =
    let f = noise_of s p in
    let all = flat_map f (places_below n) in
    let one : f n ≡ Stage (LoadChange n program) ∷ [] =
    cond-true (has_noise s p n) (Stage (LoadChange n (noise_program s p n)) ∷ []) [] has
    ∙ ap (λ v. Stage (LoadChange n v) ∷ []) (sym is) in
    let whole : all ++ Stage (LoadChange n program) ∷ [] ≡ flat_map f (places_below (n + 1)) =
    ap (λ es. all ++ es) (sym one) ∙ (sym (noise_more f n) ∙ ap (λ k. flat_map f (places_below k)) (sym (add-one n))) in
    grown ∙ (ap (λ es. es ++ Stage (LoadChange n program) ∷ []) was
    ∙ (append_assoc old all (Stage (LoadChange n program) ∷ []) ∙ ap (λ es. old ++ es) whole))

pub no_more_noise : (s : Scenario) (p n : ℕ) (old now : List Event)
    → now ≡ old ++ flat_map (noise_of s p) (places_below n) → has_noise s p n ≡ false
    → now ≡ old ++ flat_map (noise_of s p) (places_below (n + 1))
no_more_noise s p n old now was has =
    let f = noise_of s p in
    let all = flat_map f (places_below n) in
    let none : f n ≡ [] = cond-false (has_noise s p n) (Stage (LoadChange n (noise_program s p n)) ∷ []) [] has in
    let whole : all ≡ flat_map f (places_below (n + 1)) =
    sym (append-nil all) ∙ (ap (λ es. all ++ es) (sym none)
    ∙ (sym (noise_more f n) ∙ ap (λ k. flat_map f (places_below k)) (sym (add-one n)))) in
    was ∙ ap (λ es. old ++ es) whole
