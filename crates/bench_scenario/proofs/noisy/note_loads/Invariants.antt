use Rattle.std.proofs.Common.{◌≡◌, ℕ, map, take}
use Rattle.std.specs.Prelude.{Bool}
use Rattle.bench_scenario.specs.Coins.{places_below}
use Rattle.bench_scenario.specs.Noise.{after_loads}
use Rattle.bench_scenario.proofs.noisy.note_loads.Given as goal

abbrev pub invariant-loop-load : goal.invariant-loop-load
invariant-loop-load l =
    (f : ℕ → Bool) (n : ℕ) → l.fn.noisy ≡ map f (places_below n)
    → l.noisy ≡ map (λ i. after_loads l.pulse i (take l.load-index l.loads) (f i)) (places_below n)
