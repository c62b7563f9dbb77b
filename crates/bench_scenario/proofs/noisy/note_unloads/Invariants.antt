use Rattle.std.proofs.Common.{◌≡◌, ℕ, map, take}
use Rattle.std.specs.Prelude.{Bool}
use Rattle.bench_scenario.specs.Coins.{places_below}
use Rattle.bench_scenario.specs.Noise.{after_unloads}
use Rattle.bench_scenario.proofs.noisy.note_unloads.Given as goal

abbrev pub invariant-loop-unload : goal.invariant-loop-unload
invariant-loop-unload l =
    (f : ℕ → Bool) (n : ℕ) → l.fn.noisy ≡ map f (places_below n)
    → l.noisy ≡ map (λ i. after_unloads l.pulse i (take l.unload-index l.unloads) (f i)) (places_below n)
