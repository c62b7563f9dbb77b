use Rattle.std.proofs.Common.{◌≡◌, ℕ, map, take}
use Rattle.std.specs.Prelude.{Bool, ◌==◌, if◌then◌else◌}
use Rattle.std.specs.List.{list_any}
use Rattle.bench_scenario.specs.Coins.{places_below}
use Rattle.bench_scenario.proofs.noisy.note_load.Given as goal

abbrev pub invariant-loop-node : goal.invariant-loop-node
invariant-loop-node l =
    (f : ℕ → Bool) (n : ℕ) → l.fn.noisy ≡ map f (places_below n)
    → l.noisy ≡ map (λ i. if list_any (λ m. m == i) (take l.node-index l.node-items) then l.noise else f i)
    (places_below n)
