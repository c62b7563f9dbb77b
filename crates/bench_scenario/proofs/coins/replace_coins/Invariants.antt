use Rattle.std.proofs.Common.{◌≡◌, ℕ, map, take}
use Rattle.bench_scenario.specs.Coins.{places_below, replaced}
use Rattle.bench_scenario.proofs.coins.replace_coins.Given as goal

abbrev pub invariant-loop-entry : goal.invariant-loop-entry
invariant-loop-entry l =
    (f : ℕ → ℕ) (n : ℕ) → l.fn.coins ≡ map f (places_below n)
    → l.coins ≡ map (λ node. replaced (take l.entry-index l.entries) l.pulse node (f node)) (places_below n)
