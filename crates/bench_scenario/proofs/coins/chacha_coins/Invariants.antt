use Rattle.std.proofs.Common.{◌≡◌, ◌+◌, map}
use Rattle.rand_chacha.specs.ChaCha.{key_of}
use Rattle.bench_scenario.specs.Coins.{coin_at, places_below, seed_of}
use Rattle.bench_scenario.proofs.coins.chacha_coins.Given as goal

abbrev pub invariant-loop : goal.invariant-loop
invariant-loop l = record {
  coins : l.coins.items ≡ map (λ node. coin_at l.key (l.place + node)) (places_below l.counter);
  next : l.generator ≡ record { key = key_of (seed_of l.key); stream = 0; word_pos = l.place + l.counter };
}
