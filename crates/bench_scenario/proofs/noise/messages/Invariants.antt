use Rattle.std.proofs.Common.{◌≡◌, ◌+◌, ◌<◌, ◌^◌, map}
use Rattle.rand_chacha.specs.ChaCha.{key_of}
use Rattle.bench_scenario.specs.Coins.{places_below, seed_of}
use Rattle.bench_scenario.specs.Noise.{message_of, noise_word}
use Rattle.bench_scenario.specs.declared.noise.TheConstants.{NOISE_STREAM}
use Rattle.bench_scenario.proofs.noise.messages.Given as goal

abbrev pub invariant-loop : goal.invariant-loop
invariant-loop l = record {
  sent : l.sent.items
      ≡ map (λ node. message_of l.scenario.modulus (noise_word l.fn.draw.key (l.place + node))) (places_below l.counter);
  next : l.generator
      ≡ record { key = key_of (seed_of l.fn.draw.key); stream = NOISE_STREAM; word_pos = l.place + l.counter };
  few : l.place < 2 ^ 64;
}
