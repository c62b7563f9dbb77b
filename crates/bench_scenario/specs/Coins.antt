-- The coins of a scenario (docs/SCENARIOS.md, "Coins").
use Rattle.std.specs.Prelude.{ℕ, zero, suc, ◌+◌, ◌-◌, ◌*◌, ◌%◌, ◌==◌, ◌&&◌, if◌then◌else◌, List, [], ◌∷◌, ◌++◌, Some, map, replicate, unwrap_or}
use Rattle.std.specs.Int.{w64, to_le_bytes}
use Rattle.rand_chacha.specs.ChaCha.{word_at, key_of}
use Rattle.scenario_text.specs.declared.scenario.Coins.{Coins}
use Rattle.scenario_text.specs.declared.scenario.Coins.TheVariants.{Zeros, Ones, Chacha}
use Rattle.scenario_text.specs.declared.scenario.CoinEntry.{CoinEntry}
use Rattle.scenario_text.specs.declared.scenario.Scenario.{Scenario}

-- the seed of a key: its eight bytes, the lowest first, and 24 zeros
abbrev pub seed_of : ℕ → List ℕ
seed_of key = to_le_bytes w64 key ++ replicate 24 0

-- the coin at a place: the lowest bit of the word of ChaCha8 (4 double rounds) at this place
abbrev pub coin_at : ℕ → ℕ → ℕ
coin_at key place = word_at 4 (key_of (seed_of key)) 0 place % 2

-- 0, 1 and so on, this many
abbrev pub places_below : ℕ → List ℕ
places_below zero = []
places_below (suc n) = places_below n ++ n ∷ []

-- the coin that is drawn at a place, pulse by pulse and node by node
abbrev pub drawn : Coins → ℕ → ℕ → ℕ
drawn Zeros key place = 0
drawn Ones key place = 1
drawn Chacha key place = coin_at key place

-- the coin after the entries of this pulse and node: the last one wins
abbrev pub replaced : List CoinEntry → ℕ → ℕ → ℕ → ℕ
replaced [] pulse node coin = coin
replaced (e ∷ es) pulse node coin = replaced es pulse node (if (e.pulse == pulse) && (e.node == node)
    then e.value else coin)

abbrev pub coin_of : Scenario → ℕ → ℕ → ℕ
coin_of s pulse node =
    replaced s.entries.items pulse node (drawn s.coins (unwrap_or s.key 0) ((pulse - 1) * s.nodes + node))

-- the coins of a pulse, by node
abbrev pub coins_in_pulse : Scenario → ℕ → List ℕ
coins_in_pulse s pulse = map (coin_of s pulse) (places_below s.nodes)

-- the scenario with this key in place of its own
abbrev pub keyed : Scenario → ℕ → Scenario
keyed s key = record s { key = Some key }
