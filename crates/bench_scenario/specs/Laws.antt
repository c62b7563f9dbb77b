-- What the verdicts of a report say of the records (docs/SCENARIOS.md, "Verdicts").
use Rattle.std.specs.Prelude.{◌≡◌, ◌↔◌, ℕ, ◌+◌, ◌%◌, ◌<◌, Bool, true, IsTrue, Some, None, slice_get}
use Rattle.bench_core.specs.Told.{PulseTold}
use Rattle.bench_scenario.specs.Verdicts.{agreement, counting, settled_in}

-- the node is settled in this pulse, with this clock
pub record SettledWith (r : PulseTold) (node value : ℕ) : Type 0 where
  pub settled : slice_get r.settled node ≡ Some true
  pub clock : slice_get r.clocks node ≡ Some (Some value)

-- all settled clocks are one number below the modulus
abbrev pub AreOne : ℕ → PulseTold → Type 0
AreOne modulus r = (i j c d : ℕ) → SettledWith r i c → SettledWith r j d → (c ≡ d) × (c < modulus)

-- each node that is settled in both pulses went from a clock below the modulus to the next one
abbrev pub AllCount : ℕ → PulseTold → PulseTold → Type 0
AllCount modulus before after =
    (i c d : ℕ) → SettledWith before i c → SettledWith after i d → (c < modulus) × (d ≡ (c + 1) % modulus)

-- no node is settled in both pulses
abbrev pub NoneStays : PulseTold → PulseTold → Type 0
NoneStays before after = (i c d : ℕ) → SettledWith before i c → SettledWith after i d → ⊥

-- if it is judged at all, another clock than the rule's agrees exactly if all settled clocks are one
abbrev pub OwnAgrees : Type 0
OwnAgrees = (modulus : ℕ) (r : PulseTold) (verdict : Bool) → agreement true modulus r ≡ Some verdict
    → (IsTrue verdict ↔ AreOne modulus r)

-- a clock counts exactly if all nodes that are settled in both pulses went on by one, and none did if none stayed
abbrev pub PulsesAreCounted : Type 0
PulsesAreCounted = (modulus : ℕ) (before after : PulseTold) (verdict : Bool)
    → counting modulus (settled_in before) (settled_in after) ≡ Some verdict
    → (IsTrue verdict ↔ AllCount modulus before after)

abbrev pub CountsNothing : Type 0
CountsNothing = (modulus : ℕ) (before after : PulseTold)
    → (counting modulus (settled_in before) (settled_in after) ≡ None) ↔ NoneStays before after
