-- From which pulse on a run is in step: all nodes that ran the clock have one clock, and each goes on by one
-- (docs/OUTPUT.md, "Synchrony of a run").
use Rattle.std.specs.Prelude.{◌≡◌, ℕ, suc, ◌+◌, ◌%◌, ◌<◌, List, Option, Some, None, drop, length, slice_get}
use Rattle.bench_core.specs.Told.{PulseTold}

-- the node ran the clock in this pulse, which left it at this clock
abbrev pub ShowsClock : PulseTold → ℕ → ℕ → Type 0
ShowsClock r node c = slice_get r.clocks node ≡ Some (Some c)

-- some node ran the clock, each that did has this one, and it is below the modulus
pub record HaveOne (modulus : ℕ) (r : PulseTold) (c : ℕ) : Type 0 where
  pub some : (node : ℕ) × ShowsClock r node c
  pub each : (node d : ℕ) → ShowsClock r node d → d ≡ c
  pub below : c < modulus

-- each node that has a clock in both pulses went on by one
abbrev pub EachWentOn : ℕ → PulseTold → PulseTold → Type 0
EachWentOn modulus before after =
    (node c d : ℕ) → ShowsClock before node c → ShowsClock after node d → d ≡ (c + 1) % modulus

-- in each record all have one clock, and from each to the next each node went on. One record alone shows no going on
pub record AreInStep (modulus : ℕ) (rs : List PulseTold) : Type 0 where
  pub two : 1 < length rs
  pub one : (k : ℕ) (r : PulseTold) → slice_get rs k ≡ Some r → (c : ℕ) × HaveOne modulus r c
  pub on : (k : ℕ) (before after : PulseTold) → slice_get rs k ≡ Some before → slice_get rs (suc k) ≡ Some after
      → EachWentOn modulus before after

-- this many records are before this pulse, counted from 1. Those from it on are in step, and from no earlier one
pub record IsFirstInStep (modulus : ℕ) (rs : List PulseTold) (pulse : ℕ) : Type 0 where
  pub before : ℕ
  pub place : pulse ≡ before + 1
  pub in_step : AreInStep modulus (drop before rs)
  pub least : (k : ℕ) → k < before → AreInStep modulus (drop k rs) → ⊥

-- the first pulse from which to the last the records are in step, or none
abbrev pub IsInStepSince : ℕ → List PulseTold → Option ℕ → Type 0
IsInStepSince modulus rs (Some pulse) = IsFirstInStep modulus rs pulse
IsInStepSince modulus rs None = (k : ℕ) → AreInStep modulus (drop k rs) → ⊥
