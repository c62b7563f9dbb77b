-- Beside InStep: what proofs and private contracts alone cite.
use Rattle.std.specs.Prelude.{◌≡◌, ℕ, suc, ◌+◌, ◌<◌, List, [], ◌∷◌, Option, Some, None, drop, length, slice_get}
use Rattle.bench_core.specs.Told.{PulseTold}
use Rattle.bench_scenario.specs.InStep.{EachWentOn, HaveOne}

-- all have one clock in the first record, and went on from it to the second, if there is one
abbrev pub BeginsInStep : ℕ → List PulseTold → Type 0
BeginsInStep modulus [] = ⊥
BeginsInStep modulus (r ∷ []) = (c : ℕ) × HaveOne modulus r c
BeginsInStep modulus (r ∷ after ∷ rest) = ((c : ℕ) × HaveOne modulus r c) × EachWentOn modulus r after

-- as InStepFrom, but for that one record alone stays too
pub record StaysFrom (modulus : ℕ) (rs : List PulseTold) : Type 0 where
  pub some : 0 < length rs
  pub one : (k : ℕ) (r : PulseTold) → slice_get rs k ≡ Some r → (c : ℕ) × HaveOne modulus r c
  pub on : (k : ℕ) (before after : PulseTold) → slice_get rs k ≡ Some before → slice_get rs (suc k) ≡ Some after
      → EachWentOn modulus before after

pub record IsFirstStay (modulus : ℕ) (rs : List PulseTold) (pulse : ℕ) : Type 0 where
  pub before : ℕ
  pub within : before < length rs
  pub place : pulse ≡ before + 1
  pub stays : StaysFrom modulus (drop before rs)
  pub least : (k : ℕ) → k < before → StaysFrom modulus (drop k rs) → ⊥

abbrev pub StaysSince : ℕ → List PulseTold → Option ℕ → Type 0
StaysSince modulus rs (Some pulse) = IsFirstStay modulus rs pulse
StaysSince modulus rs None = (k : ℕ) → StaysFrom modulus (drop k rs) → ⊥
