-- The loads of noise (docs/SCENARIOS.md, "Noise").
use Rattle.std.specs.Prelude.{◌≡◌, ℕ, ◌+◌, ◌-◌, ◌*◌, ◌≤◌, if◌then◌else◌, Bool, true, false, List, [], ◌∷◌, length, Option, Some, None}
use Rattle.std.specs.List.{list_any}
use Rattle.scenario_text.specs.declared.limits.TheConstants.{MAX_NOISE}
use Rattle.scenario_text.specs.declared.scenario.Kind.{Kind}
use Rattle.scenario_text.specs.declared.scenario.Kind.TheVariants.{Clock, Say, Echo, Asm, Rule, Noise}
use Rattle.scenario_text.specs.Drafts.{LoadDraft}

abbrev pub is_noise : Kind → Bool
is_noise Clock = false
is_noise Say = false
is_noise Echo = false
is_noise Asm = false
is_noise Rule = false
is_noise Noise = true

abbrev pub any_noise : List LoadDraft → Bool
any_noise loads = list_any (λ load. is_noise load.kind) loads

-- the pulses from the load on to the last one, once for each node of the load
abbrev pub noise_pulses : ℕ → LoadDraft → ℕ
noise_pulses pulses load = if is_noise load.kind then length load.nodes * (pulses + 1 - load.pulse) else 0

abbrev pub noise_count : ℕ → List LoadDraft → ℕ
noise_count pulses [] = 0
noise_count pulses (load ∷ loads) = noise_pulses pulses load + noise_count pulses loads

-- without a key there is no noise
abbrev pub HasNoiseKey : Option ℕ → List LoadDraft → Type 0
HasNoiseKey (Some key) loads = Unit {0}
HasNoiseKey None loads = any_noise loads ≡ false

-- noise has a key, and not too many pulses
pub record HasNoise (key : Option ℕ) (pulses : ℕ) (loads : List LoadDraft) : Type 0 where
  pub keyed : HasNoiseKey key loads
  pub few : noise_count pulses loads ≤ MAX_NOISE
