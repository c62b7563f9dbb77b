-- What a refusal of a program says of the scenarios (docs/SCENARIOS.md, "Refusals"), and how many a text reads as.
use Rattle.std.specs.Prelude.{◌≡◌, ℕ, ◌+◌, List, map, take}
use Rattle.toml.specs.Data.{Members}
use Rattle.scenario_text.specs.declared.limits.TheConstants.{MAX_TEXT}
use Rattle.scenario_text.specs.declared.refusal.Place.{Place}
use Rattle.scenario_text.specs.declared.refusal.ScenarioError.{ScenarioError}
use Rattle.scenario_text.specs.declared.scenario.Scenario.{Scenario}
use Rattle.scenario_text.specs.Broken.{BrokenAt}
use Rattle.scenario_text.specs.Texts.{IsDueUnlessMemory, ReadsText}
use Rattle.scenario_text.specs.Views.{ReadsAs, draft_of}

-- a table of which a program is refused reads as no scenario
abbrev pub RefusedReadsAsNone : Type 0
RefusedReadsAsNone = (members : Members) (place : Place) (slot : ℕ) (s : Scenario) → BrokenAt members place slot
    → ReadsAs members s → ⊥

-- the scenario of the first bytes of a text, of which one more is read than a text may have, is that of the text
abbrev pub FrontReadsAsWhole : Type 0
FrontReadsAsWhole = (text : List ℕ) (s : Scenario) → ReadsText (take (MAX_TEXT + 1) text) s → ReadsText text s

-- and a refusal of these bytes is due of the text
abbrev pub FrontIsDueAsWhole : Type 0
FrontIsDueAsWhole = (text : List ℕ) (error : ScenarioError) → IsDueUnlessMemory (take (MAX_TEXT + 1) text) error
    → IsDueUnlessMemory text error

-- the same plain data, and the same accepted programs: instructions, shape and announced count
pub record IsSameScenario (s other : Scenario) : Type 0 where
  pub plain : draft_of s ≡ draft_of other
  pub clock : s.clock ≡ other.clock
  pub programs : map (λ l. l.program) s.loads.items ≡ map (λ l. l.program) other.loads.items

-- a text reads as at most one scenario
abbrev pub OneScenario : Type 0
OneScenario = (text : List ℕ) (s other : Scenario) → ReadsText text s → ReadsText text other
    → IsSameScenario s other
