-- What a refusal says of a table.
use Rattle.std.specs.Prelude.{ℕ}
use Rattle.scenario_text.specs.declared.refusal.Place.{Place}
use Rattle.scenario_text.specs.declared.refusal.ScenarioError.{ScenarioError}
use Rattle.scenario_text.specs.declared.refusal.ScenarioError.TheVariants as errors

-- what an error says of a reader that verifies no programs: an error of a key or a value comes only if `none` holds,
-- that is, if nothing can be read; TooLong, NotToml and NotAccepted never come; Memory promises nothing
abbrev pub Excludes : ScenarioError → Type 0 → Type 0
Excludes errors.TooLong none = ⊥
Excludes errors.NotToml none = ⊥
Excludes (errors.NotAccepted place key slot rule) none = ⊥
Excludes (errors.Memory _) none = Unit {0}
Excludes _ none = none

-- the same of a reader that verifies programs: NotAccepted comes only with a place and a slot of which `broken` holds
abbrev pub Refuses : ScenarioError → Type 0 → (Place → ℕ → Type 0) → Type 0
Refuses (errors.NotAccepted place key slot rule) none broken = broken place slot
Refuses error none broken = Excludes error none
