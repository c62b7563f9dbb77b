-- Beside Faults: what proofs and private contracts alone cite.
use Rattle.scenario_text.specs.declared.refusal.ScenarioError.{ScenarioError}
use Rattle.scenario_text.specs.declared.refusal.ScenarioError.TheVariants as errors

-- a refusal of one of the six kinds that a spelling decides
abbrev pub IsOfSpelling : ScenarioError → Type 0
IsOfSpelling errors.TooLong = ⊥
IsOfSpelling errors.NotToml = ⊥
IsOfSpelling (errors.NotAccepted place key slot rule) = ⊥
IsOfSpelling (errors.Memory _) = ⊥
IsOfSpelling _ = Unit {0}
