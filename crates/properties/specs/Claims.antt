-- The pulses of a run with the verdicts on its properties (docs/PROPERTIES.md, "Answers").
use Rattle.std.specs.Prelude.{ℕ, List, map, slice_index_or}
use Rattle.properties.specs.declared.answers.Answer.{Answer}
use Rattle.properties.specs.declared.answers.PulseVerdict.{PulseVerdict}
use Rattle.properties.specs.declared.claims.PulseClaims.{PulseClaims}
use Rattle.properties.specs.declared.property.Form.{Form}
use Rattle.properties.specs.declared.verdicts.PropertyVerdict.{PropertyVerdict}
use Rattle.properties.specs.declared.verdicts.PropertyVerdict.TheVariants.{NotJudged}
use Rattle.properties.specs.Answers.{answer}

-- a pulse, and the verdict on each property in it
pub record ClaimedPulse : Type 0 where
  pub pulse : ℕ
  pub verdicts : List PropertyVerdict

abbrev pub claims_in_view : PulseClaims → ClaimedPulse
claims_in_view c = record { pulse = c.pulse; verdicts = c.verdicts.items }

abbrev pub claimed_in : List PulseClaims → List ClaimedPulse
claimed_in cs = map claims_in_view cs

-- the verdict on the property at a place
abbrev pub verdict_at : ℕ → ClaimedPulse → PulseVerdict
verdict_at k c = record { pulse = c.pulse; verdict = slice_index_or c.verdicts k NotJudged }

-- the answer of the property at a place, which has this form
abbrev pub answer_at : Form → ℕ → List ClaimedPulse → Answer
answer_at form k cs = answer form (map (verdict_at k) cs)
