-- The tally of verdicts.
use Rattle.std.specs.Prelude.{◌≡◌, List, length}
use Rattle.properties.specs.declared.property.Form.{Form}
use Rattle.properties.specs.declared.answers.PulseVerdict.{PulseVerdict}
use Rattle.properties.specs.declared.answers.Tally.{Tally}
use Rattle.properties.specs.Answers.{after_violated, first_pulse, judged_pulses, last_violation, violations}

pub record IsTally (form : Form) (vs : List PulseVerdict) (t : Tally) : Type 0 where
  pub judged : t.judged ≡ length (judged_pulses form vs)
  pub violated : t.violated ≡ length (violations (judged_pulses form vs))
  pub last : t.last ≡ last_violation (violations (judged_pulses form vs))
  pub since : t.since ≡ first_pulse (after_violated (judged_pulses form vs))
