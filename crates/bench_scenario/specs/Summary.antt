-- What a run comes to, in numbers (docs/LUCK.md, "The lines").
use Rattle.std.specs.Prelude.{◌≡◌, ℕ, ◌+◌, if◌then◌else◌, Bool, false, not, max, List, [], ◌∷◌, Option, Some, None}
use Rattle.bench_core.specs.Told.{PulseTold}
use Rattle.scenario_text.specs.declared.scenario.Frame.{Frame}
use Rattle.bench_scenario.specs.declared.summary.RunSummary.{RunSummary}
use Rattle.bench_scenario.specs.declared.verdicts.Judged.{Judged}
use Rattle.bench_scenario.specs.InStep.{IsInStepSince}
use Rattle.bench_scenario.specs.Reports.{agreed, agreement_judged}
use Rattle.bench_scenario.specs.Verdicts.{judged_of}

abbrev pub is_no : Option Bool → Bool
is_no (Some verdict) = not verdict
is_no None = false

-- the first pulse that disagrees, where the first of these has this number
abbrev pub first_no : ℕ → List Judged → Option ℕ
first_no pulse [] = None
first_no pulse (j ∷ js) = if is_no j.agree then Some pulse else first_no (pulse + 1) js

-- the greatest number of steps, 0 of no pulse
abbrev pub most_steps : List PulseTold → ℕ
most_steps [] = 0
most_steps (r ∷ rs) = max r.steps (most_steps rs)

-- of records, of which this is judged
pub record SumsUp (modulus : ℕ) (rs : List PulseTold) (js : List Judged) (m : RunSummary) : Type 0 where
  pub agreed : m.agreed ≡ agreed js
  pub judged : m.judged ≡ agreement_judged js
  -- pulses are counted from 1 on
  pub disagreed : m.first_disagreement ≡ first_no 1 js
  pub in_step : IsInStepSince modulus rs m.in_step_since
  pub steps : m.steps ≡ most_steps rs

abbrev pub IsSummary : Frame → Bool → List PulseTold → RunSummary → Type 0
IsSummary f own rs m = SumsUp f.modulus rs (judged_of f own rs) m
