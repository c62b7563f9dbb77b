-- What the verdicts of a run's pulses say of a property (docs/PROPERTIES.md, "Answers").
use Rattle.std.specs.Prelude.{ℕ, ◌&&◌, nat_lt, if◌then◌else◌, Bool, true, false, List, [], ◌∷◌, length, filter, filter_map, is_some, Option, Some, None}
use Rattle.std.specs.List.{list_any}
use Rattle.properties.specs.declared.property.Form.{Form}
use Rattle.properties.specs.declared.property.Form.TheVariants as forms
use Rattle.properties.specs.declared.verdicts.PropertyVerdict.{PropertyVerdict}
use Rattle.properties.specs.declared.verdicts.PropertyVerdict.TheVariants as verdicts
use Rattle.properties.specs.declared.answers.PulseVerdict.{PulseVerdict}
use Rattle.properties.specs.declared.answers.Violation.{Violation}
use Rattle.properties.specs.declared.answers.Answer.{Answer}
use Rattle.properties.specs.declared.answers.Answer.TheVariants.{NothingJudged, Holds, HoldsFrom, Violated, ViolatedLast}

-- ---- pulses

-- how many pulses at the beginning of a run a form leaves out
abbrev pub left_out : Form → ℕ
left_out forms.Always = 0
left_out forms.EventuallyAlways = 0
left_out (forms.Within k) = k

abbrev pub was_judged : PropertyVerdict → Bool
was_judged verdicts.NotJudged = false
was_judged verdicts.Holds = true
was_judged (verdicts.Violated i j) = true

abbrev pub counts_for : Form → PulseVerdict → Bool
counts_for form v = nat_lt (left_out form) v.pulse && was_judged v.verdict

-- the judged pulses after those that are left out
abbrev pub judged_pulses : Form → List PulseVerdict → List PulseVerdict
judged_pulses form vs = filter (counts_for form) vs

abbrev pub violation_at : ℕ → PropertyVerdict → Option Violation
violation_at pulse verdicts.NotJudged = None
violation_at pulse verdicts.Holds = None
violation_at pulse (verdicts.Violated i j) = Some (record { pulse = pulse; first = i; second = j })

abbrev pub violation_of : PulseVerdict → Option Violation
violation_of v = violation_at v.pulse v.verdict

abbrev pub violations : List PulseVerdict → List Violation
violations vs = filter_map violation_of vs

abbrev pub last_violation : List Violation → Option Violation
last_violation [] = None
last_violation (x ∷ []) = Some x
last_violation (x ∷ (y ∷ xs)) = last_violation (y ∷ xs)

-- the pulses after the last violated one
abbrev pub after_violated : List PulseVerdict → List PulseVerdict
after_violated [] = []
after_violated (v ∷ vs) = if list_any (λ w. is_some (violation_of w)) (v ∷ vs) then after_violated vs else v ∷ vs

abbrev pub first_pulse : List PulseVerdict → Option ℕ
first_pulse [] = None
first_pulse (v ∷ vs) = Some v.pulse

-- ---- answers, of judged pulses

-- it holds in all of them, or is violated in some, and last in this one
abbrev pub throughout : ℕ → ℕ → Option Violation → Answer
throughout judged violated None = Holds judged
throughout judged violated (Some last) = Violated violated judged last

-- it holds from the first pulse after the last violated one on; if there is none, the last one is violated
abbrev pub eventually : Option ℕ → Option Violation → Answer
eventually (Some pulse) last = HoldsFrom pulse
eventually None (Some last) = ViolatedLast last
eventually None None = NothingJudged

abbrev pub answer_of_judged : Form → List PulseVerdict → Answer
answer_of_judged form [] = NothingJudged
answer_of_judged forms.Always (v ∷ vs) =
    throughout (length (v ∷ vs)) (length (violations (v ∷ vs))) (last_violation (violations (v ∷ vs)))
answer_of_judged (forms.Within k) (v ∷ vs) =
    throughout (length (v ∷ vs)) (length (violations (v ∷ vs))) (last_violation (violations (v ∷ vs)))
answer_of_judged forms.EventuallyAlways (v ∷ vs) =
    eventually (first_pulse (after_violated (v ∷ vs))) (last_violation (violations (v ∷ vs)))

abbrev pub answer : Form → List PulseVerdict → Answer
answer form vs = answer_of_judged form (judged_pulses form vs)
