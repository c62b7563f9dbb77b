-- The values of pulses and properties have no float, and nest no deeper than two levels.
use Rattle.std.proofs.Common.{List, [], ◌∷◌, ◌++◌}
use Rattle.std.specs.Prelude.{codes, string_bytes, Option, Some, None}
use Rattle.std.specs.List.{AllByRecursion}
use Rattle.json_values.specs.Values.{Member, list_data, number_data}
use Rattle.json_values.proofs.PlainLemmas.{IsPlain, plain_list, plain_number, plain_object, plain_string}
use Rattle.properties.specs.declared.answers.Answer.{Answer}
use Rattle.properties.specs.declared.answers.Answer.TheVariants.{NothingJudged, Holds, HoldsFrom, Violated, ViolatedLast}
use Rattle.properties.specs.declared.answers.PulseVerdict.{PulseVerdict}
use Rattle.properties.specs.declared.answers.Violation.{Violation}
use Rattle.properties.specs.declared.property.Property.{Property}
use Rattle.properties.specs.declared.verdicts.PropertyVerdict.{PropertyVerdict}
use Rattle.properties.specs.Answers.{answer}
use Rattle.properties.specs.Claims.{ClaimedPulse}
use Rattle.claims_json.specs.Data.{property_answer_word, from_members, judged_count, last_members, last_violated, property_data, property_members, pulse_claims_data, verdict_data, verdict_word, violated_count}

abbrev AllPlain : List Member → Type 0
AllPlain ms = AllByRecursion (λ m. IsPlain 1 m.1) ms

both_plain : (ms ns : List Member) → AllPlain ms → AllPlain ns → AllPlain (ms ++ ns)
both_plain [] ns first second = second
both_plain (m ∷ ms) ns first second = (first.0, both_plain ms ns first.1 second)

plain_verdict : (v : PropertyVerdict) → IsPlain 0 (verdict_data v)
plain_verdict v = plain_string 0 (verdict_word v)

pub plain_pulse : (c : ClaimedPulse) → IsPlain 2 (pulse_claims_data c)
plain_pulse c =
    plain_object 1 (
    (codes "pulse", number_data c.pulse) ∷ (codes "claims", list_data verdict_data c.verdicts) ∷ []
    ) (plain_number 1 c.pulse, (plain_list verdict_data 0 plain_verdict c.verdicts, tt))

plain_last : (last : Option Violation) → AllPlain (last_members last)
plain_last None = tt
plain_last (Some v) = (
  plain_number 1 v.pulse,
  (plain_list number_data 0 (plain_number 0) (v.first ∷ v.second ∷ []), tt),
)

plain_from : (a : Answer) → AllPlain (from_members a)
plain_from NothingJudged = tt
plain_from (Holds judged) = tt
plain_from (HoldsFrom pulse) = (plain_number 1 pulse, tt)
plain_from (Violated violated judged last) = tt
plain_from (ViolatedLast last) = tt

plain_members : (p : Property) (vs : List PulseVerdict) → AllPlain (property_members p vs)
plain_members p vs = (
  plain_number 1 p.line,
  (
    plain_string 1 (string_bytes p.text),
    (
      plain_number 1 (judged_count p.form vs),
      (
        plain_number 1 (violated_count p.form vs),
        (plain_string 1 (property_answer_word (answer p.form vs)), tt),
      ),
    ),
  ),
)

pub plain_property : (p : Property) (vs : List PulseVerdict) → IsPlain 2 (property_data p vs)
plain_property p vs =
    let last = last_members (last_violated p.form vs) in
    let from = from_members (answer p.form vs) in
    let more = both_plain last from (plain_last (last_violated p.form vs)) (plain_from (answer p.form vs)) in
    let all = both_plain (property_members p vs) (last ++ from) (plain_members p vs) more in
    plain_object 1 (property_members p vs ++ (last ++ from)) all
