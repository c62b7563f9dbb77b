-- Verdicts and answers, as values of JSON (docs/PROPERTIES.md, "JSON").
use Rattle.std.specs.Prelude.{ℕ, ◌+◌, List, [], ◌∷◌, ◌++◌, codes, flat_map, length, map, string_bytes, Option, Some, None}
use Rattle.serde_json.specs.Data.{Data, string}
use Rattle.json_values.specs.Texts.{json_line}
use Rattle.json_values.specs.Values.{Member, list_data, number_data, object_data}
use Rattle.properties.specs.declared.answers.Answer.{Answer}
use Rattle.properties.specs.declared.answers.Answer.TheVariants.{NothingJudged, Holds, HoldsFrom, Violated, ViolatedLast}
use Rattle.properties.specs.declared.answers.PulseVerdict.{PulseVerdict}
use Rattle.properties.specs.declared.answers.Violation.{Violation}
use Rattle.properties.specs.declared.property.Form.{Form}
use Rattle.properties.specs.declared.property.Property.{Property}
use Rattle.properties.specs.declared.verdicts.PropertyVerdict.{PropertyVerdict}
use Rattle.properties.specs.declared.verdicts.PropertyVerdict.TheVariants as verdicts
use Rattle.properties.specs.Answers.{answer, judged_pulses, last_violation, violations}
use Rattle.properties.specs.Claims.{ClaimedPulse, verdict_at}

-- ---- pulses

abbrev pub verdict_word : PropertyVerdict → List ℕ
verdict_word verdicts.NotJudged = codes "none"
verdict_word verdicts.Holds = codes "yes"
verdict_word (verdicts.Violated i j) = codes "no"

abbrev pub verdict_data : PropertyVerdict → Data
verdict_data v = string (verdict_word v)

-- a pulse, and the verdict on each property in it
abbrev pub pulse_claims_data : ClaimedPulse → Data
pulse_claims_data c = object_data (
    (codes "pulse", number_data c.pulse)
    ∷ (codes "claims", list_data verdict_data c.verdicts)
    ∷ [])

-- ---- counts, which are those of the answer's text

abbrev pub judged_count : Form → List PulseVerdict → ℕ
judged_count form vs = length (judged_pulses form vs)

abbrev pub violated_count : Form → List PulseVerdict → ℕ
violated_count form vs = length (violations (judged_pulses form vs))

abbrev pub last_violated : Form → List PulseVerdict → Option Violation
last_violated form vs = last_violation (violations (judged_pulses form vs))

-- ---- properties

abbrev pub property_answer_word : Answer → List ℕ
property_answer_word NothingJudged = codes "none"
property_answer_word (Holds judged) = codes "holds"
property_answer_word (HoldsFrom pulse) = codes "holds"
property_answer_word (Violated violated judged last) = codes "violated"
property_answer_word (ViolatedLast last) = codes "violated"

-- the last violated pulse, and the first two nodes that violate the property there
abbrev pub last_members : Option Violation → List Member
last_members None = []
last_members (Some v) =
    (codes "last", number_data v.pulse)
    ∷ (codes "nodes", list_data number_data (v.first ∷ v.second ∷ []))
    ∷ []

-- the pulse from which a property of the form `eventually always` holds
abbrev pub from_members : Answer → List Member
from_members NothingJudged = []
from_members (Holds judged) = []
from_members (HoldsFrom pulse) = (codes "from", number_data pulse) ∷ []
from_members (Violated violated judged last) = []
from_members (ViolatedLast last) = []

-- its line in the file and its text, how many pulses were judged and violate it, and the answer
abbrev pub property_members : Property → List PulseVerdict → List Member
property_members p vs =
    (codes "line", number_data p.line)
    ∷ (codes "claim", string (string_bytes p.text))
    ∷ (codes "judged", number_data (judged_count p.form vs))
    ∷ (codes "violated", number_data (violated_count p.form vs))
    ∷ (codes "answer", string (property_answer_word (answer p.form vs)))
    ∷ []

-- a property with the verdicts on it, pulse by pulse
abbrev pub property_data : Property → List PulseVerdict → Data
property_data p vs = object_data (property_members p vs
    ++ (last_members (last_violated p.form vs) ++ from_members (answer p.form vs)))

-- ---- lines

abbrev pub pulse_claims_line : ClaimedPulse → List ℕ
pulse_claims_line c = json_line (pulse_claims_data c)

-- those of the properties from a place on
abbrev pub property_lines_from : ℕ → List Property → List ClaimedPulse → List ℕ
property_lines_from k [] cs = []
property_lines_from k (p ∷ ps) cs =
    json_line (property_data p (map (verdict_at k) cs)) ++ property_lines_from (k + 1) ps cs

-- a line for each pulse, then a line for each property
abbrev pub claims_json : List Property → List ClaimedPulse → List ℕ
claims_json ps cs = flat_map pulse_claims_line cs ++ property_lines_from 0 ps cs
