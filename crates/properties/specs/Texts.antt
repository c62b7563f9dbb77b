-- The text of verdicts and answers (docs/PROPERTIES.md, "Output").
use Rattle.std.specs.Prelude.{ℕ, ◌+◌, ◌&&◌, Bool, true, false, not, List, [], ◌∷◌, ◌++◌, codes, flat_map, string_bytes}
use Rattle.std.specs.Fmt.{decimal}
use Rattle.properties.specs.declared.answers.Answer.{Answer}
use Rattle.properties.specs.declared.answers.Answer.TheVariants.{NothingJudged, Holds, HoldsFrom, Violated, ViolatedLast}
use Rattle.properties.specs.declared.answers.Violation.{Violation}
use Rattle.properties.specs.declared.property.Property.{Property}
use Rattle.properties.specs.declared.verdicts.PropertyVerdict.{PropertyVerdict}
use Rattle.properties.specs.declared.verdicts.PropertyVerdict.TheVariants as verdicts
use Rattle.properties.specs.Claims.{ClaimedPulse, answer_at}

abbrev pub verdict_name : PropertyVerdict → List ℕ
verdict_name verdicts.NotJudged = codes " none"
verdict_name verdicts.Holds = codes " yes"
verdict_name (verdicts.Violated i j) = codes " no"

-- the line of a pulse
abbrev pub claim_line : ClaimedPulse → List ℕ
claim_line c = codes "pulse " ++ (decimal c.pulse ++ (codes " claims" ++ (flat_map verdict_name c.verdicts ++ codes "\n")))

abbrev pub pair_text : Violation → List ℕ
pair_text v = codes " by nodes " ++ (decimal v.first ++ (codes " and " ++ decimal v.second))

-- the pulse, a sign, and the two nodes
abbrev pub violated_by_text : Violation → List ℕ → List ℕ
violated_by_text v sign = decimal v.pulse ++ (sign ++ pair_text v)

abbrev pub property_answer_text : Answer → List ℕ
property_answer_text NothingJudged = codes "no pulse was judged"
property_answer_text (Holds judged) = codes "holds in " ++ (decimal judged ++ codes " pulses")
property_answer_text (HoldsFrom pulse) = codes "holds from pulse " ++ (decimal pulse ++ codes " on")
property_answer_text (Violated violated judged last) = codes "violated in " ++ (decimal violated ++ (codes " of "
    ++ (decimal judged ++ (codes " pulses, last in pulse " ++ violated_by_text last []))))
property_answer_text (ViolatedLast last) = codes "violated in the last judged pulse, " ++ violated_by_text last (codes ",")

-- the two lines of a property
abbrev pub property_lines : Property → Answer → List ℕ
property_lines p a = codes "line " ++ (decimal p.line ++ (codes ": " ++ (string_bytes p.text
    ++ (codes "\n  " ++ (property_answer_text a ++ codes "\n")))))

-- those of the properties from a place on
abbrev pub answer_lines_from : ℕ → List Property → List ClaimedPulse → List ℕ
answer_lines_from k [] cs = []
answer_lines_from k (p ∷ ps) cs = property_lines p (answer_at p.form k cs) ++ answer_lines_from (k + 1) ps cs

-- a line for each pulse, and two for each property
abbrev pub claims_text : List Property → List ClaimedPulse → List ℕ
claims_text ps cs = flat_map claim_line cs ++ answer_lines_from 0 ps cs

-- ---- whether all properties hold

abbrev pub is_violation : Answer → Bool
is_violation NothingJudged = false
is_violation (Holds judged) = false
is_violation (HoldsFrom pulse) = false
is_violation (Violated violated judged last) = true
is_violation (ViolatedLast last) = true

-- no property from a place on is violated
abbrev pub none_violated_from : ℕ → List Property → List ClaimedPulse → Bool
none_violated_from k [] cs = true
none_violated_from k (p ∷ ps) cs =
    not (is_violation (answer_at p.form k cs)) && none_violated_from (k + 1) ps cs

abbrev pub all_hold : List Property → List ClaimedPulse → Bool
all_hold ps cs = none_violated_from 0 ps cs
