-- What exploring a bench found of properties, and the lines that say it (docs/PROPERTIES.md, "Explorations").
use Rattle.std.specs.Prelude.{ℕ, ◌+◌, ◌==◌, nat_lt, if◌then◌else◌, Bool, true, false, is_some, List, [], ◌∷◌, ◌++◌, codes, length, slice_get, string_bytes, option_map, Option, Some, None}
use Rattle.std.specs.Option.{option_map_or}
use Rattle.std.specs.Fmt.{decimal}
use Rattle.explored.specs.declared.found.Cause.{Cause}
use Rattle.explored.specs.declared.found.Cause.TheVariants as causes
use Rattle.explored.specs.declared.found.Recovery.{Recovery}
use Rattle.explored.specs.declared.found.Recovery.TheVariants as recoveries
use Rattle.explored.specs.declared.options.Starts.{Starts}
use Rattle.properties.specs.declared.answers.Violation.{Violation}
use Rattle.properties.specs.declared.property.Form.{Form}
use Rattle.properties.specs.declared.property.Form.TheVariants as forms
use Rattle.properties.specs.declared.property.Property.{Property}
use Rattle.properties.specs.Pairs.{has_before}
use Rattle.exploration.specs.declared.claims.ClaimAnswer.{ClaimAnswer}
use Rattle.exploration.specs.declared.claims.ClaimAnswer.TheVariants as answers
use Rattle.exploration.specs.declared.claims.ClaimFound.{ClaimFound}
use Rattle.exploration.specs.declared.claims.ClaimFound.TheVariants as founds
use Rattle.exploration.specs.declared.claims.ClaimsFinding.{ClaimsFinding}
use Rattle.exploration.specs.declared.claims.ClaimsFinding.TheVariants as findings
use Rattle.exploration.specs.Answers.{cause_text, mark_text, marked, tried_text, unfit_name, with_count}

-- ---- answers

-- how many first pulses of a run a property doesn't judge: one, and two if its term is about the pulse before
abbrev pub unjudged : Bool → ℕ
unjudged looks_back = if looks_back then 2 else 1

-- how many first pulses it leaves out: those, and those of `within`
abbrev pub skipped_pulses : Form → Bool → ℕ
skipped_pulses forms.Always looks_back = unjudged looks_back
skipped_pulses forms.EventuallyAlways looks_back = unjudged looks_back
skipped_pulses (forms.Within k) looks_back = if nat_lt k (unjudged looks_back) then unjudged looks_back else k

-- a property that has to hold in each pulse after the first so many, by how it comes to hold for good: if the least number
-- of pulses after which it holds is greater, some run violates it, and likewise if no number is enough
abbrev pub safety_answer : ℕ → Recovery → ClaimAnswer
safety_answer skipped (recoveries.InStep pulses) = if nat_lt skipped pulses then answers.Violated else answers.Holds
safety_answer skipped (recoveries.Luck pulses) = answers.Violated
safety_answer skipped recoveries.HeldOff = answers.Violated
safety_answer skipped recoveries.Unbounded = answers.Violated
safety_answer skipped (recoveries.Unknown memory) = answers.Undecided memory

-- a property that has to hold from some pulse on
abbrev pub liveness_answer : Recovery → ClaimAnswer
liveness_answer (recoveries.InStep pulses) = answers.HoldsAfter pulses
liveness_answer (recoveries.Luck pulses) = answers.MayHoldAfter pulses
liveness_answer recoveries.HeldOff = answers.Prevented
liveness_answer recoveries.Unbounded = answers.Unbounded
liveness_answer (recoveries.Unknown memory) = answers.Undecided memory

abbrev pub form_answer : Form → Bool → Recovery → ClaimAnswer
form_answer forms.Always looks_back recovery = safety_answer (skipped_pulses forms.Always looks_back) recovery
form_answer (forms.Within k) looks_back recovery = safety_answer (skipped_pulses (forms.Within k) looks_back) recovery
form_answer forms.EventuallyAlways looks_back recovery = liveness_answer recovery

-- a counterexample decides
abbrev pub claim_answer : Property → ClaimFound → ClaimAnswer
claim_answer p (founds.Closed states moves recovery violation repeats) = option_map_or
    (λ v. answers.ViolatedBy v.last) violation (form_answer p.form (has_before p.holds.term) recovery)
claim_answer p (founds.Violated states violation) = answers.ViolatedBy violation.last
claim_answer p (founds.Unfinished states cause) = answers.Unfinished cause

-- ---- scenarios

-- the scenario that shows an answer
abbrev pub scenario_in : ClaimFound → Option (List ℕ)
scenario_in (founds.Closed states moves recovery violation repeats) =
    option_map_or (λ v. Some (string_bytes v.scenario)) violation (option_map string_bytes repeats)
scenario_in (founds.Violated states violation) = Some (string_bytes violation.scenario)
scenario_in (founds.Unfinished states cause) = None

-- the place of the first answer that a scenario shows, where the first of these has this place
abbrev pub shown_from : ℕ → List ClaimFound → Option ℕ
shown_from k [] = None
shown_from k (found ∷ rest) = if is_some (scenario_in found) then Some k else shown_from (k + 1) rest

-- the scenario of the answer at a place
abbrev pub scenario_at : Option ClaimFound → List ℕ
scenario_at None = []
scenario_at (Some found) = option_map_or (λ text. text) (scenario_in found) []

-- the scenario of the first answer that has one
abbrev pub shown_scenario : List ClaimFound → List ℕ
shown_scenario found = option_map_or (λ k. scenario_at (slice_get found k)) (shown_from 0 found) []

-- ---- lines

abbrev pub violated_text : Violation → List ℕ
violated_text v = codes "violated in pulse " ++ (decimal v.pulse ++ (codes " by nodes " ++ (decimal v.first
    ++ (codes " and " ++ decimal v.second))))

-- why a search isn't finished
abbrev pub claim_cause_text : Cause → List ℕ
claim_cause_text causes.States = cause_text causes.States
claim_cause_text causes.Transitions = cause_text causes.Transitions
claim_cause_text causes.Pulses = cause_text causes.Pulses
claim_cause_text (causes.Inboxes node choices) = cause_text (causes.Inboxes node choices)
claim_cause_text causes.Counterexample = codes "the property is violated, but no counterexample was made"
claim_cause_text causes.Memory = cause_text causes.Memory

abbrev pub claim_answer_text : ClaimAnswer → List ℕ
claim_answer_text answers.Holds = codes "holds on every path"
claim_answer_text (answers.ViolatedBy last) = violated_text last
claim_answer_text answers.Violated = codes "violated on some path, but no counterexample was made"
claim_answer_text (answers.HoldsAfter pulses) =
    codes "holds on every path after " ++ with_count pulses (codes "pulse")
claim_answer_text (answers.MayHoldAfter pulses) = codes "may hold after "
    ++ (with_count pulses (codes "pulse") ++ codes ": from every reachable state some coins lead there")
claim_answer_text answers.Prevented = codes "can be prevented for ever"
claim_answer_text answers.Unbounded =
    codes "holds in the end, with no bound on the pulses: the adversary can keep the power to violate it"
claim_answer_text (answers.Undecided memory) = codes "not decided: "
    ++ (if memory then codes "--memory allows no more"
    else codes "a state has more choices of coins than --states allows")
claim_answer_text (answers.Unfinished cause) = codes "not finished: " ++ claim_cause_text cause

-- how many states there are, and how many transitions were tried
abbrev pub counts_text : ClaimFound → List ℕ
counts_text (founds.Closed states moves recovery violation repeats) =
    codes " (" ++ (with_count states (codes "state") ++ (codes ", " ++ (with_count moves (codes "transition") ++ codes ")")))
counts_text (founds.Violated states violation) = codes " (" ++ (with_count states (codes "state") ++ codes ")")
counts_text (founds.Unfinished states cause) = codes " (" ++ (with_count states (codes "state") ++ codes ")")

-- that the scenario below shows this answer
abbrev pub follows_text : Bool → List ℕ
follows_text follows = if follows then codes "; a counterexample follows" else []

-- the two lines of a property, each behind the mark
abbrev pub claim_lines : List ℕ → Bool → Property → ClaimFound → List ℕ
claim_lines mark follows p found =
    marked mark (codes "line " ++ (decimal p.line ++ (codes ": " ++ string_bytes p.text)))
    ++ marked mark (codes "  " ++ (claim_answer_text (claim_answer p found)
    ++ (counts_text found ++ follows_text follows)))

-- this is the place of the answer that is shown
abbrev pub is_shown : Option ℕ → ℕ → Bool
is_shown None k = false
is_shown (Some shown) k = shown == k

-- those of the property at a place, if something was found of it
abbrev pub lines_at : List ℕ → Option ℕ → ℕ → Property → Option ClaimFound → List ℕ
lines_at mark shown k p None = []
lines_at mark shown k p (Some found) = claim_lines mark (is_shown shown k) p found

-- those of the properties from a place on
abbrev pub lines_from : List ℕ → Option ℕ → ℕ → List Property → List ClaimFound → List ℕ
lines_from mark shown k [] found = []
lines_from mark shown k (p ∷ ps) found =
    lines_at mark shown k p (slice_get found k) ++ lines_from mark shown (k + 1) ps found

-- who is who, the lines of the properties, and the scenario of the first answer that has one: before it each line is a
-- comment
abbrev pub claims_finding_text : Starts → List Property → ClaimsFinding → List ℕ
claims_finding_text start ps (findings.Unfit unfit) = codes "refused explore " ++ (unfit_name unfit ++ codes "\n")
claims_finding_text start ps (findings.Searched tried found) =
    marked (mark_text (shown_scenario found.items)) (tried_text start tried)
    ++ (lines_from (mark_text (shown_scenario found.items)) (shown_from 0 found.items) 0 ps found.items
    ++ shown_scenario found.items)
