-- What `explore --claims` leaves on its output (docs/PROPERTIES.md, "Explorations").
use Rattle.std.specs.Prelude.{◌⊎◌, ◌||◌, ℕ, Bool, true, false, if◌then◌else◌, All, List, [], ◌∷◌, ◌++◌, codes, Option, Some, None, Result, slice_get, ◌+◌}
use Rattle.claim_tokens.specs.declared.errors.ClaimError.{ClaimError}
use Rattle.claim_tokens.specs.Errors.{claims_refusal_line}
use Rattle.command_answers.specs.declared.ending.Ending.{Ending}
use Rattle.command_answers.specs.declared.ending.Ending.TheVariants as endings
use Rattle.command_answers.specs.declared.fault.Fault.{Fault}
use Rattle.command_answers.specs.Faults.{IsOutOfMemory}
use Rattle.command_answers.specs.Output.{Leaves, LeavesAny}
use Rattle.exploration.specs.declared.answer.Tried.{Tried}
use Rattle.exploration.specs.declared.claims.ClaimAnswer.{ClaimAnswer}
use Rattle.exploration.specs.declared.claims.ClaimAnswer.TheVariants as answers
use Rattle.exploration.specs.declared.claims.ClaimFound.{ClaimFound}
use Rattle.exploration.specs.declared.claims.ClaimsFinding.{ClaimsFinding}
use Rattle.exploration.specs.declared.claims.ClaimsFinding.TheVariants as findings
use Rattle.exploration.specs.Claims.{claim_answer, claims_finding_text}
use Rattle.exploration_json.specs.Claims.{explored_claims_json}
use Rattle.explored.specs.declared.options.ExploreOptions.{ExploreOptions}
use Rattle.explored.specs.declared.options.Form.{Form}
use Rattle.explored.specs.declared.options.Form.TheVariants as forms
use Rattle.properties.specs.declared.property.Property.{Property}
use Rattle.property_text.specs.Read.{IsBounded}
use Rattle.requests.specs.declared.request.ClaimedExploreOptions.{ClaimedExploreOptions}
use Rattle.scenario_explorer.specs.Claims.{IsClaimsFinding}
use Rattle.scenario_text.specs.declared.scenario.Scenario.{Scenario}

-- ---- how it ends

abbrev pub is_violated : ClaimAnswer → Bool
is_violated answers.Holds = false
is_violated (answers.ViolatedBy last) = true
is_violated answers.Violated = true
is_violated (answers.HoldsAfter pulses) = false
is_violated (answers.MayHoldAfter pulses) = false
is_violated answers.Prevented = true
is_violated answers.Unbounded = false
is_violated (answers.Undecided memory) = false
is_violated (answers.Unfinished cause) = false

abbrev pub is_open : ClaimAnswer → Bool
is_open answers.Holds = false
is_open (answers.ViolatedBy last) = false
is_open answers.Violated = false
is_open (answers.HoldsAfter pulses) = false
is_open (answers.MayHoldAfter pulses) = false
is_open answers.Prevented = false
is_open answers.Unbounded = false
is_open (answers.Undecided memory) = true
is_open (answers.Unfinished cause) = true

-- this is so of the answer on a property, if something was found of it
abbrev pub answers_so : (ClaimAnswer → Bool) → Property → Option ClaimFound → Bool
answers_so is_so p None = false
answers_so is_so p (Some found) = is_so (claim_answer p found)

-- it is so of some answer, from a place on
abbrev pub some_from : (ClaimAnswer → Bool) → ℕ → List Property → List ClaimFound → Bool
some_from is_so k [] found = false
some_from is_so k (p ∷ ps) found = answers_so is_so p (slice_get found k) || some_from is_so (k + 1) ps found

-- a violated property is a violation; otherwise one that isn't decided is not finished
abbrev pub claims_ending : List Property → List ClaimFound → Ending
claims_ending ps found =
    if some_from is_violated 0 ps found then endings.Violated
    else if some_from is_open 0 ps found then endings.Unfinished else endings.Done

abbrev pub claims_finding_ending : List Property → ClaimsFinding → Ending
claims_finding_ending ps (findings.Unfit unfit) = endings.Refused
claims_finding_ending ps (findings.Searched tried found) = claims_ending ps found.items

-- ---- what it leaves

-- what was tried and found, as lines of JSON or of text
abbrev pub claims_searched_text : Form → ExploreOptions → List Property → Tried → ClaimsFinding → List ClaimFound
    → List ℕ
claims_searched_text forms.Text asked ps tried finding found = claims_finding_text asked.start ps finding
claims_searched_text forms.Json asked ps tried finding found = explored_claims_json asked tried ps found
claims_searched_text (forms.OddsTable first) asked ps tried finding found =
    claims_finding_text asked.start ps finding
claims_searched_text (forms.Graph format) asked ps tried finding found = claims_finding_text asked.start ps finding

-- the line that refuses a scenario, or what was found on it
abbrev pub claims_answer_text : ExploreOptions → List Property → ClaimsFinding → List ℕ
claims_answer_text asked ps (findings.Unfit unfit) = claims_finding_text asked.start ps (findings.Unfit unfit)
claims_answer_text asked ps (findings.Searched tried found) =
    claims_searched_text asked.form asked ps tried (findings.Searched tried found) found.items

-- the lines of the answers on some properties, or the line that refuses their text; their first bytes if a write failed,
-- or nothing if memory ran out. Which properties are those of the text is tested only
abbrev pub LeavesClaimedExplore : Option (List ℕ) → Option (List ℕ) → ClaimedExploreOptions → Scenario
    → Result Ending Fault → Type 0
LeavesClaimedExplore old new asked s ended =
    ((ps : List Property) × All IsBounded ps × LeavesAny (IsClaimsFinding asked.explore s ps)
    (claims_answer_text asked.explore ps) (claims_finding_ending ps) IsOutOfMemory old new ended)
    ⊎ ((error : ClaimError) × (line : ℕ) × (column : ℕ)
    × Leaves old new (claims_refusal_line error line column ++ codes "\n") endings.Refused ended)
