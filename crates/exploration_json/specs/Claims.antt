-- What was found of properties by exploring, as lines of JSON (docs/PROPERTIES.md, "Explorations").
use Rattle.std.specs.Prelude.{ℕ, ◌+◌, List, [], ◌∷◌, ◌++◌, codes, slice_get, string_bytes, Option, Some, None, option_map}
use Rattle.serde_json.specs.Data.{Data, string}
use Rattle.json_values.specs.Texts.{json_line}
use Rattle.json_values.specs.Values.{Member, list_data, number_data, object_data, option_data}
use Rattle.explored.specs.declared.options.ExploreOptions.{ExploreOptions}
use Rattle.properties.specs.declared.answers.Violation.{Violation}
use Rattle.properties.specs.declared.property.Property.{Property}
use Rattle.exploration.specs.declared.answer.Tried.{Tried}
use Rattle.exploration.specs.declared.claims.ClaimAnswer.{ClaimAnswer}
use Rattle.exploration.specs.declared.claims.ClaimAnswer.TheVariants as answers
use Rattle.exploration.specs.declared.claims.ClaimFound.{ClaimFound}
use Rattle.exploration.specs.declared.claims.ClaimFound.TheVariants as founds
use Rattle.exploration.specs.Claims.{claim_answer, scenario_in}
use Rattle.exploration_json.specs.Data.{limit_word, node_members, spans_data, start_data, word_data}

abbrev pub answer_word : ClaimAnswer → List ℕ
answer_word answers.Holds = codes "holds"
answer_word (answers.ViolatedBy last) = codes "violated"
answer_word answers.Violated = codes "violated"
answer_word (answers.HoldsAfter pulses) = codes "certain"
answer_word (answers.MayHoldAfter pulses) = codes "possible"
answer_word answers.Prevented = codes "preventable"
answer_word answers.Unbounded = codes "unbounded"
answer_word (answers.Undecided memory) = codes "undecided"
answer_word (answers.Unfinished cause) = codes "unfinished"

-- after how many pulses it holds, or may hold
abbrev pub answer_pulses : ClaimAnswer → Option ℕ
answer_pulses answers.Holds = None
answer_pulses (answers.ViolatedBy last) = None
answer_pulses answers.Violated = None
answer_pulses (answers.HoldsAfter pulses) = Some pulses
answer_pulses (answers.MayHoldAfter pulses) = Some pulses
answer_pulses answers.Prevented = None
answer_pulses answers.Unbounded = None
answer_pulses (answers.Undecided memory) = None
answer_pulses (answers.Unfinished cause) = None

-- how the counterexample violates it
abbrev pub answer_violation : ClaimAnswer → Option Violation
answer_violation answers.Holds = None
answer_violation (answers.ViolatedBy last) = Some last
answer_violation answers.Violated = None
answer_violation (answers.HoldsAfter pulses) = None
answer_violation (answers.MayHoldAfter pulses) = None
answer_violation answers.Prevented = None
answer_violation answers.Unbounded = None
answer_violation (answers.Undecided memory) = None
answer_violation (answers.Unfinished cause) = None

abbrev pub nodes_data : Violation → Data
nodes_data v = list_data number_data (v.first ∷ v.second ∷ [])

abbrev pub claim_states : ClaimFound → ℕ
claim_states (founds.Closed states moves recovery violation repeats) = states
claim_states (founds.Violated states violation) = states
claim_states (founds.Unfinished states cause) = states

abbrev pub claim_transitions : ClaimFound → Option ℕ
claim_transitions (founds.Closed states moves recovery violation repeats) = Some moves
claim_transitions (founds.Violated states violation) = None
claim_transitions (founds.Unfinished states cause) = None

-- the limit that ended the search
abbrev pub claim_limit : ClaimFound → Option (List ℕ)
claim_limit (founds.Closed states moves recovery violation repeats) = None
claim_limit (founds.Violated states violation) = None
claim_limit (founds.Unfinished states cause) = Some (limit_word cause)

-- the property and its answer
abbrev pub claim_answer_members : Property → ClaimAnswer → List Member
claim_answer_members p answer =
    (codes "line", number_data p.line)
    ∷ (codes "claim", string (string_bytes p.text))
    ∷ (codes "answer", string (answer_word answer))
    ∷ (codes "pulses", option_data number_data (answer_pulses answer))
    ∷ (codes "violated_in", option_data number_data (option_map (λ v. v.pulse) (answer_violation answer)))
    ∷ (codes "nodes", option_data nodes_data (answer_violation answer))
    ∷ []

-- how far the search came, and the scenario that shows the answer
abbrev pub claim_search_members : ClaimFound → List Member
claim_search_members found =
    (codes "states", number_data (claim_states found))
    ∷ (codes "transitions", option_data number_data (claim_transitions found))
    ∷ (codes "limit", word_data (claim_limit found))
    ∷ (codes "scenario", word_data (scenario_in found))
    ∷ []

abbrev pub claim_members : Property → ClaimFound → List Member
claim_members p found = claim_answer_members p (claim_answer p found) ++ claim_search_members found

abbrev pub claim_data : Property → ClaimFound → Data
claim_data p found = object_data (claim_members p found)

-- the line of a property, if something was found of it
abbrev pub claim_line_at : Property → Option ClaimFound → List ℕ
claim_line_at p None = []
claim_line_at p (Some found) = json_line (claim_data p found)

-- those of the properties from a place on
abbrev pub claim_lines_from : ℕ → List Property → List ClaimFound → List ℕ
claim_lines_from k [] found = []
claim_lines_from k (p ∷ ps) found = claim_line_at p (slice_get found k) ++ claim_lines_from (k + 1) ps found

-- the messages and the start
abbrev pub tried_members : ExploreOptions → Tried → List Member
tried_members asked tried =
    (codes "messages", spans_data tried.mail.items)
    ∷ (codes "start", start_data asked.start)
    ∷ []

-- who is who, and what was tried
abbrev pub tried_data : ExploreOptions → Tried → Data
tried_data asked tried = object_data (node_members tried ++ tried_members asked tried)

-- a line of what was tried, and one for each property
abbrev pub explored_claims_json : ExploreOptions → Tried → List Property → List ClaimFound → List ℕ
explored_claims_json asked tried ps found = json_line (tried_data asked tried) ++ claim_lines_from 0 ps found
