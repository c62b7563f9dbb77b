-- The value of an exploration has no float, and nests no deeper than six levels.
use Rattle.std.proofs.Common.{ℕ, suc, List, [], ◌∷◌, ◌++◌}
use Rattle.std.specs.Prelude.{codes, map, string_bytes, Option, option_map}
use Rattle.std.specs.List.{AllByRecursion}
use Rattle.hex.specs.Hex.{encode_lower}
use Rattle.serde_json.specs.Data.{string}
use Rattle.json_values.specs.Values.{Member, list_data, number_data, option_data}
use Rattle.json_values.proofs.PlainLemmas.{IsPlain, plain_boolean, plain_list, plain_number, plain_null, plain_object, plain_option, plain_string}
use Rattle.explored.specs.declared.found.Odds.{Odds}
use Rattle.explored.specs.declared.found.TheConstants.{MEAN_UNIT}
use Rattle.explored.specs.declared.found.TheConstants.{ODDS_WHOLE}
use Rattle.exploration.specs.declared.answer.Found.{Found}
use Rattle.exploration.specs.declared.answer.Reach.{Reach}
use Rattle.exploration.specs.declared.answer.Tried.{Tried}
use Rattle.explored.specs.declared.options.AnyStart.{AnyStart}
use Rattle.explored.specs.declared.options.ByteSpan.{ByteSpan}
use Rattle.explored.specs.declared.options.Cells.{Cells}
use Rattle.explored.specs.declared.options.ExploreOptions.{ExploreOptions}
use Rattle.explored.specs.declared.options.MailSpan.{MailSpan}
use Rattle.explored.specs.declared.options.Memories.{Memories}
use Rattle.explored.specs.declared.options.Memories.TheVariants as memories
use Rattle.explored.specs.declared.options.Starts.{Starts}
use Rattle.explored.specs.declared.options.Starts.TheVariants as starts
use Rattle.exploration.specs.Answers.{is_alone}
use Rattle.exploration.specs.declared.claims.ClaimFound.{ClaimFound}
use Rattle.exploration.specs.Claims.{claim_answer, scenario_in}
use Rattle.properties.specs.declared.answers.Violation.{Violation}
use Rattle.properties.specs.declared.property.Property.{Property}
use Rattle.exploration.specs.declared.claims.ClaimAnswer.{ClaimAnswer}
use Rattle.exploration_json.specs.Claims.{answer_pulses, answer_violation, answer_word, claim_answer_members, claim_data, claim_limit, claim_members, claim_search_members, claim_states, claim_transitions, nodes_data, tried_data, tried_members}
use Rattle.exploration_json.specs.Data.{agreed_of, agreement_word, answer_members, any_data, byte_span_data, cells_data, exploration_data, exploration_members, image_data, limit_of, least_mean_of, method_of, mean_data, mean_of, memories_member, node_members, odds_data, odds_most_parts, odds_of, odds_parts, pulses_of, question_members, question_word, reach_data, reach_of, scenario_of, search_members, span_data, spans_data, stabilisation_of, stabilisation_word, start_data, states_of, transitions_of, violated_in, word_data}

abbrev AllPlain : ℕ → List Member → Type 0
AllPlain levels ms = AllByRecursion (λ m. IsPlain levels m.1) ms

both_plain : (levels : ℕ) (ms ns : List Member) → AllPlain levels ms → AllPlain levels ns → AllPlain levels (ms ++ ns)
both_plain levels [] ns first second = second
both_plain levels (m ∷ ms) ns first second = (first.0, both_plain levels ms ns first.1 second)

plain_word : (levels : ℕ) (word : Option (List ℕ)) → IsPlain levels (word_data word)
plain_word levels word = plain_option string levels (plain_string levels) word

plain_count : (levels : ℕ) (count : Option ℕ) → IsPlain levels (option_data number_data count)
plain_count levels count = plain_option number_data levels (plain_number levels) count

plain_numbers : (numbers : List ℕ) → IsPlain 5 (list_data number_data numbers)
plain_numbers numbers = plain_list number_data 4 (plain_number 4) numbers

plain_byte_span : (span : ByteSpan) → IsPlain 1 (byte_span_data span)
plain_byte_span span = plain_list number_data 0 (plain_number 0) (span.first ∷ span.last ∷ [])

plain_cells : (cells : Cells) → IsPlain 3 (cells_data cells)
plain_cells cells =
    plain_object 2 (
    (codes "first", number_data cells.first) ∷ (codes "last", number_data cells.last)
    ∷ (codes "values", list_data byte_span_data cells.values.items) ∷ []
    ) (
      plain_number 2 cells.first,
      (plain_number 2 cells.last, (plain_list byte_span_data 1 plain_byte_span cells.values.items, tt)),
    )

plain_span : (levels : ℕ) (span : MailSpan) → IsPlain (suc levels) (span_data span)
plain_span levels span = plain_list number_data levels (plain_number levels) (span.first ∷ span.last ∷ [])

plain_spans : (levels : ℕ) (spans : List MailSpan) → IsPlain (suc (suc levels)) (spans_data spans)
plain_spans levels spans = plain_list span_data (suc levels) (plain_span levels) spans

plain_image : (levels : ℕ) (image : List ℕ) → IsPlain levels (image_data image)
plain_image levels image = plain_string levels (encode_lower image)

plain_memories : (named : Memories) → IsPlain 4 (memories_member named).1
plain_memories (memories.Cells all) = plain_list cells_data 3 plain_cells all.items
plain_memories (memories.Images images) =
    plain_list image_data 3 (plain_image 3) (map (λ v. v.items) images.items)

plain_any : (any : AnyStart) → IsPlain 5 (any_data any)
plain_any any =
    plain_object 4 (
    memories_member any.memories ∷ (codes "messages", option_data (λ said. spans_data said.items) any.said) ∷ []
    ) (
      plain_memories any.memories,
      (plain_option (λ said. spans_data said.items) 4 (λ said. plain_spans 2 said.items) any.said, tt),
    )

plain_start : (start : Starts) → IsPlain 5 (start_data start)
plain_start starts.Zero = plain_null 5
plain_start (starts.Any any) = plain_any any
plain_start starts.Every = plain_string 5 (codes "every")

plain_nodes : (tried : Tried) → AllPlain 5 (node_members tried)
plain_nodes tried = (
  plain_numbers tried.correct.items,
  (
    plain_boolean 5 tried.has_clock,
    (
      plain_numbers tried.programmed.items,
      (plain_numbers tried.liars.items, (plain_number 5 tried.faults, tt)),
    ),
  ),
)

plain_question : (asked : ExploreOptions) (tried : Tried) → AllPlain 5 (question_members asked tried)
plain_question asked tried = (
  plain_string 5 (question_word asked.question),
  (plain_spans 3 tried.mail.items, (plain_start asked.start, tt)),
)

plain_search : (found : Found) → AllPlain 5 (search_members found)
plain_search found = (
  plain_string 5 (method_of found),
  (plain_number 5 (states_of found), (plain_count 5 (transitions_of found), (plain_word 5 (limit_of found), tt))),
)

plain_mean : (least : Option ℕ) (parts : ℕ) → IsPlain 4 (mean_data least parts)
plain_mean least parts =
    plain_object 3 (
    (codes "least_parts", option_data number_data least) ∷ (codes "of", number_data MEAN_UNIT)
    ∷ (codes "parts", number_data parts) ∷ []
    ) (plain_count 3 least, (plain_number 3 MEAN_UNIT, (plain_number 3 parts, tt)))

plain_reach : (reach : Reach) → IsPlain 4 (reach_data reach)
plain_reach reach =
    plain_object 3 (
    (codes "of", number_data reach.share.of) ∷ (codes "parts", number_data reach.share.parts)
    ∷ (codes "pulses", option_data number_data reach.pulses) ∷ []
    ) (plain_number 3 reach.share.of, (plain_number 3 reach.share.parts, (plain_count 3 reach.pulses, tt)))

plain_counts : (counts : Option (List ℕ)) → IsPlain 4 (option_data (list_data number_data) counts)
plain_counts counts =
    plain_option (list_data number_data) 4 (λ parts. plain_list number_data 3 (plain_number 3) parts) counts

plain_odds : (reach : Option Reach) (told : Odds) → IsPlain 5 (odds_data reach told)
plain_odds reach told =
    plain_object 4 (
    (codes "mean", option_data (mean_data (least_mean_of told)) (mean_of told))
    ∷ (codes "most_parts", option_data (list_data number_data) (odds_most_parts told))
    ∷ (codes "of", number_data ODDS_WHOLE)
    ∷ (codes "parts", option_data (list_data number_data) (odds_parts told))
    ∷ (codes "reach", option_data reach_data reach) ∷ []
    ) (
      plain_option (mean_data (least_mean_of told)) 4 (plain_mean (least_mean_of told)) (mean_of told),
      (
        plain_counts (odds_most_parts told),
        (
          plain_number 4 ODDS_WHOLE,
          (plain_counts (odds_parts told), (plain_option reach_data 4 plain_reach reach, tt)),
        ),
      ),
    )

plain_answer : (tried : Tried) (found : Found) → AllPlain 5 (answer_members tried found)
plain_answer tried found = (
  plain_word 5 (agreement_word (is_alone tried) found),
  (
    plain_count 5 (agreed_of found),
    (
      plain_count 5 (violated_in found),
      (
        plain_word 5 (option_map stabilisation_word (stabilisation_of found)),
        (
          plain_count 5 (pulses_of (stabilisation_of found)),
          (
            plain_option (odds_data (reach_of found)) 5 (plain_odds (reach_of found)) (odds_of found),
            (plain_word 5 (scenario_of found), tt),
          ),
        ),
      ),
    ),
  ),
)

pub plain_exploration : (asked : ExploreOptions) (tried : Tried) (found : Found)
    → IsPlain 6 (exploration_data asked tried found)
plain_exploration asked tried found =
    let last = both_plain 5 (search_members found) (answer_members tried found) (plain_search found)
    (plain_answer tried found) in
    let more = both_plain 5 (question_members asked tried) (search_members found ++ answer_members tried found)
    (plain_question asked tried) last in
    let all = both_plain 5 (node_members tried)
    (question_members asked tried ++ (search_members found ++ answer_members tried found)) (plain_nodes tried) more in
    plain_object 5 (exploration_members asked tried found) all

-- ---- properties

plain_violators : (v : Violation) → IsPlain 5 (nodes_data v)
plain_violators v = plain_numbers (v.first ∷ v.second ∷ [])

plain_claim_answer : (p : Property) (answer : ClaimAnswer) → AllPlain 5 (claim_answer_members p answer)
plain_claim_answer p answer = (
  plain_number 5 p.line,
  (
    plain_string 5 (string_bytes p.text),
    (
      plain_string 5 (answer_word answer),
      (
        plain_count 5 (answer_pulses answer),
        (
          plain_count 5 (option_map (λ v. v.pulse) (answer_violation answer)),
          (plain_option nodes_data 5 plain_violators (answer_violation answer), tt),
        ),
      ),
    ),
  ),
)

plain_claim_search : (found : ClaimFound) → AllPlain 5 (claim_search_members found)
plain_claim_search found = (
  plain_number 5 (claim_states found),
  (
    plain_count 5 (claim_transitions found),
    (plain_word 5 (claim_limit found), (plain_word 5 (scenario_in found), tt)),
  ),
)

pub plain_claim : (p : Property) (found : ClaimFound) → IsPlain 6 (claim_data p found)
plain_claim p found =
    plain_object 5 (claim_members p found)
    (both_plain 5 (claim_answer_members p (claim_answer p found)) (claim_search_members found)
    (plain_claim_answer p (claim_answer p found)) (plain_claim_search found))

plain_tried_members : (asked : ExploreOptions) (tried : Tried) → AllPlain 5 (tried_members asked tried)
plain_tried_members asked tried = (plain_spans 3 tried.mail.items, (plain_start asked.start, tt))

pub plain_tried : (asked : ExploreOptions) (tried : Tried) → IsPlain 6 (tried_data asked tried)
plain_tried asked tried =
    plain_object 5 (node_members tried ++ tried_members asked tried)
    (both_plain 5 (node_members tried) (tried_members asked tried) (plain_nodes tried) (plain_tried_members asked tried))
