-- What the commands that read a scenario leave of its text.
use Rattle.std.proofs.Common.{◌≡◌, ℕ, List, ◌++◌, refl, codes, inl, inr, Option}
use Rattle.std.specs.Prelude.{Result, Ok, Err, IfOk}
use Rattle.std.specs.declared.alloc.AllocError.{AllocError}
use Rattle.scenario_text.specs.declared.refusal.ScenarioError.{ScenarioError}
use Rattle.scenario_text.specs.declared.refusal.ScenarioError.TheVariants as errors
use Rattle.scenario_text.specs.declared.scenario.Scenario.{Scenario}
use Rattle.scenario_text.specs.Lines.{refusal_line}
use Rattle.scenario_text.specs.Texts.{IsDue, IsDueUnlessMemory, ReadsText}
use Rattle.command_answers.specs.declared.ending.Ending.{Ending}
use Rattle.command_answers.specs.declared.ending.Ending.TheVariants.{Violated, Done, Mismatched, Refused, Unfinished}
use Rattle.command_answers.specs.declared.fault.Fault.{Fault}
use Rattle.requests.specs.declared.request.ScenarioRequest.{ScenarioRequest}
use Rattle.command_answers.specs.Output.{Leaves}
use Rattle.command_answers.specs.Said.{SaysAt}
use Rattle.commands.specs.Scenarios.{LeavesFor, LeavesOf}

-- a refusal that isn't for lack of memory
pub due_refused : (text : List ℕ) (error : ScenarioError) → ((gone : AllocError) → error ≡ errors.Memory gone → ⊥)
    → IsDueUnlessMemory text error → IsDue text error
due_refused text errors.TooLong isnt due = due
due_refused text errors.NotToml isnt due = due
due_refused text (errors.UnknownKey place) isnt due = due
due_refused text (errors.MissingKey place key) isnt due = due
due_refused text (errors.WrongKind place key) isnt due = due
due_refused text (errors.OutOfRange place key) isnt due = due
due_refused text (errors.UnknownProgram load) isnt due = due
due_refused text (errors.BadText place key error) isnt due = due
due_refused text (errors.BadRule place key error) isnt due = due
due_refused text (errors.NotAccepted place key slot rule) isnt due = due
due_refused text (errors.Memory gone) isnt due = absurd (isnt gone refl)

-- of the scenario that the text says
pub left_of_scenario : (asked : ScenarioRequest) (text : List ℕ) (old new : Option (List ℕ)) (s : Scenario)
    (ended : Result Ending Fault) → ReadsText text s → LeavesOf asked old new s ended
    → LeavesFor asked old new text ended
left_of_scenario asked text old new s ended reads left = inl (s, reads, left)

-- or of its refusal
pub left_of_refusal : (asked : ScenarioRequest) (text : List ℕ) (old new : Option (List ℕ)) (error : ScenarioError)
    (ended : Result Ending Fault) → IsDue text error → Leaves old new (refusal_line error ++ codes "\n") Refused ended
    → LeavesFor asked old new text ended
left_of_refusal asked text old new error ended due left = inr (inl (error, due, left))

-- an ending of which nothing is said
unsaid_at : (ending : Ending) (old : Option (List ℕ)) → SaysAt ending old old
unsaid_at Done old = refl
unsaid_at Refused old = inl refl
unsaid_at Mismatched old = refl
unsaid_at Violated old = refl
unsaid_at Unfinished old = inl refl

pub unsaid_in : (ended : Result Ending Fault) (old : Option (List ℕ)) → IfOk ended (λ ending. SaysAt ending old old)
unsaid_in (Ok ending) old = unsaid_at ending old
unsaid_in (Err fault) old = tt
