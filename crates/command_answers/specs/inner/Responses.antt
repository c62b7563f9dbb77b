-- Beside Output: what private contracts alone cite.
use Rattle.std.specs.Prelude.{◌≡◌, ℕ, List, IsSome, Option, Result, Ok, Err}
use Rattle.std.specs.Io.KnownBytes.{Appends, Keeps}
use Rattle.command_answers.specs.declared.ending.Ending.{Ending}
use Rattle.command_answers.specs.declared.fault.Fault.{Fault}
use Rattle.command_answers.specs.declared.response.Response.{Response}
use Rattle.command_answers.specs.Said.{MayHaveNote}
use Rattle.command_answers.specs.inner.Faults.{IsCut}

-- the text of an answer, with its ending
abbrev pub IsResponse : {A : Type 0} → (A → Type 0) → (A → List ℕ) → (A → Ending) → Response → Type 0
IsResponse {A} IsAnswer text ending response =
    (answer : A) × IsAnswer answer × (response.text.items ≡ text answer) × (response.ending ≡ ending answer)

-- a note is on an ending that may have one
abbrev pub IsNoted : Response → Type 0
IsNoted response = IsSome response.note → MayHaveNote response.ending

-- the whole text with this ending, or its first bytes if a write failed
abbrev pub Writes : Option (List ℕ) → Option (List ℕ) → List ℕ → Ending → Result Ending Fault → Type 0
Writes old new text ending (Ok given) = (given ≡ ending) × Appends old new text
Writes old new text ending (Err fault) = IsCut old new text fault

-- what is written of a response, or the fault before that
abbrev pub Gives : Option (List ℕ) → Option (List ℕ) → Result Response Fault → Result Ending Fault → Type 0
Gives old new (Ok response) ended = Writes old new response.text.items response.ending ended
Gives old new (Err fault) ended = (ended ≡ Err fault) × Keeps old new
