-- What is said of an ending beside the answer (docs/COMMANDS.md).
use Rattle.std.specs.Prelude.{◌≡◌, ◌⊎◌, ℕ, List, Option}
use Rattle.command_answers.specs.declared.ending.Ending.{Ending}
use Rattle.command_answers.specs.declared.ending.Ending.TheVariants.{Violated, Done, Mismatched, Refused, Unfinished}
use Rattle.command_answers.specs.Faults.{Says}
use Rattle.rule_notes.specs.Words.{IsNote}

-- nothing is said, or so much of a note as was taken
abbrev pub SaysNote : Option (List ℕ) → Option (List ℕ) → Type 0
SaysNote old new = (new ≡ old) ⊎ ((note : List ℕ) × IsNote note × Says old new note)

-- a note may be on a refusal, and on what isn't finished
abbrev pub MayHaveNote : Ending → Type 0
MayHaveNote Refused = Unit {0}
MayHaveNote Unfinished = Unit {0}
MayHaveNote Done = ⊥
MayHaveNote Mismatched = ⊥
MayHaveNote Violated = ⊥

-- what is said of an ending: of a refusal, and of what isn't finished, a note or nothing; of another ending nothing
abbrev pub SaysAt : Ending → Option (List ℕ) → Option (List ℕ) → Type 0
SaysAt Refused old new = SaysNote old new
SaysAt Done old new = new ≡ old
SaysAt Mismatched old new = new ≡ old
SaysAt Violated old new = new ≡ old
SaysAt Unfinished old new = SaysNote old new
