-- What is said of an ending that may have a note.
use Rattle.std.proofs.Common.{List, ℕ, Option}
use Rattle.command_answers.specs.declared.ending.Ending.{Ending}
use Rattle.command_answers.specs.declared.ending.Ending.TheVariants.{Violated, Done, Mismatched, Refused, Unfinished}
use Rattle.command_answers.specs.Said.{MayHaveNote, SaysAt, SaysNote}

pub said_at : (ending : Ending) (old new : Option (List ℕ)) → MayHaveNote ending → SaysNote old new
    → SaysAt ending old new
said_at Refused old new may says = says
said_at Unfinished old new may says = says
said_at Done old new may says = absurd may
said_at Mismatched old new may says = absurd may
said_at Violated old new may says = absurd may
