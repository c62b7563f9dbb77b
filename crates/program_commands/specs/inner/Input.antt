-- Beside Input: what proofs and private contracts alone cite.
use Rattle.std.specs.Prelude.{◌≡◌, ℕ, List, Bool, Result, Ok, Err}
use Rattle.program_commands.specs.declared.program.ProgramRead.{ProgramRead}
use Rattle.command_answers.specs.declared.rejection.Unread.{Unread}
use Rattle.requests.specs.declared.request.ShapeOptions.{ShapeOptions}
use Rattle.requests.specs.Shapes.{HasShape, asked_extent}
use Rattle.command_answers.specs.Input.{IsProgramOfInput, IsUnread}

-- what is read of these bytes under these options: a program, or why there is none
abbrev pub ReadsInput : ShapeOptions → Bool → List ℕ → Result ProgramRead Unread → Type 0
ReadsInput asked text bytes (Ok read) =
    HasShape asked × (read.shape ≡ asked_extent asked) × IsProgramOfInput text bytes read.program
ReadsInput asked text bytes (Err unread) = IsUnread asked text bytes unread
