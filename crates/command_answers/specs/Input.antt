-- What a request reads, and why the bytes may have no program (docs/COMMANDS.md).
use Rattle.std.specs.Prelude.{◌≡◌, ℕ, ◌+◌, List, Bool, true, false, Option, Ok, Err}
use Rattle.bench_scenario.specs.declared.run.TheConstants.{MAX_BYTES, MAX_CALLS}
use Rattle.bpf_insn.specs.declared.forms.Insn.{Insn}
use Rattle.stream_io.specs.Streams.{TakesAtMost}
use Rattle.command_answers.specs.declared.input.TheConstants.{IMAGE_BYTES, IMAGE_CALLS, TEXT_BYTES, TEXT_CALLS}
use Rattle.command_answers.specs.declared.input.Input.{Input}
use Rattle.command_answers.specs.declared.input.Input.TheVariants as inputs
use Rattle.command_answers.specs.declared.rejection.Unread.{Unread}
use Rattle.command_answers.specs.declared.rejection.Unread.TheVariants.{Shape, Image, Text}
use Rattle.requests.specs.declared.request.ShapeOptions.{ShapeOptions}
use Rattle.command_answers.specs.AsmText.{ReadsAsmText}
use Rattle.command_answers.specs.Image.{ReadsImage}
use Rattle.requests.specs.Shapes.{HasShape}

-- ---- what is read

-- the most bytes that are read of an input: one more than it may have
abbrev pub max_bytes : Input → ℕ
max_bytes inputs.Nothing = 0
max_bytes inputs.Image = IMAGE_BYTES
max_bytes inputs.Text = TEXT_BYTES + 1
max_bytes inputs.Scenario = MAX_BYTES

-- the most calls of `read` of an input
abbrev pub max_calls : Input → ℕ
max_calls inputs.Nothing = 0
max_calls inputs.Image = IMAGE_CALLS
max_calls inputs.Text = TEXT_CALLS
max_calls inputs.Scenario = MAX_CALLS

-- how much is taken of an input at most
abbrev pub Takes : Input → Option (List ℕ) → Option (List ℕ) → Type 0
Takes inputs.Nothing old new = new ≡ old
Takes inputs.Image old new = TakesAtMost IMAGE_BYTES old new
Takes inputs.Text old new = TakesAtMost (TEXT_BYTES + 1) old new
Takes inputs.Scenario old new = TakesAtMost MAX_BYTES old new

-- a text, if that is asked for, or an image
abbrev pub program_input : Bool → Input
program_input true = inputs.Text
program_input false = inputs.Image

-- what is read if the options have a shape, and nothing if they have none
pub record IsShapedInput (asked : ShapeOptions) (wanted input : Input) : Type 0 where
  pub shaped : HasShape asked → input ≡ wanted
  pub unshaped : (HasShape asked → ⊥) → input ≡ inputs.Nothing

-- ---- what it is

-- the bytes are a text that means this program, or its image (RFC 9669, section 3)
abbrev pub IsProgramOfInput : Bool → List ℕ → List Insn → Type 0
IsProgramOfInput true bytes program = ReadsAsmText bytes (Ok program)
IsProgramOfInput false bytes program = ReadsImage bytes (Ok program)

-- why these options and bytes have no program: the shape comes first. Lack of memory is no reason
abbrev pub IsUnread : ShapeOptions → Bool → List ℕ → Unread → Type 0
IsUnread asked text bytes Shape = HasShape asked → ⊥
IsUnread asked text bytes (Image error) = HasShape asked × (text ≡ false) × ReadsImage bytes (Err error)
IsUnread asked text bytes (Text error) = HasShape asked × (text ≡ true) × ReadsAsmText bytes (Err error)
