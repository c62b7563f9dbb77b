-- What `asm` leaves on its output.
use Rattle.std.specs.Prelude.{ℕ, Bool, List, ◌++◌, codes, Option, Result, Ok, Err, if◌then◌else◌}
use Rattle.bpf_insn.specs.declared.forms.Insn.{Insn}
use Rattle.bpf_insn.specs.Programs.{image_of}
use Rattle.bpf_asm.specs.declared.text_error.TextError.{TextError}
use Rattle.bpf_asm.specs.Listing.{text_listing}
use Rattle.command_answers.specs.declared.rejection.Unread.TheVariants.{Text}
use Rattle.command_answers.specs.declared.ending.Ending.{Ending}
use Rattle.command_answers.specs.declared.ending.Ending.TheVariants.{Done, Refused}
use Rattle.command_answers.specs.declared.fault.Fault.{Fault}
use Rattle.command_answers.specs.AsmText.{ReadsAsmText}
use Rattle.command_answers.specs.Faults.{IsFaultOfText}
use Rattle.command_answers.specs.Output.{LeavesAny}
use Rattle.command_answers.specs.Rejections.{unread_line}

-- what is printed of the program of a text: its image, or the text's listing where that is asked for
abbrev pub program_text : Bool → List ℕ → List Insn → List ℕ
program_text list text program = if list then text_listing text (image_of program) else image_of program

-- the same, or the line of the refusal
abbrev pub assembled : Bool → List ℕ → Result (List Insn) TextError → List ℕ
assembled list text (Ok program) = program_text list text program
assembled list text (Err error) = unread_line (Text error) ++ codes "\n"

abbrev pub assembled_ending : Result (List Insn) TextError → Ending
assembled_ending (Ok program) = Done
assembled_ending (Err error) = Refused

-- the image of the program that the text means, or its listing, or the line that refuses it
abbrev pub LeavesImage : Option (List ℕ) → Option (List ℕ) → Bool → List ℕ → Result Ending Fault → Type 0
LeavesImage old new list text result =
    LeavesAny (ReadsAsmText text) (assembled list text) assembled_ending (IsFaultOfText text) old new result
