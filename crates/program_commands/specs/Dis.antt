-- What `dis` leaves on its output.
use Rattle.std.specs.Prelude.{ℕ, Bool, List, ◌++◌, codes, Option, Result, Ok, Err, if◌then◌else◌}
use Rattle.bpf_insn.specs.declared.forms.Insn.{Insn}
use Rattle.bpf_insn.specs.declared.image.ImageError.{ImageError}
use Rattle.bpf_asm.specs.Canonical.{canonical_text}
use Rattle.bpf_asm.specs.Listing.{program_listing}
use Rattle.clock_nodes.specs.Listings.{clock_listing}
use Rattle.command_answers.specs.declared.ending.Ending.{Ending}
use Rattle.command_answers.specs.declared.ending.Ending.TheVariants.{Done, Refused}
use Rattle.command_answers.specs.declared.fault.Fault.{Fault}
use Rattle.command_answers.specs.declared.rejection.Unread.TheVariants.{Image}
use Rattle.command_answers.specs.Faults.{IsOutOfMemory}
use Rattle.command_answers.specs.Image.{ReadsImage}
use Rattle.requests.specs.declared.request.ClockOptions.{ClockOptions}
use Rattle.command_answers.specs.Output.{Leaves, LeavesAny}
use Rattle.command_answers.specs.Rejections.{unread_line}

-- what is printed of a program: its canonical text, or its listing where that is asked for (docs/COMMANDS.md, "What dis
-- prints")
abbrev pub dis_text : Bool → List Insn → List ℕ
dis_text list program = if list then program_listing program else canonical_text program

-- the same, or the line of the refusal
abbrev pub listing_text : Bool → Result (List Insn) ImageError → List ℕ
listing_text list (Ok program) = dis_text list program
listing_text list (Err error) = unread_line (Image error) ++ codes "\n"

abbrev pub listing_ending : Result (List Insn) ImageError → Ending
listing_ending (Ok program) = Done
listing_ending (Err error) = Refused

-- what is printed of the program of these bytes, or the line of their refusal
abbrev pub LeavesListing : Option (List ℕ) → Option (List ℕ) → Bool → List ℕ → Result Ending Fault → Type 0
LeavesListing old new list bytes result =
    LeavesAny (ReadsImage bytes) (listing_text list) listing_ending IsOutOfMemory old new result

-- the same of the clock of a rule (docs/CLOCK.md, "The programs")
abbrev pub LeavesClock : Option (List ℕ) → Option (List ℕ) → ClockOptions → Result Ending Fault → Type 0
LeavesClock old new asked ended = Leaves old new (dis_text asked.list (clock_listing asked.rule)) Done ended
