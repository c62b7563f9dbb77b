-- The line of a text whose instruction begins at a slot.
use Rattle.std.specs.Prelude.{◌≡◌, ℕ, List, slice_get, Some}
use Rattle.bpf_asm.specs.Listing.{instruction_lines, instruction_slots}

-- one of the instructions of the text, in their order, has this line and this slot
pub record IsLineOfSlot (text : List ℕ) (slot line : ℕ) : Type 0 where
  pub index : ℕ
  pub at_slot : slice_get (instruction_slots text) index ≡ Some slot
  pub on_line : slice_get (instruction_lines text) index ≡ Some line
