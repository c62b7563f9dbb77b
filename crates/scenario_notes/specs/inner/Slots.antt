-- Beside Slots: what proofs and private contracts alone cite.
use Rattle.std.specs.Prelude.{◌≡◌, ℕ, List, slice_get, Some}
use Rattle.bpf_insn.specs.declared.forms.Insn.{Insn}
use Rattle.bpf_asm.specs.Listing.{beginnings_from}

-- an instruction of the program begins at the slot, and this is at its place in the list
pub record IsAtSlot (program : List Insn) (lines : List ℕ) (slot line : ℕ) : Type 0 where
  pub index : ℕ
  pub at_slot : slice_get (beginnings_from 0 program) index ≡ Some slot
  pub on_line : slice_get lines index ≡ Some line
