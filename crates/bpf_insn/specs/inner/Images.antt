-- Beside Images: what proofs and private contracts alone cite.
use Rattle.std.specs.Prelude.{◌≡◌, ℕ, ◌*◌, ◌≤◌}
use Rattle.std.specs.Prelude.{List, ◌++◌, length, drop}
use Rattle.bpf_insn.specs.declared.forms.Insn.{Insn}
use Rattle.bpf_insn.specs.declared.slot.SlotFault.{SlotFault}
use Rattle.bpf_insn.specs.declared.slot.SlotFault.TheVariants.{Truncated, UnknownOpcode, BadRegister, NonZeroField}
use Rattle.bpf_insn.specs.declared.slot.SlotFault.TheVariants.{BadWidth}
use Rattle.bpf_insn.specs.Encoding.{spelling, InRange, slots_taken}
use Rattle.bpf_insn.specs.declared.image.ImageError.{ImageError}
use Rattle.bpf_insn.specs.declared.image.ImageError.TheVariants as errors

-- the bytes begin with the spelling of this instruction
pub record IsFirst (bytes : List ℕ) (insn : Insn) : Type 0 where
  pub parts : bytes ≡ spelling insn ++ drop (8 * slots_taken insn) bytes
  pub range : InRange insn
  pub whole : 8 * slots_taken insn ≤ length bytes

-- the refusal of a fault at a slot
abbrev pub error_at : SlotFault → ℕ → ImageError
error_at Truncated slot = errors.Truncated slot
error_at UnknownOpcode slot = errors.UnknownOpcode slot
error_at BadRegister slot = errors.BadRegister slot
error_at NonZeroField slot = errors.NonZeroField slot
error_at BadWidth slot = errors.BadWidth slot
