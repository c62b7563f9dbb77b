-- Images of programs, and what is wrong with bytes that are none (RFC 9669, section 3 "Instruction Encoding";
-- docs/INSTRUCTIONS.md).
use Rattle.std.specs.Prelude.{◌≡◌, ◌≢◌, ℕ, ◌*◌, ◌/◌, ◌%◌, ◌<◌, ◌≤◌, ◌==◌, ◌⊎◌, if◌then◌else◌, Bool, true, false, not}
use Rattle.std.specs.Prelude.{List, [], ◌∷◌, ◌++◌, codes, length, take, drop, slice_index, FitsSigned}
use Rattle.std.specs.List.{AllByRecursion, list_any}
use Rattle.std.specs.Fmt.{decimal}
use Rattle.std.specs.Int.{w16, w32, cast_unsigned}
use Rattle.bpf_insn.specs.declared.forms.Insn.{Insn}
use Rattle.bpf_insn.specs.declared.forms.Width.TheVariants.{W32, W64}
use Rattle.bpf_insn.specs.declared.opcode.AluCode.TheVariants.{Mov}
use Rattle.bpf_insn.specs.declared.opcode.Source.TheVariants as source
use Rattle.bpf_insn.specs.declared.opcode.Opcode.{Opcode}
use Rattle.bpf_insn.specs.declared.opcode.Opcode.TheVariants as opcode
use Rattle.bpf_insn.specs.declared.slot.Slot.{Slot}
use Rattle.bpf_insn.specs.declared.slot.SlotFault.{SlotFault}
use Rattle.bpf_insn.specs.declared.slot.SlotFault.TheVariants.{Truncated, UnknownOpcode, BadRegister, NonZeroField}
use Rattle.bpf_insn.specs.declared.slot.SlotFault.TheVariants.{BadWidth}
use Rattle.bpf_insn.specs.Opcodes.{opcode_byte}
use Rattle.bpf_insn.specs.Encoding.{slot_bytes, spelling, has_stray_field, InRange}
use Rattle.bpf_insn.specs.Programs.{image_of, slots_of, IsProgram}
use Rattle.bpf_insn.specs.declared.listing.TheConstants.{MAX_SLOTS}
use Rattle.bpf_insn.specs.declared.image.ImageError.{ImageError}
use Rattle.bpf_insn.specs.declared.image.ImageError.TheVariants as errors

-- ---- what is wrong where an instruction is to begin

-- these eight bytes are at the front
pub record StandsAt (slot : Slot) (bytes : List ℕ) : Type 0 where
  pub offset : FitsSigned w16 slot.offset
  pub imm : FitsSigned w32 slot.imm
  pub parts : bytes ≡ slot_bytes slot ++ drop 8 bytes

-- the field has no valid width: the offset of MOV from a register (4.1), the immediate of END (4.2)
abbrev pub has_bad_width : Slot → Bool
has_bad_width slot = by_opcode slot.opcode
  where
    no_width : ℕ → List ℕ → Bool
    no_width n widths = not (list_any (λ width. n == width) widths)

    by_opcode : Opcode → Bool
    by_opcode (opcode.Alu Mov W32 source.Reg) = no_width (cast_unsigned w16 slot.offset) (0 ∷ 8 ∷ 16 ∷ [])
    by_opcode (opcode.Alu Mov W64 source.Reg) = no_width (cast_unsigned w16 slot.offset) (0 ∷ 8 ∷ 16 ∷ 32 ∷ [])
    by_opcode (opcode.Alu code width source) = false
    by_opcode (opcode.Neg width) = false
    by_opcode (opcode.Swap order) = no_width (cast_unsigned w32 slot.imm) (16 ∷ 32 ∷ 64 ∷ [])
    by_opcode opcode.Ja = false
    by_opcode opcode.JaLong = false
    by_opcode (opcode.Branch cond width source) = false
    by_opcode opcode.Call = false
    by_opcode opcode.Exit = false
    by_opcode opcode.LoadImm64 = false
    by_opcode (opcode.Load size) = false
    by_opcode (opcode.LoadSx size) = false
    by_opcode (opcode.StoreImm size) = false
    by_opcode (opcode.StoreReg size) = false

-- when each fault applies to the bytes from a slot on: too few bytes, then the opcode, the registers, the unused
-- fields, the width
abbrev pub FaultHolds : SlotFault → List ℕ → Type 0
FaultHolds Truncated bytes = (0 < length bytes) × (length bytes < (if slice_index bytes 0 == 0x18 then 16 else 8))
FaultHolds UnknownOpcode bytes = (opcode : Opcode) → opcode_byte opcode ≢ slice_index bytes 0
FaultHolds BadRegister bytes = (10 < slice_index bytes 1 % 16) ⊎ (10 < slice_index bytes 1 / 16)
FaultHolds NonZeroField bytes =
    ((slot : Slot) × StandsAt slot bytes × (has_stray_field slot ≡ true))
    ⊎ ((slice_index bytes 0 ≡ 0x18) × (take 4 (drop 8 bytes) ≢ 0 ∷ 0 ∷ 0 ∷ 0 ∷ []))
FaultHolds BadWidth bytes = (slot : Slot) × StandsAt slot bytes × (has_bad_width slot ≡ true)

-- if several faults apply at one slot, the lowest number is reported
abbrev pub fault_number : SlotFault → ℕ
fault_number Truncated = 3
fault_number UnknownOpcode = 4
fault_number BadRegister = 5
fault_number NonZeroField = 6
fault_number BadWidth = 7

-- bytes are left, no spelling begins here, and this is the fault of the lowest number
pub record IsFaultAt (fault : SlotFault) (bytes : List ℕ) : Type 0 where
  pub left : 0 < length bytes
  pub none : (insn : Insn) (more : List ℕ) → InRange insn → bytes ≢ spelling insn ++ more
  pub holds : FaultHolds fault bytes
  pub lowest : (other : SlotFault) → fault_number other < fault_number fault → FaultHolds other bytes → ⊥

-- spellings are up to the slot, and there is the fault
pub record IsFault (bytes : List ℕ) (slot : ℕ) (fault : SlotFault) : Type 0 where
  pub before : List Insn
  pub rest : List ℕ
  pub in_range : AllByRecursion InRange before
  pub parts : bytes ≡ image_of before ++ rest
  pub place : slots_of before ≡ slot
  pub at : IsFaultAt fault rest

-- why bytes are no image, and where: by the length, and otherwise by the first fault
abbrev pub IsFirstFault : List ℕ → ℕ → SlotFault → Type 0
IsFirstFault bytes slot fault = (length bytes ≤ 8 * MAX_SLOTS) × IsFault bytes slot fault

abbrev pub IsImage : List ℕ → Type 0
IsImage bytes = (program : List Insn) × IsProgram program × (bytes ≡ image_of program)

-- why bytes are not decoded; `Memory` comes only if they are an image
abbrev pub RefusesImage : List ℕ → ImageError → Type 0
RefusesImage bytes errors.Empty = bytes ≡ []
RefusesImage bytes errors.TooLong = 8 * MAX_SLOTS < length bytes
RefusesImage bytes (errors.Truncated slot) = IsFirstFault bytes slot Truncated
RefusesImage bytes (errors.UnknownOpcode slot) = IsFirstFault bytes slot UnknownOpcode
RefusesImage bytes (errors.BadRegister slot) = IsFirstFault bytes slot BadRegister
RefusesImage bytes (errors.NonZeroField slot) = IsFirstFault bytes slot NonZeroField
RefusesImage bytes (errors.BadWidth slot) = IsFirstFault bytes slot BadWidth
RefusesImage bytes errors.Memory = IsImage bytes

-- ---- the text of an error: its name, and the slot that it names (docs/INSTRUCTIONS.md, "Decode errors")

abbrev pub image_error_text : ImageError → List ℕ
image_error_text errors.Empty = codes "Empty"
image_error_text errors.TooLong = codes "TooLong"
image_error_text (errors.Truncated slot) = codes "Truncated slot " ++ decimal slot
image_error_text (errors.UnknownOpcode slot) = codes "UnknownOpcode slot " ++ decimal slot
image_error_text (errors.BadRegister slot) = codes "BadRegister slot " ++ decimal slot
image_error_text (errors.NonZeroField slot) = codes "NonZeroField slot " ++ decimal slot
image_error_text (errors.BadWidth slot) = codes "BadWidth slot " ++ decimal slot
image_error_text errors.Memory = codes "Memory"
