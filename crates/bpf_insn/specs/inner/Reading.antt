-- What the parts of the decoder give: each word here is in the contract of a private function alone. The reader of an
-- instruction (`front`) and `decode` say what they do in the words of Images and Encoding.
use Rattle.std.specs.Prelude.{ℕ, ◌+◌, ◌*◌, ◌^◌, ◌/◌, ◌==◌, if◌then◌else◌, Bool, true, false, bit_and, ℤ, Option, Some}
use Rattle.std.specs.Prelude.{None, Result, Ok, Err, List, [], ◌∷◌, length, nat_lt, slice_index}
use Rattle.std.specs.Int.{w16, w32, cast_signed, cast_unsigned, from_le_bytes}
use Rattle.bpf_insn.specs.declared.forms.Reg.{Reg}
use Rattle.bpf_insn.specs.declared.forms.Width.{Width}
use Rattle.bpf_insn.specs.declared.forms.Width.TheVariants.{W32, W64}
use Rattle.bpf_insn.specs.declared.forms.AluOp.{AluOp}
use Rattle.bpf_insn.specs.declared.forms.AluOp.TheVariants as ops
use Rattle.bpf_insn.specs.declared.forms.Operand.{Operand}
use Rattle.bpf_insn.specs.declared.forms.Operand.TheVariants as operands
use Rattle.bpf_insn.specs.declared.forms.Insn.{Insn}
use Rattle.bpf_insn.specs.declared.forms.Insn.TheVariants as insn
use Rattle.bpf_insn.specs.declared.forms.MovsxKind.{MovsxKind}
use Rattle.bpf_insn.specs.declared.forms.MovsxKind.TheVariants as kinds
use Rattle.bpf_insn.specs.declared.forms.SwapBits.{SwapBits}
use Rattle.bpf_insn.specs.declared.forms.SwapBits.TheVariants as swaps
use Rattle.bpf_insn.specs.declared.forms.Order.{Order}
use Rattle.bpf_insn.specs.declared.opcode.AluCode.{AluCode}
use Rattle.bpf_insn.specs.declared.opcode.AluCode.TheVariants.{Add, Sub, Mul, Div, Or, And, Lsh, Rsh, Mod, Xor, Mov}
use Rattle.bpf_insn.specs.declared.opcode.AluCode.TheVariants.{Arsh}
use Rattle.bpf_insn.specs.declared.opcode.Source.{Source}
use Rattle.bpf_insn.specs.declared.opcode.Source.TheVariants as source
use Rattle.bpf_insn.specs.declared.opcode.Opcode.{Opcode}
use Rattle.bpf_insn.specs.declared.opcode.Opcode.TheVariants as opcode
use Rattle.bpf_insn.specs.declared.slot.Slot.{Slot}
use Rattle.bpf_insn.specs.declared.slot.SlotFault.{SlotFault}
use Rattle.bpf_insn.specs.declared.slot.SlotFault.TheVariants.{Truncated, BadRegister, NonZeroField, BadWidth}
use Rattle.bpf_insn.specs.Encoding.{has_stray_field}
use Rattle.bpf_insn.specs.inner.Opcodes.{is_wide, opcode_slots}
use Rattle.bpf_insn.specs.inner.Registers.{register_at}

-- ---- slots

infixl 10 ◌>>=◌
abbrev pub ◌>>=◌ : {A B : Type 0} → Result A SlotFault → (A → Result B SlotFault) → Result B SlotFault
(Ok x) >>= f = f x
(Err e) >>= f = Err e

-- the value, or otherwise the fault
abbrev pub found : {A : Type 0} → SlotFault → Option A → Result A SlotFault
found fault (Some x) = Ok x
found fault None = Err fault

-- the number of the four bytes from here on
abbrev pub number_read_at : List ℕ → ℕ → ℕ
number_read_at bytes i =
    from_le_bytes w32
    (slice_index bytes i ∷ slice_index bytes (i + 1) ∷ slice_index bytes (i + 2) ∷ slice_index bytes (i + 3) ∷ [])

-- the slot with these registers
abbrev pub fields_at : Opcode → Reg → Reg → List ℕ → Slot
fields_at opcode dst src bytes =
    record {
      opcode = opcode;
      dst = dst;
      src = src;
      offset = cast_signed w16 (from_le_bytes w16 (slice_index bytes 2 ∷ slice_index bytes 3 ∷ []));
      imm = cast_signed w32 (number_read_at bytes 4);
    }

-- the fields after the opcode
unfoldable pub slot_at : Opcode → List ℕ → Result Slot SlotFault
slot_at opcode bytes = do
  dst ← found BadRegister (register_at (bit_and (slice_index bytes 1) 15))
  src ← found BadRegister (register_at (slice_index bytes 1 / 16))
  Ok (fields_at opcode dst src bytes)

-- the high half of a wide instruction, and 0 for another
abbrev pub high_at : Bool → List ℕ → Result ℕ SlotFault
high_at false bytes = Ok 0
high_at true bytes =
    if number_read_at bytes 8 == 0
    then Ok (number_read_at bytes 12)
    else Err NonZeroField

-- the operation of a code where the offset is 0
abbrev pub unsigned_op : AluCode → AluOp
unsigned_op Add = ops.Add
unsigned_op Sub = ops.Sub
unsigned_op Mul = ops.Mul
unsigned_op Div = ops.Div
unsigned_op Or = ops.Or
unsigned_op And = ops.And
unsigned_op Lsh = ops.Lsh
unsigned_op Rsh = ops.Rsh
unsigned_op Mod = ops.Mod
unsigned_op Xor = ops.Xor
unsigned_op Mov = ops.Mov
unsigned_op Arsh = ops.Arsh

-- the operation of a code, and of an offset that is 0 or 1
abbrev pub op_at : AluCode → ℤ → AluOp
op_at Add offset = ops.Add
op_at Sub offset = ops.Sub
op_at Mul offset = ops.Mul
op_at Div offset = if cast_unsigned w16 offset == 0 then ops.Div else ops.Sdiv
op_at Or offset = ops.Or
op_at And offset = ops.And
op_at Lsh offset = ops.Lsh
op_at Rsh offset = ops.Rsh
op_at Mod offset = if cast_unsigned w16 offset == 0 then ops.Mod else ops.Smod
op_at Xor offset = ops.Xor
op_at Mov offset = ops.Mov
op_at Arsh offset = ops.Arsh

abbrev pub operand_at : Source → Slot → Operand
operand_at source.Imm s = operands.Imm s.imm
operand_at source.Reg s = operands.Reg s.src

-- what a move of these bits extends
abbrev pub kind_at : Width → ℤ → Option MovsxKind
kind_at W32 offset =
    if cast_unsigned w16 offset == 8 then Some kinds.From8To32
    else if cast_unsigned w16 offset == 16 then Some kinds.From16To32
    else None
kind_at W64 offset =
    if cast_unsigned w16 offset == 8 then Some kinds.From8To64
    else if cast_unsigned w16 offset == 16 then Some kinds.From16To64
    else if cast_unsigned w16 offset == 32 then Some kinds.From32To64
    else None

abbrev pub extension_by : Slot → Option MovsxKind → Result Insn SlotFault
extension_by s (Some kind) = Ok (insn.Movsx kind s.dst s.src)
extension_by s None = Err BadWidth

abbrev pub move_at : Width → Slot → Result Insn SlotFault
move_at width s =
    if cast_unsigned w16 s.offset == 0
    then Ok (insn.Alu ops.Mov width s.dst (operands.Reg s.src))
    else extension_by s (kind_at width s.offset)

abbrev pub alu_insn_at : AluCode → Width → Source → Slot → Result Insn SlotFault
alu_insn_at Mov width source.Reg s = move_at width s
alu_insn_at code width source s = Ok (insn.Alu (op_at code s.offset) width s.dst (operand_at source s))

abbrev pub swap_bits_at : ℤ → Option SwapBits
swap_bits_at imm =
    if cast_unsigned w32 imm == 16 then Some swaps.Bits16
    else if cast_unsigned w32 imm == 32 then Some swaps.Bits32
    else if cast_unsigned w32 imm == 64 then Some swaps.Bits64
    else None

abbrev pub swap_by : Order → Slot → Option SwapBits → Result Insn SlotFault
swap_by order s (Some bits) = Ok (insn.Swap order bits s.dst)
swap_by order s None = Err BadWidth

-- the instruction of a slot whose unused fields are zero
abbrev pub form_at : Opcode → Slot → ℕ → Result Insn SlotFault
form_at (opcode.Alu code width source) s high = alu_insn_at code width source s
form_at (opcode.Neg width) s high = Ok (insn.Neg width s.dst)
form_at (opcode.Swap order) s high = swap_by order s (swap_bits_at s.imm)
form_at opcode.Ja s high = Ok (insn.Ja s.offset)
form_at opcode.JaLong s high = Ok (insn.JaLong s.imm)
form_at (opcode.Branch cond width source) s high = Ok (insn.Branch cond width s.dst (operand_at source s) s.offset)
form_at opcode.Call s high = Ok (insn.Call s.imm)
form_at opcode.Exit s high = Ok insn.Exit
form_at opcode.LoadImm64 s high = Ok (insn.LoadImm64 s.dst (high * 2 ^ 32 + cast_unsigned w32 s.imm))
form_at (opcode.Load size) s high = Ok (insn.Load size s.dst s.src s.offset)
form_at (opcode.LoadSx size) s high = Ok (insn.LoadSx size s.dst s.src s.offset)
form_at (opcode.StoreImm size) s high = Ok (insn.StoreImm size s.dst s.offset s.imm)
form_at (opcode.StoreReg size) s high = Ok (insn.StoreReg size s.dst s.offset s.src)

-- goes on unless the test says that there is a fault
abbrev pub unless : {A : Type 0} → Bool → SlotFault → Result A SlotFault → Result A SlotFault
unless test fault next = if test then Err fault else next

-- the instruction whose opcode has been read
abbrev pub after_opcode : Opcode → List ℕ → Result Insn SlotFault
after_opcode opcode bytes =
    unless (nat_lt (length bytes) (8 * opcode_slots opcode)) Truncated do
      s ← slot_at opcode bytes
      high ← high_at (is_wide opcode) bytes
      unless (has_stray_field s) NonZeroField (form_at s.opcode s high)
