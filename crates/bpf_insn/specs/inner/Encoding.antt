-- Beside Encoding: what proofs and private contracts alone cite.
use Rattle.std.specs.Prelude.{ℕ, ◌^◌, ◌/◌, ℤ}
use Rattle.bpf_insn.specs.declared.forms.Reg.{Reg}
use Rattle.bpf_insn.specs.declared.opcode.Opcode.{Opcode}
use Rattle.bpf_insn.specs.declared.slot.Slot.{Slot}
use Rattle.bpf_insn.specs.declared.forms.Insn.{Insn}
use Rattle.bpf_insn.specs.declared.forms.Insn.TheVariants.{Alu, Neg, Movsx, Swap, Ja, JaLong, Branch, Call, Exit, Load}
use Rattle.bpf_insn.specs.declared.forms.Insn.TheVariants.{LoadSx, StoreReg, StoreImm, LoadImm64}

-- the slot of these fields
abbrev pub slot_with : Opcode → Reg → Reg → ℤ → ℤ → Slot
slot_with opcode dst src offset imm = record { opcode = opcode; dst = dst; src = src; offset = offset; imm = imm }

-- the high half of a wide instruction's value
abbrev pub high_of : Insn → ℕ
high_of (Alu op width dst src) = 0
high_of (Neg width dst) = 0
high_of (Movsx kind dst src) = 0
high_of (Swap order bits dst) = 0
high_of (Ja off) = 0
high_of (JaLong off) = 0
high_of (Branch cond width dst src off) = 0
high_of (Call id) = 0
high_of Exit = 0
high_of (Load size dst base off) = 0
high_of (LoadSx size dst base off) = 0
high_of (StoreReg size base off src) = 0
high_of (StoreImm size base off imm) = 0
high_of (LoadImm64 dst value) = value / 2 ^ 32
