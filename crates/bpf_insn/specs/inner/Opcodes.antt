-- Beside Opcodes: what proofs and private contracts alone cite.
use Rattle.std.specs.Prelude.{ℕ, Bool, true, false, if◌then◌else◌}
use Rattle.bpf_insn.specs.declared.opcode.FieldUse.{FieldUse}
use Rattle.bpf_insn.specs.declared.opcode.Uses.{Uses}
use Rattle.bpf_insn.specs.declared.opcode.Opcode.{Opcode}
use Rattle.bpf_insn.specs.declared.opcode.Opcode.TheVariants as opcode

-- what the fields of a slot may hold, in their order
abbrev pub allowing : FieldUse → FieldUse → FieldUse → FieldUse → Uses
allowing dst src offset imm = record { dst = dst; src = src; offset = offset; imm = imm }

-- takes two slots (3.2 "Wide Instruction Encoding")
abbrev pub is_wide : Opcode → Bool
is_wide (opcode.Alu code width source) = false
is_wide (opcode.Neg width) = false
is_wide (opcode.Swap order) = false
is_wide opcode.Ja = false
is_wide opcode.JaLong = false
is_wide (opcode.Branch cond width source) = false
is_wide opcode.Call = false
is_wide opcode.Exit = false
is_wide opcode.LoadImm64 = true
is_wide (opcode.Load size) = false
is_wide (opcode.LoadSx size) = false
is_wide (opcode.StoreImm size) = false
is_wide (opcode.StoreReg size) = false

-- the slots that it takes
abbrev pub opcode_slots : Opcode → ℕ
opcode_slots opcode = if is_wide opcode then 2 else 1
