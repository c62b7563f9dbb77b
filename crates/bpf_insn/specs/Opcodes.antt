-- The first byte of an instruction (RFC 9669, 3.3 "Instruction Classes"): its class in the low three bits. In the
-- classes of arithmetic and jumps (section 4) bit 3 is the source of the second operand, and the high four bits are the
-- code. In those of loads and stores (section 5) bits 3 and 4 are the size, and the high three bits the mode.
-- ---- the parts of a byte
use Rattle.std.specs.Prelude.{ℕ, ◌+◌, ◌*◌, ◌==◌, nat_lt, not, Bool, false}
use Rattle.bpf_insn.specs.declared.forms.Width.{Width}
use Rattle.bpf_insn.specs.declared.forms.Width.TheVariants.{W32, W64}
use Rattle.bpf_insn.specs.declared.forms.Cond.{Cond}
use Rattle.bpf_insn.specs.declared.forms.Cond.TheVariants as conds
use Rattle.bpf_insn.specs.declared.forms.Size.{Size}
use Rattle.bpf_insn.specs.declared.forms.Size.TheVariants as sizes
use Rattle.bpf_insn.specs.declared.forms.SxSize.{SxSize}
use Rattle.bpf_insn.specs.declared.forms.SxSize.TheVariants as sx_sizes
use Rattle.bpf_insn.specs.declared.forms.Order.{Order}
use Rattle.bpf_insn.specs.declared.forms.Order.TheVariants as orders
use Rattle.bpf_insn.specs.declared.opcode.AluCode.{AluCode}
use Rattle.bpf_insn.specs.declared.opcode.AluCode.TheVariants.{Add, Sub, Mul, Div, Or, And, Lsh, Rsh, Mod, Xor, Mov}
use Rattle.bpf_insn.specs.declared.opcode.AluCode.TheVariants.{Arsh}
use Rattle.bpf_insn.specs.declared.opcode.Source.{Source}
use Rattle.bpf_insn.specs.declared.opcode.Source.TheVariants as source
use Rattle.bpf_insn.specs.declared.opcode.FieldUse.{FieldUse}
use Rattle.bpf_insn.specs.declared.opcode.FieldUse.TheVariants.{Zero, ZeroOrOne, Any}
use Rattle.bpf_insn.specs.declared.opcode.Uses.{Uses}
use Rattle.bpf_insn.specs.declared.opcode.Opcode.{Opcode}
use Rattle.bpf_insn.specs.declared.opcode.Opcode.TheVariants as opcode

-- the classes of arithmetic, ALU and ALU64
abbrev pub alu_class : Width → ℕ
alu_class W32 = 4
alu_class W64 = 7

-- the classes of jumps, JMP32 and JMP
abbrev pub jump_class : Width → ℕ
jump_class W32 = 6
jump_class W64 = 5

-- the second operand: the immediate (K) or a register (X)
abbrev pub source_bit : Source → ℕ
source_bit source.Imm = 0
source_bit source.Reg = 8

-- the codes of arithmetic (4.1 "Arithmetic instructions")
abbrev pub alu_number : AluCode → ℕ
alu_number Add = 0
alu_number Sub = 1
alu_number Mul = 2
alu_number Div = 3
alu_number Or = 4
alu_number And = 5
alu_number Lsh = 6
alu_number Rsh = 7
alu_number Mod = 9
alu_number Xor = 0xa
alu_number Mov = 0xb
alu_number Arsh = 0xc

-- the codes of conditions (4.3 "Jump instructions")
abbrev pub cond_number : Cond → ℕ
cond_number conds.Eq = 1
cond_number conds.Gt = 2
cond_number conds.Ge = 3
cond_number conds.Set = 4
cond_number conds.Ne = 5
cond_number conds.Sgt = 6
cond_number conds.Sge = 7
cond_number conds.Lt = 0xa
cond_number conds.Le = 0xb
cond_number conds.Slt = 0xc
cond_number conds.Sle = 0xd

-- the sizes (section 5 "Load and Store Instructions")
abbrev pub size_bits : Size → ℕ
size_bits sizes.W = 0
size_bits sizes.H = 8
size_bits sizes.B = 16
size_bits sizes.Dw = 24

abbrev pub sx_size_bits : SxSize → ℕ
sx_size_bits sx_sizes.W = 0
sx_size_bits sx_sizes.H = 8
sx_size_bits sx_sizes.B = 16

-- END (4.2 "Byte Swap Instructions"): of ALU to little-endian with source K, to big-endian with X; of ALU64 always
abbrev pub order_byte : Order → ℕ
order_byte orders.Le = 0xd4
order_byte orders.Be = 0xdc
order_byte orders.Always = 0xd7

-- ---- the byte of each opcode

abbrev pub opcode_byte : Opcode → ℕ
opcode_byte (opcode.Alu code width source) = alu_class width + source_bit source + 16 * alu_number code
opcode_byte (opcode.Neg width) = alu_class width + 0x80
opcode_byte (opcode.Swap order) = order_byte order
opcode_byte opcode.Ja = 0x05
opcode_byte opcode.JaLong = 0x06
opcode_byte (opcode.Branch cond width source) = jump_class width + source_bit source + 16 * cond_number cond
opcode_byte opcode.Call = 0x85
opcode_byte opcode.Exit = 0x95
opcode_byte opcode.LoadImm64 = 0x18
opcode_byte (opcode.Load size) = 0x61 + size_bits size
opcode_byte (opcode.LoadSx size) = 0x81 + sx_size_bits size
opcode_byte (opcode.StoreImm size) = 0x62 + size_bits size
opcode_byte (opcode.StoreReg size) = 0x63 + size_bits size

-- ---- the fields that an opcode uses

-- what the offset of an arithmetic form may hold: DIV and MOD are signed with 1, and MOV from a register may extend the
-- low bits (4.1)
abbrev pub offset_use : AluCode → Source → FieldUse
offset_use Add source = Zero
offset_use Sub source = Zero
offset_use Mul source = Zero
offset_use Div source = ZeroOrOne
offset_use Or source = Zero
offset_use And source = Zero
offset_use Lsh source = Zero
offset_use Rsh source = Zero
offset_use Mod source = ZeroOrOne
offset_use Xor source = Zero
offset_use Mov source.Imm = Zero
offset_use Mov source.Reg = Any
offset_use Arsh source = Zero

-- what each field may hold: an unused one is zero (3.1 "Basic Instruction Encoding")
abbrev pub uses_of : Opcode → Uses
uses_of (opcode.Alu code width source.Imm) =
    record { dst = Any; src = Zero; offset = offset_use code source.Imm; imm = Any }
uses_of (opcode.Alu code width source.Reg) =
    record { dst = Any; src = Any; offset = offset_use code source.Reg; imm = Zero }
uses_of (opcode.Neg width) = record { dst = Any; src = Zero; offset = Zero; imm = Zero }
uses_of (opcode.Swap order) = record { dst = Any; src = Zero; offset = Zero; imm = Any }
uses_of opcode.Ja = record { dst = Zero; src = Zero; offset = Any; imm = Zero }
uses_of opcode.JaLong = record { dst = Zero; src = Zero; offset = Zero; imm = Any }
uses_of (opcode.Branch cond width source.Imm) = record { dst = Any; src = Zero; offset = Any; imm = Any }
uses_of (opcode.Branch cond width source.Reg) = record { dst = Any; src = Any; offset = Any; imm = Zero }
uses_of opcode.Call = record { dst = Zero; src = Zero; offset = Zero; imm = Any }
uses_of opcode.Exit = record { dst = Zero; src = Zero; offset = Zero; imm = Zero }
uses_of opcode.LoadImm64 = record { dst = Any; src = Zero; offset = Zero; imm = Any }
uses_of (opcode.Load size) = record { dst = Any; src = Any; offset = Any; imm = Zero }
uses_of (opcode.LoadSx size) = record { dst = Any; src = Any; offset = Any; imm = Zero }
uses_of (opcode.StoreImm size) = record { dst = Any; src = Zero; offset = Any; imm = Any }
uses_of (opcode.StoreReg size) = record { dst = Any; src = Any; offset = Any; imm = Zero }

-- the field has bits that it may not have
abbrev pub is_stray : FieldUse → ℕ → Bool
is_stray Zero bits = not (bits == 0)
is_stray ZeroOrOne bits = nat_lt 1 bits
is_stray Any bits = false
