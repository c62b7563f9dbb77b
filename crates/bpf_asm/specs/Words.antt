-- The words of the text and the forms that they name (docs/ASSEMBLER.md, "Words").
use Rattle.std.specs.Prelude.{ℕ, ◌++◌, List, [], codes, Option}
use Rattle.std.specs.List.{find}
use Rattle.std.specs.Str.{bytes_eq}
use Rattle.bpf_insn.specs.declared.forms.Reg.{Reg}
use Rattle.bpf_insn.specs.declared.forms.Reg.TheVariants.{R0, R1, R2, R3, R4, R5, R6, R7, R8, R9, R10}
use Rattle.bpf_insn.specs.declared.forms.AluOp.{AluOp}
use Rattle.bpf_insn.specs.declared.forms.Width.{Width}
use Rattle.bpf_insn.specs.declared.forms.MovsxKind.{MovsxKind}
use Rattle.bpf_insn.specs.declared.forms.Order.{Order}
use Rattle.bpf_insn.specs.declared.forms.SwapBits.{SwapBits}
use Rattle.bpf_insn.specs.declared.forms.Cond.{Cond}
use Rattle.bpf_insn.specs.declared.forms.Size.{Size}
use Rattle.bpf_insn.specs.declared.forms.SxSize.{SxSize}
use Rattle.bpf_insn.specs.declared.forms.AluOp.TheVariants as ops
use Rattle.bpf_insn.specs.declared.forms.Width.TheVariants.{W32, W64}
use Rattle.bpf_insn.specs.declared.forms.MovsxKind.TheVariants as kinds
use Rattle.bpf_insn.specs.declared.forms.Order.TheVariants as orders
use Rattle.bpf_insn.specs.declared.forms.SwapBits.TheVariants as bits
use Rattle.bpf_insn.specs.declared.forms.Cond.TheVariants as conds
use Rattle.bpf_insn.specs.declared.forms.Size.TheVariants as sizes
use Rattle.bpf_insn.specs.declared.forms.SxSize.TheVariants as sx_sizes
use Rattle.bpf_asm.specs.declared.words.Form.{Form}
use Rattle.bpf_asm.specs.declared.words.Form.TheVariants as forms
use Rattle.bpf_asm.specs.declared.forms.TheConstants.{FORMS}
use Rattle.bpf_asm.specs.declared.registers.TheConstants.{REGISTERS}

-- ---- the parts of a word

abbrev pub op_name : AluOp → List ℕ
op_name ops.Add = codes "add"
op_name ops.Sub = codes "sub"
op_name ops.Mul = codes "mul"
op_name ops.Div = codes "div"
op_name ops.Sdiv = codes "sdiv"
op_name ops.Or = codes "or"
op_name ops.And = codes "and"
op_name ops.Lsh = codes "lsh"
op_name ops.Rsh = codes "rsh"
op_name ops.Mod = codes "mod"
op_name ops.Smod = codes "smod"
op_name ops.Xor = codes "xor"
op_name ops.Mov = codes "mov"
op_name ops.Arsh = codes "arsh"

-- the bits that an operation works on
abbrev pub width_digits : Width → List ℕ
width_digits W32 = codes "32"
width_digits W64 = codes "64"

-- a condition's word ends with 32 for 32 bits, and with nothing for 64
abbrev pub jump_digits : Width → List ℕ
jump_digits W32 = codes "32"
jump_digits W64 = []

abbrev pub cond_name : Cond → List ℕ
cond_name conds.Eq = codes "eq"
cond_name conds.Gt = codes "gt"
cond_name conds.Ge = codes "ge"
cond_name conds.Set = codes "set"
cond_name conds.Ne = codes "ne"
cond_name conds.Sgt = codes "sgt"
cond_name conds.Sge = codes "sge"
cond_name conds.Lt = codes "lt"
cond_name conds.Le = codes "le"
cond_name conds.Slt = codes "slt"
cond_name conds.Sle = codes "sle"

abbrev pub order_name : Order → List ℕ
order_name orders.Le = codes "le"
order_name orders.Be = codes "be"
order_name orders.Always = codes "swap"

abbrev pub bits_digits : SwapBits → List ℕ
bits_digits bits.Bits16 = codes "16"
bits_digits bits.Bits32 = codes "32"
bits_digits bits.Bits64 = codes "64"

-- the bytes of a load or a store: 1, 2, 4 or 8
abbrev pub size_letters : Size → List ℕ
size_letters sizes.B = codes "b"
size_letters sizes.H = codes "h"
size_letters sizes.W = codes "w"
size_letters sizes.Dw = codes "dw"

abbrev pub sx_size_letters : SxSize → List ℕ
sx_size_letters sx_sizes.B = codes "b"
sx_size_letters sx_sizes.H = codes "h"
sx_size_letters sx_sizes.W = codes "w"

-- ---- the words

abbrev pub alu_name : AluOp → Width → List ℕ
alu_name op width = op_name op ++ width_digits width

abbrev pub neg_word : Width → List ℕ
neg_word width = codes "neg" ++ width_digits width

-- from how many bits to how many
abbrev pub movsx_word : MovsxKind → List ℕ
movsx_word kinds.From8To32 = codes "sx8_32"
movsx_word kinds.From16To32 = codes "sx16_32"
movsx_word kinds.From8To64 = codes "sx8_64"
movsx_word kinds.From16To64 = codes "sx16_64"
movsx_word kinds.From32To64 = codes "sx32_64"

abbrev pub swap_word : Order → SwapBits → List ℕ
swap_word order bits = order_name order ++ bits_digits bits

abbrev pub branch_word : Cond → Width → List ℕ
branch_word cond width = codes "j" ++ (cond_name cond ++ jump_digits width)

abbrev pub load_word : Size → List ℕ
load_word size = codes "ldx" ++ size_letters size

abbrev pub load_sx_word : SxSize → List ℕ
load_sx_word size = codes "ldsx" ++ sx_size_letters size

abbrev pub store_reg_word : Size → List ℕ
store_reg_word size = codes "stx" ++ size_letters size

abbrev pub store_imm_word : Size → List ℕ
store_imm_word size = codes "st" ++ size_letters size

-- the word of a form
abbrev pub form_word : Form → List ℕ
form_word (forms.Alu op width) = alu_name op width
form_word (forms.Neg width) = neg_word width
form_word (forms.Movsx kind) = movsx_word kind
form_word (forms.Swap order bits) = swap_word order bits
form_word forms.Ja = codes "ja"
form_word forms.JaLong = codes "jal"
form_word (forms.Branch cond width) = branch_word cond width
form_word forms.Call = codes "call"
form_word forms.Exit = codes "exit"
form_word (forms.Load size) = load_word size
form_word (forms.LoadSx size) = load_sx_word size
form_word (forms.StoreReg size) = store_reg_word size
form_word (forms.StoreImm size) = store_imm_word size
form_word forms.LoadImm64 = codes "lddw"

-- the form that a word names, of all forms
abbrev pub form_of : List ℕ → Option Form
form_of word = find (λ form. bytes_eq (form_word form) word) FORMS

-- ---- the registers

abbrev pub register_word : Reg → List ℕ
register_word R0 = codes "r0"
register_word R1 = codes "r1"
register_word R2 = codes "r2"
register_word R3 = codes "r3"
register_word R4 = codes "r4"
register_word R5 = codes "r5"
register_word R6 = codes "r6"
register_word R7 = codes "r7"
register_word R8 = codes "r8"
register_word R9 = codes "r9"
register_word R10 = codes "r10"

-- the register that a word names
abbrev pub register_by_word : List ℕ → Option Reg
register_by_word word = find (λ register. bytes_eq (register_word register) word) REGISTERS
