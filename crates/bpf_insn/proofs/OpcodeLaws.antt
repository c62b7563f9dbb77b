-- The opcode of a byte is the one that is spelled so.
use Rattle.std.proofs.Common.{◌≡◌, ℕ, ◌<◌, ◌≤◌, Bool, true, false, Option, Some, None, refl, sym, ap, ◌∙◌, arith}
use Rattle.std.specs.Prelude.{◌==◌, ◌≢◌, IfSome, IfNone, slice_index_or}
use Rattle.std.proofs.lemmas.Bool.{agree_below_at, eqb-true, ne_eqb}
use Rattle.bpf_insn.specs.declared.forms.Reg.{Reg}
use Rattle.bpf_insn.specs.declared.forms.Reg.TheVariants.{R0, R1, R2, R3, R4, R5, R6, R7, R8, R9, R10}
use Rattle.bpf_insn.specs.declared.forms.Width.TheVariants.{W32, W64}
use Rattle.bpf_insn.specs.declared.opcode.AluCode.TheVariants.{Add, Sub, Mul, Div, Or, And, Lsh, Rsh, Mod, Xor, Mov, Arsh}
use Rattle.bpf_insn.specs.declared.opcode.Source.TheVariants as source
use Rattle.bpf_insn.specs.declared.opcode.Opcode.{Opcode}
use Rattle.bpf_insn.specs.declared.opcode.Opcode.TheVariants.{Alu, Neg, Swap, Ja, JaLong, Branch, Call, Exit, LoadImm64, Load, LoadSx, StoreImm, StoreReg}
use Rattle.bpf_insn.specs.declared.forms.Cond.TheVariants as conds
use Rattle.bpf_insn.specs.declared.forms.Size.TheVariants as sizes
use Rattle.bpf_insn.specs.declared.forms.SxSize.TheVariants as sx_sizes
use Rattle.bpf_insn.specs.declared.forms.Order.TheVariants as orders
use Rattle.bpf_insn.specs.Registers.{register_number}
use Rattle.bpf_insn.specs.inner.Registers.{register_at}
use Rattle.bpf_insn.specs.Opcodes.{opcode_byte, is_stray}
use Rattle.bpf_insn.specs.declared.opcode.FieldUse.{FieldUse}
use Rattle.bpf_insn.specs.declared.opcode.FieldUse.TheVariants.{Zero, ZeroOrOne, Any}
use Rattle.bpf_insn.specs.declared.opcode_table.TheConstants.{OPCODES}

-- what the table has of a byte
unfoldable pub opcode_at : ℕ → Option Opcode
opcode_at byte = slice_index_or OPCODES byte None

abbrev is_of : ℕ → Option Opcode → Bool
is_of byte None = true
is_of byte (Some o) = opcode_byte o == byte

-- an opcode that is read is spelled so
pub opcode_takes : (byte : ℕ) (o : Opcode) → byte < 256 → opcode_at byte ≡ Some o → opcode_byte o ≡ byte
unfolding opcode_at
opcode_takes byte o lt e =
    let test : is_of byte (opcode_at byte) ≡ true = agree_below_at (λ b. is_of b (opcode_at b))
    (λ b. true) 256 byte refl lt in
    eqb-true (opcode_byte o) byte (rw e at test)

-- an opcode is read again
pub opcode_again : (o : Opcode) → opcode_at (opcode_byte o) ≡ Some o
unfolding opcode_at
opcode_again (Alu Add W32 source.Imm) = refl
opcode_again (Alu Add W32 source.Reg) = refl
opcode_again (Alu Add W64 source.Imm) = refl
opcode_again (Alu Add W64 source.Reg) = refl
opcode_again (Alu Sub W32 source.Imm) = refl
opcode_again (Alu Sub W32 source.Reg) = refl
opcode_again (Alu Sub W64 source.Imm) = refl
opcode_again (Alu Sub W64 source.Reg) = refl
opcode_again (Alu Mul W32 source.Imm) = refl
opcode_again (Alu Mul W32 source.Reg) = refl
opcode_again (Alu Mul W64 source.Imm) = refl
opcode_again (Alu Mul W64 source.Reg) = refl
opcode_again (Alu Div W32 source.Imm) = refl
opcode_again (Alu Div W32 source.Reg) = refl
opcode_again (Alu Div W64 source.Imm) = refl
opcode_again (Alu Div W64 source.Reg) = refl
opcode_again (Alu Or W32 source.Imm) = refl
opcode_again (Alu Or W32 source.Reg) = refl
opcode_again (Alu Or W64 source.Imm) = refl
opcode_again (Alu Or W64 source.Reg) = refl
opcode_again (Alu And W32 source.Imm) = refl
opcode_again (Alu And W32 source.Reg) = refl
opcode_again (Alu And W64 source.Imm) = refl
opcode_again (Alu And W64 source.Reg) = refl
opcode_again (Alu Lsh W32 source.Imm) = refl
opcode_again (Alu Lsh W32 source.Reg) = refl
opcode_again (Alu Lsh W64 source.Imm) = refl
opcode_again (Alu Lsh W64 source.Reg) = refl
opcode_again (Alu Rsh W32 source.Imm) = refl
opcode_again (Alu Rsh W32 source.Reg) = refl
opcode_again (Alu Rsh W64 source.Imm) = refl
opcode_again (Alu Rsh W64 source.Reg) = refl
opcode_again (Alu Mod W32 source.Imm) = refl
opcode_again (Alu Mod W32 source.Reg) = refl
opcode_again (Alu Mod W64 source.Imm) = refl
opcode_again (Alu Mod W64 source.Reg) = refl
opcode_again (Alu Xor W32 source.Imm) = refl
opcode_again (Alu Xor W32 source.Reg) = refl
opcode_again (Alu Xor W64 source.Imm) = refl
opcode_again (Alu Xor W64 source.Reg) = refl
opcode_again (Alu Mov W32 source.Imm) = refl
opcode_again (Alu Mov W32 source.Reg) = refl
opcode_again (Alu Mov W64 source.Imm) = refl
opcode_again (Alu Mov W64 source.Reg) = refl
opcode_again (Alu Arsh W32 source.Imm) = refl
opcode_again (Alu Arsh W32 source.Reg) = refl
opcode_again (Alu Arsh W64 source.Imm) = refl
opcode_again (Alu Arsh W64 source.Reg) = refl
opcode_again (Neg W32) = refl
opcode_again (Neg W64) = refl
opcode_again (Swap orders.Le) = refl
opcode_again (Swap orders.Be) = refl
opcode_again (Swap orders.Always) = refl
opcode_again Ja = refl
opcode_again JaLong = refl
opcode_again (Branch conds.Eq W32 source.Imm) = refl
opcode_again (Branch conds.Eq W32 source.Reg) = refl
opcode_again (Branch conds.Eq W64 source.Imm) = refl
opcode_again (Branch conds.Eq W64 source.Reg) = refl
opcode_again (Branch conds.Gt W32 source.Imm) = refl
opcode_again (Branch conds.Gt W32 source.Reg) = refl
opcode_again (Branch conds.Gt W64 source.Imm) = refl
opcode_again (Branch conds.Gt W64 source.Reg) = refl
opcode_again (Branch conds.Ge W32 source.Imm) = refl
opcode_again (Branch conds.Ge W32 source.Reg) = refl
opcode_again (Branch conds.Ge W64 source.Imm) = refl
opcode_again (Branch conds.Ge W64 source.Reg) = refl
opcode_again (Branch conds.Set W32 source.Imm) = refl
opcode_again (Branch conds.Set W32 source.Reg) = refl
opcode_again (Branch conds.Set W64 source.Imm) = refl
opcode_again (Branch conds.Set W64 source.Reg) = refl
opcode_again (Branch conds.Ne W32 source.Imm) = refl
opcode_again (Branch conds.Ne W32 source.Reg) = refl
opcode_again (Branch conds.Ne W64 source.Imm) = refl
opcode_again (Branch conds.Ne W64 source.Reg) = refl
opcode_again (Branch conds.Sgt W32 source.Imm) = refl
opcode_again (Branch conds.Sgt W32 source.Reg) = refl
opcode_again (Branch conds.Sgt W64 source.Imm) = refl
opcode_again (Branch conds.Sgt W64 source.Reg) = refl
opcode_again (Branch conds.Sge W32 source.Imm) = refl
opcode_again (Branch conds.Sge W32 source.Reg) = refl
opcode_again (Branch conds.Sge W64 source.Imm) = refl
opcode_again (Branch conds.Sge W64 source.Reg) = refl
opcode_again (Branch conds.Lt W32 source.Imm) = refl
opcode_again (Branch conds.Lt W32 source.Reg) = refl
opcode_again (Branch conds.Lt W64 source.Imm) = refl
opcode_again (Branch conds.Lt W64 source.Reg) = refl
opcode_again (Branch conds.Le W32 source.Imm) = refl
opcode_again (Branch conds.Le W32 source.Reg) = refl
opcode_again (Branch conds.Le W64 source.Imm) = refl
opcode_again (Branch conds.Le W64 source.Reg) = refl
opcode_again (Branch conds.Slt W32 source.Imm) = refl
opcode_again (Branch conds.Slt W32 source.Reg) = refl
opcode_again (Branch conds.Slt W64 source.Imm) = refl
opcode_again (Branch conds.Slt W64 source.Reg) = refl
opcode_again (Branch conds.Sle W32 source.Imm) = refl
opcode_again (Branch conds.Sle W32 source.Reg) = refl
opcode_again (Branch conds.Sle W64 source.Imm) = refl
opcode_again (Branch conds.Sle W64 source.Reg) = refl
opcode_again Call = refl
opcode_again Exit = refl
opcode_again LoadImm64 = refl
opcode_again (Load sizes.B) = refl
opcode_again (Load sizes.H) = refl
opcode_again (Load sizes.W) = refl
opcode_again (Load sizes.Dw) = refl
opcode_again (StoreImm sizes.B) = refl
opcode_again (StoreImm sizes.H) = refl
opcode_again (StoreImm sizes.W) = refl
opcode_again (StoreImm sizes.Dw) = refl
opcode_again (StoreReg sizes.B) = refl
opcode_again (StoreReg sizes.H) = refl
opcode_again (StoreReg sizes.W) = refl
opcode_again (StoreReg sizes.Dw) = refl
opcode_again (LoadSx sx_sizes.B) = refl
opcode_again (LoadSx sx_sizes.H) = refl
opcode_again (LoadSx sx_sizes.W) = refl

-- what is read of a byte: its opcode, and nothing where no opcode has it
pub opcode_some : (byte : ℕ) (o : Option Opcode) → byte < 256 → o ≡ opcode_at byte
    → IfSome o (λ p. opcode_byte p ≡ byte)
opcode_some byte (Some p) lt e = opcode_takes byte p lt (sym e)
opcode_some byte None lt e = tt

pub opcode_none : (byte : ℕ) (o : Option Opcode) → o ≡ opcode_at byte → IfNone o ((p : Opcode) → opcode_byte p ≢ byte)
opcode_none byte (Some p) e = tt
opcode_none byte None e = λ p same. let again : opcode_at byte ≡ Some p = ap opcode_at (sym same) ∙ opcode_again p in
    absurd cc

pub opcode_is : (byte : ℕ) (o : Option Opcode) → byte < 256 → IfSome o (λ p. opcode_byte p ≡ byte)
    → IfNone o ((p : Opcode) → opcode_byte p ≢ byte)
    → o ≡ opcode_at byte
opcode_is byte (Some p) lt some none = sym (opcode_again p) ∙ ap opcode_at some
opcode_is byte None lt some none = by_answer (opcode_at byte) refl
  where
    by_answer : (read : Option Opcode) → opcode_at byte ≡ read → None ≡ read
    by_answer None e = refl
    by_answer (Some p) e = absurd (none p (opcode_takes byte p lt e))

-- a field may hold no bits, whatever its use
pub none_is_stray : (field : FieldUse) → is_stray field 0 ≡ false
none_is_stray Zero = refl
none_is_stray ZeroOrOne = refl
none_is_stray Any = refl

-- ---- registers

abbrev is_numbered : ℕ → Option Reg → Bool
is_numbered n None = true
is_numbered n (Some r) = register_number r == n

pub register_takes : (n : ℕ) (r : Reg) → n < 16 → register_at n ≡ Some r → register_number r ≡ n
register_takes n r lt e =
    let test : is_numbered n (register_at n) ≡ true = agree_below_at (λ b. is_numbered b (register_at b))
    (λ b. true) 16 n refl lt in
    eqb-true (register_number r) n (rw e at test)

pub register_again : (r : Reg) → register_at (register_number r) ≡ Some r
register_again R0 = refl
register_again R1 = refl
register_again R2 = refl
register_again R3 = refl
register_again R4 = refl
register_again R5 = refl
register_again R6 = refl
register_again R7 = refl
register_again R8 = refl
register_again R9 = refl
register_again R10 = refl

pub number_small : (r : Reg) → register_number r ≤ 10
number_small R0 = omega arith
number_small R1 = omega arith
number_small R2 = omega arith
number_small R3 = omega arith
number_small R4 = omega arith
number_small R5 = omega arith
number_small R6 = omega arith
number_small R7 = omega arith
number_small R8 = omega arith
number_small R9 = omega arith
number_small R10 = omega arith

-- registers of one number are one
pub number_once : (r q : Reg) → register_number r ≡ register_number q → r ≡ q
number_once r q e =
    let h : register_at (register_number r) ≡ Some q = rw e (register_again q) in
    let k = register_again r in
    cc

-- a register of the number, and none above 10: that is the register that is read
pub register_is : (r : Option Reg) (n : ℕ) → IfSome r (λ q. register_number q ≡ n) → IfNone r (10 < n)
    → r ≡ register_at n
register_is (Some q) n some none = sym (register_again q) ∙ ap register_at some
register_is None n some none =
    sym (rw (
      ne_eqb n 0 (omega arith),
      ne_eqb n 1 (omega arith),
      ne_eqb n 2 (omega arith),
      ne_eqb n 3
          (omega arith),
      ne_eqb n 4 (omega arith),
      ne_eqb n 5 (omega arith),
      ne_eqb n 6 (omega arith),
      ne_eqb n 7
          (omega arith),
      ne_eqb n 8 (omega arith),
      ne_eqb n 9 (omega arith),
      ne_eqb n 10 (omega arith),
    ) refl)
