-- The ranges that arithmetic and byte swaps give (docs/VERIFIER.md, "Arithmetic on ranges"; RFC 9669, sections 4.1 and
-- 4.2).
use Rattle.std.specs.Prelude.{ℕ, ◌+◌, ◌-◌, ◌*◌, ◌/◌, ◌%◌, ◌^◌, ◌&&◌, nat_lt, nat_le, min, max, if◌then◌else◌}
use Rattle.std.specs.Int.{leading_zeros, w64}
use Rattle.bpf_insn.specs.declared.forms.Width.{Width}
use Rattle.bpf_insn.specs.declared.forms.AluOp.{AluOp}
use Rattle.bpf_insn.specs.declared.forms.AluOp.TheVariants.{Add, Sub, Mul, Div, Sdiv, Or, And, Lsh, Rsh, Mod, Smod, Xor, Mov, Arsh}
use Rattle.bpf_insn.specs.declared.forms.MovsxKind.{MovsxKind}
use Rattle.bpf_insn.specs.declared.forms.Order.{Order}
use Rattle.bpf_insn.specs.declared.forms.SwapBits.{SwapBits}
use Rattle.bpf_insn.specs.Arithmetic.{bits_of, alu_result, neg_result, movsx_result, movsx_width, swap_result, swap_bit_count}
use Rattle.value_range.specs.Span.{Span, span, just, full_of, is_single}

-- [l, h], or every number of the width where h is past it
abbrev pub fitting : ℕ → ℕ → ℕ → Span
fitting bits l h = if nat_lt h (2 ^ bits) then span l h else full_of bits

-- how many bits n has, 0 for 0
abbrev pub bit_length : ℕ → ℕ
bit_length n = 64 - leading_zeros w64 n

-- the all-ones number of n's length in bits
abbrev pub ones_of : ℕ → ℕ
ones_of n = 2 ^ bit_length n - 1

-- a shift to the right, by the low bits of the amount if that is one number
abbrev pub shifted_right : ℕ → Span → Span → Span
shifted_right bits a b = if is_single b then span (a.lo / 2 ^ (b.lo % bits)) (a.hi / 2 ^ (b.lo % bits)) else span 0 a.hi

-- the range of the result, for operands below 2 ^ bits
abbrev pub table : AluOp → ℕ → Span → Span → Span
table Add bits a b = fitting bits (a.lo + b.lo) (a.hi + b.hi)
table Sub bits a b = if nat_le b.hi a.lo then span (a.lo - b.hi) (a.hi - b.lo) else full_of bits
table Mul bits a b = fitting bits (a.lo * b.lo) (a.hi * b.hi)
table Div bits a b = if nat_le 1 b.lo then span (a.lo / b.hi) (a.hi / b.lo) else span 0 a.hi
table Mod bits a b = if nat_le 1 b.lo then span 0 (min a.hi (b.hi - 1)) else span 0 a.hi
table And bits a b = span 0 (min a.hi b.hi)
table Or bits a b = span (max a.lo b.lo) (ones_of (max a.hi b.hi))
table Xor bits a b = span 0 (ones_of (max a.hi b.hi))
table Lsh bits a b =
    if is_single b then fitting bits (a.lo * 2 ^ (b.lo % bits)) (a.hi * 2 ^ (b.lo % bits)) else full_of bits
table Rsh bits a b = shifted_right bits a b
table Arsh bits a b = if nat_lt a.hi (2 ^ (bits - 1)) then shifted_right bits a b else full_of bits
table Mov bits a b = b
table Sdiv bits a b = full_of bits
table Smod bits a b = full_of bits

-- a range with members past the width becomes every number of the width
abbrev pub narrowed : Width → Span → Span
narrowed width a = if nat_lt a.hi (2 ^ bits_of width) then a else full_of (bits_of width)

-- two single numbers give the very result
abbrev pub alu_of : AluOp → Width → Span → Span → Span
alu_of op width a b =
    if is_single a && is_single b
    then just (alu_result op width a.lo b.lo)
    else table op (bits_of width) (narrowed width a) (narrowed width b)

abbrev pub neg_of : Width → Span → Span
neg_of width a = if is_single a then just (neg_result width a.lo) else full_of (bits_of width)

abbrev pub movsx_of : MovsxKind → Span → Span
movsx_of kind a = if is_single a then just (movsx_result kind a.lo) else full_of (bits_of (movsx_width kind))

abbrev pub swap_of : Order → SwapBits → Span → Span
swap_of order bits a = if is_single a then just (swap_result order bits a.lo) else full_of (swap_bit_count bits)
