-- What is known after an instruction that keeps the rules (docs/VERIFIER.md, "Outcomes").
use Rattle.std.specs.Prelude.{ℕ, ◌+◌, ◌-◌, ◌*◌, ◌^◌, min, ◌==◌, Bool, true, false, ◌||◌, ◌&&◌, not, nat_le, nat_lt, Option, Some, None, if◌then◌else◌, ℤ}
use Rattle.node_env.specs.Env.{Extent}
use Rattle.node_env.specs.Helpers.{helper_of, answer_limit}
use Rattle.node_env.specs.declared.region.Region.TheVariants.{Mem, Stack}
use Rattle.node_env.specs.declared.helper.Helper.{Helper}
use Rattle.node_env.specs.Dwords.{dword_of}
use Rattle.bpf_insn.specs.declared.forms.Reg.{Reg}
use Rattle.bpf_insn.specs.declared.forms.Width.{Width}
use Rattle.bpf_insn.specs.declared.forms.Width.TheVariants.{W32, W64}
use Rattle.bpf_insn.specs.declared.forms.AluOp.{AluOp}
use Rattle.bpf_insn.specs.declared.forms.AluOp.TheVariants.{Add, Sub, Mov}
use Rattle.bpf_insn.specs.declared.forms.Cond.{Cond}
use Rattle.bpf_insn.specs.declared.forms.Operand.{Operand}
use Rattle.bpf_insn.specs.declared.forms.Operand.TheVariants as operand
use Rattle.bpf_insn.specs.declared.forms.Insn.{Insn}
use Rattle.bpf_insn.specs.declared.forms.Insn.TheVariants as i
use Rattle.bpf_insn.specs.declared.edges.Way.{Way}
use Rattle.bpf_insn.specs.declared.edges.Way.TheVariants.{Onward, Jumping}
use Rattle.bpf_insn.specs.Registers.{register_number}
use Rattle.bpf_insn.specs.Edges.{moved}
use Rattle.bpf_insn.specs.Operands.{access_bytes}
use Rattle.value_range.specs.Span.{Span, span, just, full_of, is_single, meet_of}
use Rattle.value_range.specs.Results.{alu_of, neg_of, movsx_of, swap_of}
use Rattle.value_range.specs.Conditions.{branch_of}
use Rattle.bpf_verify.specs.declared.abstract_value.AbstractValue.{AbstractValue}
use Rattle.bpf_verify.specs.declared.abstract_value.AbstractValue.TheVariants.{Unset, Number, Pointer}
use Rattle.bpf_verify.specs.States.{AbstractState, kind_of}
use Rattle.bpf_verify.specs.Rules.{operand_kind, is_whole, takes_dword}

-- ---- registers

abbrev pub put_kind : (ℕ → AbstractValue) → ℕ → AbstractValue → ℕ → AbstractValue
put_kind kinds number kind other = if other == number then kind else kinds other

abbrev pub with_kinds : AbstractState → (ℕ → AbstractValue) → AbstractState
with_kinds A kinds = record A { kinds = kinds }

abbrev pub with_kind : AbstractState → Reg → AbstractValue → AbstractState
with_kind A register kind = with_kinds A (put_kind A.kinds (register_number register) kind)

-- ---- arithmetic

abbrev pub sum_kind : AbstractValue → AbstractValue → AbstractValue
sum_kind Unset b = Unset
sum_kind (Number a) Unset = Unset
sum_kind (Number a) (Number b) = Number (alu_of Add W64 a b)
sum_kind (Number a) (Pointer region b) = Pointer region (alu_of Add W64 a b)
sum_kind (Pointer region a) Unset = Unset
sum_kind (Pointer region a) (Number b) = Pointer region (alu_of Add W64 a b)
sum_kind (Pointer region a) (Pointer other b) = Unset

abbrev pub difference_kind : AbstractValue → AbstractValue → AbstractValue
difference_kind Unset b = Unset
difference_kind (Number a) Unset = Unset
difference_kind (Number a) (Number b) = Number (alu_of Sub W64 a b)
difference_kind (Number a) (Pointer region b) = Unset
difference_kind (Pointer region a) Unset = Unset
difference_kind (Pointer region a) (Number b) = Pointer region (alu_of Sub W64 a b)
difference_kind (Pointer region a) (Pointer other b) = Unset

abbrev pub of_number_kind : (Span → Span) → AbstractValue → AbstractValue
of_number_kind result Unset = Unset
of_number_kind result (Number a) = Number (result a)
of_number_kind result (Pointer region a) = Unset

abbrev pub of_number_kinds : (Span → Span → Span) → AbstractValue → AbstractValue → AbstractValue
of_number_kinds result Unset b = Unset
of_number_kinds result (Number a) b = of_number_kind (result a) b
of_number_kinds result (Pointer region a) b = Unset

-- of a move the first operand is taken equal to the second; one of 64 bits copies a kind
abbrev pub alu_kind : AluOp → Width → AbstractValue → AbstractValue → AbstractValue
alu_kind Mov W64 a b = b
alu_kind Mov W32 a b = of_number_kind (λ n. alu_of Mov W32 n n) b
alu_kind Add W64 a b = sum_kind a b
alu_kind Sub W64 a b = difference_kind a b
alu_kind op width a b = of_number_kinds (alu_of op width) a b

abbrev pub alu_outcome : AbstractState → AluOp → Width → Reg → Operand → AbstractState
alu_outcome A op width dst src = with_kind A dst (alu_kind op width (kind_of A dst) (operand_kind width src A))

-- ---- loads and stores

-- the range cut to the numbers of `count` bytes; unchanged if it has no greater ones
abbrev pub of_bytes : ℕ → Span → Span
of_bytes count a = span (min a.lo (2 ^ (8 * count) - 1)) (min a.hi (2 ^ (8 * count) - 1))

-- what this many bytes hold, by what is known of their double word
abbrev pub or_full : AbstractValue → ℕ → AbstractValue
or_full Unset count = Number (full_of (8 * count))
or_full (Number a) count = Number (of_bytes count a)
or_full (Pointer region a) count = Pointer region a

abbrev pub entry_at : AbstractState → Option ℕ → ℕ → AbstractValue
entry_at A None count = Number (full_of (8 * count))
entry_at A (Some first) count = or_full (A.entries (dword_of first)) count

abbrev pub lowest_place : AbstractValue → ℤ → Option ℕ
lowest_place Unset off = None
lowest_place (Number a) off = None
lowest_place (Pointer region a) off = moved a.lo off

-- what a load of this many bytes gives, by a pointer of a kind: what is known of the double word that it takes whole,
-- or any number
abbrev pub loaded_kind : AbstractState → AbstractValue → ℤ → ℕ → AbstractValue
loaded_kind A base off count = if takes_dword base off count then entry_at A (lowest_place base off) count
    else Number (full_of (8 * count))

abbrev pub is_between : ℕ → ℕ → ℕ → Bool
is_between first end byte = nat_le first byte && nat_lt byte end

abbrev pub put_written : (ℕ → Bool) → ℕ → ℕ → ℕ → Bool
put_written written first count byte = is_between first (first + count) byte || written byte

-- this many bytes from a place on are written too
abbrev pub with_written : AbstractState → Option ℕ → ℕ → AbstractState
with_written A None count = A
with_written A (Some first) count = record A { written = put_written A.written first count }

-- the bytes surely written after a store of 8 bytes from `first` on: these too for a number, without these otherwise
abbrev pub entry_written : AbstractValue → (ℕ → Bool) → ℕ → ℕ → Bool
entry_written Unset written first byte = not (is_between first (first + 8) byte) && written byte
entry_written (Number a) written first byte = is_between first (first + 8) byte || written byte
entry_written (Pointer region a) written first byte = not (is_between first (first + 8) byte) && written byte

-- a double word holds a value
abbrev pub with_entry : AbstractState → Option ℕ → AbstractValue → AbstractState
with_entry A None value = A
with_entry A (Some first) value = record A {
  written = entry_written value A.written first;
  entries = put_kind A.entries (dword_of first) value;
}

-- nothing is known any more of the double words of the bytes from first on, before end
abbrev pub cleared : (ℕ → AbstractValue) → ℕ → ℕ → ℕ → AbstractValue
cleared entries first end dword =
    if is_between (dword_of first) (dword_of (end + 7)) dword then Unset else entries dword

abbrev pub with_entries : AbstractState → (ℕ → AbstractValue) → AbstractState
with_entries A entries = record A { entries = entries }

abbrev pub with_cleared : AbstractState → Option ℕ → Option ℕ → ℕ → AbstractState
with_cleared A (Some first) (Some last) count = with_entries A (cleared A.entries first (last + count))
with_cleared A first last count = A

-- a store of one whole double word sets its kind; any other store unsets the double words that it may touch, and writes
-- its bytes if its place is one known offset
abbrev pub stored_at : AbstractState → AbstractValue → ℤ → ℕ → AbstractValue → AbstractState
stored_at A Unset off count value = A
stored_at A (Number a) off count value = A
stored_at A (Pointer Mem a) off count value = A
stored_at A (Pointer Stack a) off count value =
    if is_whole a off count then with_entry A (moved a.lo off) value
    else if is_single a
    then with_written (with_cleared A (moved a.lo off) (moved a.hi off) count) (moved a.lo off) count
    else with_cleared A (moved a.lo off) (moved a.hi off) count

-- ---- branches

abbrev pub is_taken : Way → Bool
is_taken Onward = false
is_taken Jumping = true

abbrev pub with_meet : AbstractState → Reg → Option Span → Option AbstractState
with_meet A register None = None
with_meet A register (Some m) = Some (with_kind A register (Number m))

-- both operands are what the condition leaves of them; one register on both sides has what both leave
abbrev pub refined_by : AbstractState → Reg → Operand → Option (Span × Span) → Option AbstractState
refined_by A dst src None = None
refined_by A dst (operand.Imm imm) (Some pair) = Some (with_kind A dst (Number pair.0))
refined_by A dst (operand.Reg register) (Some pair) =
    if register_number register == register_number dst
    then with_meet A dst (meet_of pair.0 pair.1)
    else Some (with_kind (with_kind A dst (Number pair.0)) register (Number pair.1))

abbrev pub branch_outcome : AbstractState → Cond → Width → Reg → Operand → Bool → AbstractValue → AbstractValue → Option AbstractState
branch_outcome A cond width dst src taken Unset b = None
branch_outcome A cond width dst src taken (Pointer region a) b = None
branch_outcome A cond width dst src taken (Number a) Unset = None
branch_outcome A cond width dst src taken (Number a) (Pointer region b) = None
branch_outcome A cond width dst src taken (Number a) (Number b) = refined_by A dst src (branch_of cond width a b taken)

-- the same of the kinds that its operands have
abbrev pub way_outcome : AbstractState → Cond → Width → Reg → Operand → Bool → Option AbstractState
way_outcome A cond width dst src taken =
    branch_outcome A cond width dst src taken (kind_of A dst) (operand_kind width src A)

-- ---- calls

abbrev pub answer_kind : Extent → Option Helper → AbstractValue
answer_kind shape None = Unset
answer_kind shape (Some helper) = Number (span 0 (answer_limit shape.nodes helper - 1))

-- r0 has the answer, and r1 to r5 are unset
abbrev pub called_kinds : AbstractValue → (ℕ → AbstractValue) → ℕ → AbstractValue
called_kinds answer kinds number = if nat_le number 5 then (if number == 0 then answer else Unset) else kinds number

abbrev pub call_outcome : Extent → Option Helper → AbstractState → AbstractState
call_outcome shape helper A = with_kinds A (called_kinds (answer_kind shape helper) A.kinds)

-- ---- the transfer function: the state on an edge, or none if the edge can't be taken

abbrev pub outcome : Extent → Insn → AbstractState → Way → Option AbstractState
outcome shape (i.Alu op width dst src) A way = Some (alu_outcome A op width dst src)
outcome shape (i.Neg width dst) A way = Some (with_kind A dst (of_number_kind (neg_of width) (kind_of A dst)))
outcome shape (i.Movsx kind dst src) A way = Some (with_kind A dst (of_number_kind (movsx_of kind) (kind_of A src)))
outcome shape (i.Swap order bits dst) A way =
    Some (with_kind A dst (of_number_kind (swap_of order bits) (kind_of A dst)))
outcome shape (i.Ja off) A way = Some A
outcome shape (i.JaLong off) A way = Some A
outcome shape (i.Branch cond width dst src off) A way = way_outcome A cond width dst src (is_taken way)
outcome shape (i.Call id) A way = Some (call_outcome shape (helper_of id) A)
outcome shape i.Exit A way = None
outcome shape (i.Load size dst base off) A way =
    Some (with_kind A dst (loaded_kind A (kind_of A base) off (access_bytes size)))
outcome shape (i.LoadSx size dst base off) A way = Some (with_kind A dst (Number (full_of 64)))
outcome shape (i.StoreReg size base off src) A way =
    Some (stored_at A (kind_of A base) off (access_bytes size) (kind_of A src))
outcome shape (i.StoreImm size base off imm) A way =
    Some (stored_at A (kind_of A base) off (access_bytes size) (operand_kind W64 (operand.Imm imm) A))
outcome shape (i.LoadImm64 dst value) A way = Some (with_kind A dst (Number (just value)))
