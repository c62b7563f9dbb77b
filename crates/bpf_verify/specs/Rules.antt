-- What the verifier asks of an instruction (docs/VERIFIER.md, "Rules"): which rules it breaks.
use Rattle.std.specs.Prelude.{◌≡◌, codes, ℕ, ◌+◌, ◌-◌, ◌%◌, ◌^◌, ◌==◌, Bool, true, false, ◌||◌, ◌&&◌, not, List, [], ◌∷◌, Option, Some, None, is_none, nat_lt, ℤ, pos, negsuc, ◌+ℤ◌}
use Rattle.std.specs.Int.{w64, cast_unsigned}
use Rattle.std.specs.List.{list_any, find, range_with_len}
use Rattle.node_env.specs.Env.{Extent, region_size}
use Rattle.node_env.specs.Helpers.{helper_of, arguments_of, argument_limits}
use Rattle.node_env.specs.declared.region.Region.{Region}
use Rattle.node_env.specs.declared.region.Region.TheVariants.{Mem, Stack}
use Rattle.node_env.specs.declared.helper.Helper.{Helper}
use Rattle.node_env.specs.Dwords.{dword_of, is_aligned}
use Rattle.bpf_insn.specs.declared.forms.Reg.{Reg}
use Rattle.bpf_insn.specs.declared.forms.Reg.TheVariants.{R0, R1, R2}
use Rattle.bpf_insn.specs.declared.forms.Width.{Width}
use Rattle.bpf_insn.specs.declared.forms.Width.TheVariants.{W32, W64}
use Rattle.bpf_insn.specs.declared.forms.AluOp.{AluOp}
use Rattle.bpf_insn.specs.declared.forms.AluOp.TheVariants.{Add, Sub, Mov}
use Rattle.bpf_insn.specs.declared.forms.Operand.{Operand}
use Rattle.bpf_insn.specs.declared.forms.Operand.TheVariants as operand
use Rattle.bpf_insn.specs.declared.forms.Insn.{Insn}
use Rattle.bpf_insn.specs.declared.forms.Insn.TheVariants as i
use Rattle.bpf_insn.specs.declared.edges.Way.TheVariants.{Onward, Jumping}
use Rattle.bpf_insn.specs.Programs.{insn_at}
use Rattle.bpf_insn.specs.Edges.{distance, moved, target}
use Rattle.bpf_insn.specs.Arithmetic.{bits_of}
use Rattle.bpf_insn.specs.declared.operands.Access.{Access}
use Rattle.bpf_insn.specs.Operands.{access_bytes, sx_access_bytes, reads, written_by, is_frame_pointer, load_of, store_of, call_of, is_exit}
use Rattle.value_range.specs.Span.{Span, just, is_single}
use Rattle.value_range.specs.Results.{alu_of}
use Rattle.bpf_verify.specs.declared.abstract_value.AbstractValue.{AbstractValue}
use Rattle.bpf_verify.specs.declared.abstract_value.AbstractValue.TheVariants.{Unset, Number, Pointer}
use Rattle.bpf_verify.specs.declared.rule.Rule.{Rule}
use Rattle.bpf_verify.specs.declared.rule.Rule.TheVariants.{NotForward, BadTarget, UnknownHelper, UnsetRegister, FrameWrite, PointerMisuse, OutOfRegion, UnsetStackByte, BadArgument, ExitNotNumber, NotPointer}
use Rattle.bpf_verify.specs.States.{AbstractState, kind_of}
pub use Rattle.bpf_verify.specs.States.{is_unset_kind, is_pointer_kind, is_number_kind}

-- ---- kinds

-- an immediate is one number of the width's bits, its sign extended
abbrev pub operand_kind : Width → Operand → AbstractState → AbstractValue
operand_kind width (operand.Imm imm) A = Number (just (cast_unsigned w64 imm % 2 ^ bits_of width))
operand_kind width (operand.Reg register) A = kind_of A register

-- ---- 1, not forward: a jump with a negative distance

abbrev pub is_negative : Option ℤ → Bool
is_negative None = false
is_negative (Some (pos n)) = false
is_negative (Some (negsuc n)) = true

abbrev pub goes_back : Insn → Bool
goes_back insn = is_negative (distance insn)

-- ---- 2, bad target: no instruction begins where one of the ways leads

abbrev pub is_astray : List Insn → Option ℕ → Bool
is_astray program None = false
is_astray program (Some slot) = is_none (insn_at program slot)

abbrev pub leads_astray : List Insn → ℕ → Insn → Bool
leads_astray program slot insn =
    is_astray program (target insn slot Onward) || is_astray program (target insn slot Jumping)

-- ---- 3, unknown helper

abbrev pub is_unknown_helper : Option ℤ → Bool
is_unknown_helper None = false
is_unknown_helper (Some id) = is_none (helper_of id)

abbrev pub calls_unknown : Insn → Bool
calls_unknown insn = is_unknown_helper (call_of insn)

-- ---- 4, unset register, and 5, frame write

abbrev pub some_unset : AbstractState → List Reg → Bool
some_unset A registers = list_any (λ register. is_unset_kind (kind_of A register)) registers

abbrev pub reads_unset : Insn → AbstractState → Bool
reads_unset insn A = some_unset A (reads arguments_of insn)

abbrev pub writes_frame : Insn → Bool
writes_frame insn = is_frame_pointer (written_by insn)

-- ---- 6, pointer misuse

-- a pointer's place may be past the end of its region
abbrev pub passes : Extent → Region → Span → Bool
passes shape region a = nat_lt (region_size shape region) a.hi

-- true if two pointers are added, or the sum of a pointer and a number may leave the pointer's region
abbrev pub misuses_sum : Extent → AbstractValue → AbstractValue → Bool
misuses_sum shape Unset b = false
misuses_sum shape (Number a) Unset = false
misuses_sum shape (Number a) (Number b) = false
misuses_sum shape (Number a) (Pointer region b) = passes shape region (alu_of Add W64 a b)
misuses_sum shape (Pointer region a) Unset = false
misuses_sum shape (Pointer region a) (Number b) = passes shape region (alu_of Add W64 a b)
misuses_sum shape (Pointer region a) (Pointer other b) = true

-- true if a pointer is subtracted, or a pointer less a number may leave its region
abbrev pub misuses_difference : Extent → AbstractValue → AbstractValue → Bool
misuses_difference shape a Unset = false
misuses_difference shape Unset (Number b) = false
misuses_difference shape (Number a) (Number b) = false
misuses_difference shape (Pointer region a) (Number b) = passes shape region (alu_of Sub W64 a b)
misuses_difference shape a (Pointer region b) = true

-- true if the operation misuses a pointer: a move of 64 bits copies one, add64 and sub64 may move one, every other
-- operation takes numbers
abbrev pub misuses_operands : Extent → AluOp → Width → AbstractValue → AbstractValue → Bool
misuses_operands shape Mov W64 a b = false
misuses_operands shape Mov W32 a b = is_pointer_kind b
misuses_operands shape Add W64 a b = misuses_sum shape a b
misuses_operands shape Sub W64 a b = misuses_difference shape a b
misuses_operands shape op width a b = is_pointer_kind a || is_pointer_kind b

-- an access that takes one double word whole, whichever pointer of the kind it uses
abbrev pub is_whole : Span → ℤ → ℕ → Bool
is_whole a off count = is_single a && (count == 8 && is_aligned (pos a.lo +ℤ off))

-- an access by a pointer of this kind takes one known double word of the stack whole
abbrev pub takes_dword : AbstractValue → ℤ → ℕ → Bool
takes_dword Unset off count = false
takes_dword (Number a) off count = false
takes_dword (Pointer Mem a) off count = false
takes_dword (Pointer Stack a) off count = is_whole a off count

-- one of this many bytes from a place on is of a kept pointer
abbrev pub touches_written : AbstractState → ℕ → ℕ → Bool
touches_written A place count = list_any (λ byte. is_pointer_kind (A.entries (dword_of byte))) (range_with_len place count)

abbrev pub touches_between : AbstractState → Option ℕ → Option ℕ → ℕ → Bool
touches_between A (Some first) (Some last) count = touches_written A first (last + count - first)
touches_between A first last count = false

abbrev pub touches_byte : AbstractState → AbstractValue → ℤ → ℕ → Bool
touches_byte A Unset off count = false
touches_byte A (Number a) off count = false
touches_byte A (Pointer Mem a) off count = false
touches_byte A (Pointer Stack a) off count = touches_between A (moved a.lo off) (moved a.hi off) count

-- accesses of this many bytes, the first of them from one place to another
abbrev pub may_leave : ℕ → Option ℕ → Option ℕ → ℕ → Bool
may_leave size (Some first) (Some last) count = nat_lt size (last + count)
may_leave size first last count = true

abbrev pub may_leave_region : Extent → AbstractValue → ℤ → ℕ → Bool
may_leave_region shape Unset off count = false
may_leave_region shape (Number a) off count = false
may_leave_region shape (Pointer region a) off count =
    may_leave (region_size shape region) (moved a.lo off) (moved a.hi off) count

-- a load inside the stack may take a byte of a kept pointer, and doesn't take it back
abbrev pub may_take_part : Extent → AbstractState → AbstractValue → ℤ → ℕ → Bool
may_take_part shape A kind off count =
    not (may_leave_region shape kind off count) && (touches_byte A kind off count && not (takes_dword kind off count))

abbrev pub may_misuse_pointer : Extent → Insn → AbstractState → Bool
may_misuse_pointer shape (i.Alu op width dst src) A =
    misuses_operands shape op width (kind_of A dst) (operand_kind width src A)
may_misuse_pointer shape (i.Neg width dst) A = is_pointer_kind (kind_of A dst)
may_misuse_pointer shape (i.Movsx kind dst src) A = is_pointer_kind (kind_of A src)
may_misuse_pointer shape (i.Swap order bits dst) A = is_pointer_kind (kind_of A dst)
may_misuse_pointer shape (i.Ja off) A = false
may_misuse_pointer shape (i.JaLong off) A = false
may_misuse_pointer shape (i.Branch cond width dst src off) A =
    is_pointer_kind (kind_of A dst) || is_pointer_kind (operand_kind width src A)
may_misuse_pointer shape (i.Call id) A = false
may_misuse_pointer shape i.Exit A = false
may_misuse_pointer shape (i.Load size dst base off) A = may_take_part shape A (kind_of A base) off (access_bytes size)
may_misuse_pointer shape (i.LoadSx size dst base off) A =
    may_take_part shape A (kind_of A base) off (sx_access_bytes size)
may_misuse_pointer shape (i.StoreReg size base off src) A =
    is_pointer_kind (kind_of A src) && not (takes_dword (kind_of A base) off (access_bytes size))
may_misuse_pointer shape (i.StoreImm size base off imm) A = false
may_misuse_pointer shape (i.LoadImm64 dst value) A = false

-- ---- 7, out of region: an access may take a byte below the region or past its end

-- what is asked of an access' base
abbrev pub on_base : (AbstractValue → ℤ → ℕ → Bool) → AbstractState → Option Access → Bool
on_base asked A None = false
on_base asked A (Some access) = asked (kind_of A access.base) access.off access.count

abbrev pub may_leave_regions : Extent → Insn → AbstractState → Bool
may_leave_regions shape insn A =
    on_base (may_leave_region shape) A (load_of insn) || on_base (may_leave_region shape) A (store_of insn)

-- ---- 8, unset stack byte: a load may take a byte that isn't surely written, and takes none of a kept pointer

-- one of this many bytes from a place on isn't surely written
abbrev pub lacks : AbstractState → ℕ → ℕ → Bool
lacks A place count = list_any (λ byte. not (A.written byte)) (range_with_len place count)

abbrev pub lacks_between : AbstractState → Option ℕ → Option ℕ → ℕ → Bool
lacks_between A (Some first) (Some last) count = lacks A first (last + count - first)
lacks_between A first last count = false

abbrev pub lacks_byte : AbstractState → AbstractValue → ℤ → ℕ → Bool
lacks_byte A Unset off count = false
lacks_byte A (Number a) off count = false
lacks_byte A (Pointer Mem a) off count = false
lacks_byte A (Pointer Stack a) off count = lacks_between A (moved a.lo off) (moved a.hi off) count

abbrev pub misses_byte : AbstractState → AbstractValue → ℤ → ℕ → Bool
misses_byte A kind off count = lacks_byte A kind off count && not (touches_byte A kind off count)

abbrev pub loads_unset : Insn → AbstractState → Bool
loads_unset insn A = on_base (misses_byte A) A (load_of insn)

-- ---- 9, bad argument: a register that the helper reads may reach its limit

abbrev pub may_reach : ℕ → AbstractValue → Bool
may_reach limit Unset = false
may_reach limit (Number a) = not (nat_lt a.hi limit)
may_reach limit (Pointer region a) = true

-- r1 or r2 may reach its limit
abbrev pub some_may_reach : List ℕ → AbstractState → Bool
some_may_reach [] A = false
some_may_reach (first ∷ []) A = may_reach first (kind_of A R1)
some_may_reach (first ∷ second ∷ more) A = may_reach first (kind_of A R1) || may_reach second (kind_of A R2)

abbrev pub helper_may_refuse : Extent → Option Helper → AbstractState → Bool
helper_may_refuse shape None A = false
helper_may_refuse shape (Some helper) A = some_may_reach (argument_limits shape.nodes helper) A

abbrev pub call_may_refuse : Extent → Option ℤ → AbstractState → Bool
call_may_refuse shape None A = false
call_may_refuse shape (Some id) A = helper_may_refuse shape (helper_of id) A

abbrev pub misses_argument : Extent → Insn → AbstractState → Bool
misses_argument shape insn A = call_may_refuse shape (call_of insn) A

-- ---- 10, exit without a number, and 11, not a pointer

abbrev pub may_exit_with_pointer : Insn → AbstractState → Bool
may_exit_with_pointer insn A = is_exit insn && is_pointer_kind (kind_of A R0)

abbrev pub is_number_base : AbstractValue → ℤ → ℕ → Bool
is_number_base kind off count = is_number_kind kind

abbrev pub accesses_number : Insn → AbstractState → Bool
accesses_number insn A = on_base is_number_base A (load_of insn) || on_base is_number_base A (store_of insn)

-- ---- the rules

abbrev pub rule_number : Rule → ℕ
rule_number NotForward = 1
rule_number BadTarget = 2
rule_number UnknownHelper = 3
rule_number UnsetRegister = 4
rule_number FrameWrite = 5
rule_number PointerMisuse = 6
rule_number OutOfRegion = 7
rule_number UnsetStackByte = 8
rule_number BadArgument = 9
rule_number ExitNotNumber = 10
rule_number NotPointer = 11

-- the name by which it is told
abbrev pub rule_name : Rule → List ℕ
rule_name NotForward = codes "NotForward"
rule_name BadTarget = codes "BadTarget"
rule_name UnknownHelper = codes "UnknownHelper"
rule_name UnsetRegister = codes "UnsetRegister"
rule_name FrameWrite = codes "FrameWrite"
rule_name PointerMisuse = codes "PointerMisuse"
rule_name OutOfRegion = codes "OutOfRegion"
rule_name UnsetStackByte = codes "UnsetStackByte"
rule_name BadArgument = codes "BadArgument"
rule_name ExitNotNumber = codes "ExitNotNumber"
rule_name NotPointer = codes "NotPointer"

-- what is asked of the state at a slot, if there is one
abbrev pub in_state : Option AbstractState → (AbstractState → Bool) → Bool
in_state None asked = false
in_state (Some A) asked = asked A

-- whether an instruction at a slot, with what is known there, breaks a rule: 1, 2, 3 and 5 are asked also if
-- no state is
abbrev pub breaks : Rule → List Insn → Extent → ℕ → Insn → Option AbstractState → Bool
breaks NotForward program shape slot insn state = goes_back insn
breaks BadTarget program shape slot insn state = leads_astray program slot insn
breaks UnknownHelper program shape slot insn state = calls_unknown insn
breaks UnsetRegister program shape slot insn state = in_state state (reads_unset insn)
breaks FrameWrite program shape slot insn state = writes_frame insn
breaks PointerMisuse program shape slot insn state = in_state state (may_misuse_pointer shape insn)
breaks OutOfRegion program shape slot insn state = in_state state (may_leave_regions shape insn)
breaks UnsetStackByte program shape slot insn state = in_state state (loads_unset insn)
breaks BadArgument program shape slot insn state = in_state state (misses_argument shape insn)
breaks ExitNotNumber program shape slot insn state = in_state state (may_exit_with_pointer insn)
breaks NotPointer program shape slot insn state = in_state state (accesses_number insn)

-- it breaks none
abbrev pub KeepsRules : List Insn → Extent → ℕ → Insn → Option AbstractState → Type 0
KeepsRules program shape slot insn state = (rule : Rule) → breaks rule program shape slot insn state ≡ false

-- the rules in the order of their numbers
abbrev pub rules_in_order : List Rule
rules_in_order =
    NotForward ∷ BadTarget ∷ UnknownHelper ∷ UnsetRegister ∷ FrameWrite ∷ PointerMisuse ∷ OutOfRegion
    ∷ UnsetStackByte ∷ BadArgument ∷ ExitNotNumber ∷ NotPointer ∷ []

-- the rule of the lowest number that it breaks
abbrev pub lowest_broken : List Insn → Extent → ℕ → Insn → Option AbstractState → Option Rule
lowest_broken program shape slot insn state = find (λ rule. breaks rule program shape slot insn state) rules_in_order
