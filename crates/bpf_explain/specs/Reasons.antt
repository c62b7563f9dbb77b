-- Why a rule is broken: what was known, and what the rule asks (docs/VERIFIER.md, "Asking why").
use Rattle.std.specs.Prelude.{ℕ, ◌+◌, ◌-◌, nat_lt, List, [], ◌++◌, codes, Option, Some, None, ℤ, if◌then◌else◌}
use Rattle.std.specs.List.{find}
use Rattle.std.specs.Fmt.{decimal, signed_decimal}
use Rattle.node_env.specs.Env.{Extent, region_size, region_word}
use Rattle.node_env.specs.Helpers.{arguments_of}
use Rattle.node_env.specs.declared.region.Region.{Region}
use Rattle.bpf_insn.specs.declared.forms.Reg.{Reg}
use Rattle.bpf_insn.specs.declared.forms.Reg.TheVariants.{R1, R2}
use Rattle.bpf_insn.specs.declared.forms.Operand.{Operand}
use Rattle.bpf_insn.specs.declared.forms.Operand.TheVariants as operand
use Rattle.bpf_insn.specs.declared.forms.Insn.{Insn}
use Rattle.bpf_insn.specs.declared.forms.Insn.TheVariants as i
use Rattle.bpf_insn.specs.declared.edges.Way.TheVariants.{Onward, Jumping}
use Rattle.bpf_insn.specs.Programs.{insn_at}
use Rattle.bpf_insn.specs.Edges.{distance, moved, target}
use Rattle.bpf_insn.specs.declared.operands.Access.{Access}
use Rattle.bpf_insn.specs.Operands.{access_of, reads, call_of, load_of}
use Rattle.bpf_insn.specs.Registers.{register_number}
use Rattle.bpf_verify.specs.declared.abstract_value.AbstractValue.{AbstractValue}
use Rattle.bpf_verify.specs.declared.abstract_value.AbstractValue.TheVariants.{Unset, Number, Pointer}
use Rattle.bpf_verify.specs.declared.rule.Rule.{Rule}
use Rattle.bpf_verify.specs.declared.rule.Rule.TheVariants.{NotForward, BadTarget, UnknownHelper, UnsetRegister, FrameWrite, PointerMisuse, OutOfRegion, UnsetStackByte, BadArgument, ExitNotNumber, NotPointer}
use Rattle.bpf_verify.specs.declared.findings.Verdict.{Verdict}
use Rattle.bpf_verify.specs.declared.findings.Verdict.TheVariants.{Accepted, Refused}
use Rattle.bpf_verify.specs.declared.findings.Findings.{Findings}
use Rattle.bpf_verify.specs.Findings.{table_in}
use Rattle.bpf_verify.specs.States.{AbstractState, kind_of, is_unset_kind, is_pointer_kind}
use Rattle.bpf_verify.specs.Rules.{operand_kind, is_astray, may_reach, rule_name, rule_number}
use Rattle.bpf_verify.specs.Outcomes.{alu_kind}
use Rattle.bpf_explain.specs.declared.reasons.TheConstants.{WRAPPED}
use Rattle.bpf_explain.specs.Known.{stack_bytes, first_unwritten}

-- ---- jumps and calls

abbrev pub jump_text : Option ℤ → List ℕ
jump_text None = []
jump_text (Some off) = codes "it jumps by " ++ (signed_decimal off ++ codes ", and a jump goes forward")

abbrev pub leads_text : Option ℕ → List ℕ
leads_text None = []
leads_text (Some to) = codes "it leads to slot " ++ (decimal to ++ codes ", where no instruction begins")

-- of the two ways the first that leads to no instruction
abbrev pub astray_way : List Insn → ℕ → Insn → Option ℕ
astray_way program slot insn = if is_astray program (target insn slot Onward) then target insn slot Onward
    else target insn slot Jumping

abbrev pub helper_text : Option ℤ → List ℕ
helper_text None = []
helper_text (Some id) = codes "there is no helper " ++ signed_decimal id

-- ---- registers

abbrev pub register_text : Reg → List ℕ
register_text register = codes "r" ++ decimal (register_number register)

abbrev pub unset_text : Option Reg → List ℕ
unset_text None = []
unset_text (Some register) = register_text register ++ codes " may be unset"

abbrev pub first_unset : AbstractState → Insn → Option Reg
first_unset A insn = find (λ register. is_unset_kind (kind_of A register)) (reads arguments_of insn)

-- ---- pointers

abbrev pub pointer_text : Reg → List ℕ
pointer_text register = register_text register ++ codes " is a pointer, and a number is asked for"

-- the second operand if it is a pointer, otherwise the first
abbrev pub pointer_operand : AbstractState → Reg → Operand → Reg
pointer_operand A dst (operand.Imm imm) = dst
pointer_operand A dst (operand.Reg src) = if is_pointer_kind (kind_of A src) then src else dst

abbrev pub wrapped_text : List ℕ
wrapped_text = codes "the place may wrap below 0; sub64 moves a range of places back, and add64 of a negative number wraps"

-- a place from `WRAPPED` on is a sum that may have wrapped below 0
abbrev pub place_text : Extent → Region → ℕ → List ℕ
place_text shape region place =
    if nat_lt place WRAPPED then codes "the place may be " ++ (decimal place ++ (codes ", and the "
    ++ (region_word region ++ (codes " has " ++ (decimal (region_size shape region) ++ codes " bytes")))))
    else wrapped_text

-- the reason, by the kind of the operation's result: a pointer that may leave its region, or a pointer where a number
-- is required
abbrev pub result_text : Extent → Reg → AbstractValue → List ℕ
result_text shape register Unset = pointer_text register
result_text shape register (Number a) = pointer_text register
result_text shape register (Pointer region a) = place_text shape region a.hi

abbrev pub part_text : List ℕ
part_text = codes "it may take a part of a kept pointer, and one is loaded whole"

abbrev pub kept_text : Reg → List ℕ
kept_text register = register_text register
    ++ codes " is a pointer, and one is kept in a double word of the stack alone"

abbrev pub misuse_text : Extent → AbstractState → Insn → List ℕ
misuse_text shape A (i.Alu op width dst src) =
    result_text shape (pointer_operand A dst src) (alu_kind op width (kind_of A dst) (operand_kind width src A))
misuse_text shape A (i.Neg width dst) = pointer_text dst
misuse_text shape A (i.Movsx kind dst src) = pointer_text src
misuse_text shape A (i.Swap order bits dst) = pointer_text dst
misuse_text shape A (i.Ja off) = []
misuse_text shape A (i.JaLong off) = []
misuse_text shape A (i.Branch cond width dst src off) = pointer_text (pointer_operand A dst src)
misuse_text shape A (i.Call id) = []
misuse_text shape A i.Exit = []
misuse_text shape A (i.Load size dst base off) = part_text
misuse_text shape A (i.LoadSx size dst base off) = part_text
misuse_text shape A (i.StoreReg size base off src) = kept_text src
misuse_text shape A (i.StoreImm size base off imm) = []
misuse_text shape A (i.LoadImm64 dst value) = []

-- ---- accesses

abbrev pub size_text : Region → ℕ → List ℕ
size_text region size = codes "the " ++ (region_word region ++ (codes " has " ++ decimal size))

abbrev pub bytes_line : ℕ → ℕ → Region → ℕ → List ℕ
bytes_line first last region size = codes "bytes " ++ (decimal first ++ (codes ".." ++ (decimal last
    ++ (codes " may be taken, and " ++ size_text region size))))

-- from the first byte of the lowest access to the last of the highest
abbrev pub taken_text : Option ℕ → Option ℕ → ℕ → Region → ℕ → List ℕ
taken_text (Some first) (Some last) count region size = bytes_line first (last + count - 1) region size
taken_text first last count region size = codes "a byte below 0 may be taken"

abbrev pub region_text : Extent → AbstractValue → ℤ → ℕ → List ℕ
region_text shape Unset off count = []
region_text shape (Number a) off count = []
region_text shape (Pointer region a) off count =
    taken_text (moved a.lo off) (moved a.hi off) count region (region_size shape region)

abbrev pub leaves_text : Extent → AbstractState → Option Access → List ℕ
leaves_text shape A None = []
leaves_text shape A (Some access) = region_text shape (kind_of A access.base) access.off access.count

abbrev pub byte_text : Option ℕ → List ℕ
byte_text None = []
byte_text (Some byte) = codes "stack byte " ++ (decimal byte ++ codes " may be unwritten")

abbrev pub bytes_text : AbstractState → Option (ℕ × ℕ) → List ℕ
bytes_text A None = []
bytes_text A (Some bytes) = byte_text (first_unwritten A bytes.0 bytes.1)

abbrev pub unwritten_text : Extent → AbstractState → Option Access → List ℕ
unwritten_text shape A None = []
unwritten_text shape A (Some access) =
    bytes_text A (stack_bytes shape (kind_of A access.base) access.off access.count)

abbrev pub base_text : Option Access → List ℕ
base_text None = []
base_text (Some access) = register_text access.base ++ codes " is a number, and an access goes by a pointer"

-- ---- arguments

abbrev pub argument_text : Reg → AbstractValue → List ℕ
argument_text register Unset = register_text register ++ codes " may be unset"
argument_text register (Number a) = register_text register ++ (codes " may be " ++ decimal a.hi)
argument_text register (Pointer region a) = register_text register ++ codes " is a pointer"

abbrev pub limited_text : List ℕ → ℕ → List ℕ
limited_text told nodes = told ++ (codes ", and a node's number is below " ++ decimal nodes)

abbrev pub node_text : Extent → AbstractState → List ℕ
node_text shape A = limited_text (argument_text R1 (kind_of A R1)) shape.nodes

abbrev pub sent_text : AbstractState → List ℕ
sent_text A = argument_text R2 (kind_of A R2) ++ codes ", and a number sent is below 4294967296"

abbrev pub arguments_text : Extent → AbstractState → List ℕ
arguments_text shape A = if may_reach shape.nodes (kind_of A R1) then node_text shape A else sent_text A

-- ---- rules

abbrev pub frame_text : List ℕ
frame_text = codes "r10 is written, and it is the end of the stack"

abbrev pub exit_text : List ℕ
exit_text = codes "r0 is a pointer, and a program ends with a number"

-- what the state at the slot gives as the reason, if there is one
abbrev pub in_known : Option AbstractState → (AbstractState → List ℕ) → List ℕ
in_known None reason = []
in_known (Some A) reason = reason A

abbrev pub reason_text : Rule → List Insn → Extent → ℕ → Insn → Option AbstractState → List ℕ
reason_text NotForward program shape slot insn state = jump_text (distance insn)
reason_text BadTarget program shape slot insn state = leads_text (astray_way program slot insn)
reason_text UnknownHelper program shape slot insn state = helper_text (call_of insn)
reason_text UnsetRegister program shape slot insn state = in_known state (λ A. unset_text (first_unset A insn))
reason_text FrameWrite program shape slot insn state = frame_text
reason_text PointerMisuse program shape slot insn state = in_known state (λ A. misuse_text shape A insn)
reason_text OutOfRegion program shape slot insn state = in_known state (λ A. leaves_text shape A (access_of insn))
reason_text UnsetStackByte program shape slot insn state = in_known state (λ A. unwritten_text shape A (load_of insn))
reason_text BadArgument program shape slot insn state = in_known state (arguments_text shape)
reason_text ExitNotNumber program shape slot insn state = exit_text
reason_text NotPointer program shape slot insn state = base_text (access_of insn)

-- the line that names the rule and why it is broken
abbrev pub reason_line : Rule → List ℕ → List ℕ
reason_line rule reason = codes "rule " ++ (decimal (rule_number rule) ++ (codes ", " ++ (rule_name rule
    ++ (codes ": " ++ (reason ++ codes "\n")))))

abbrev pub reason_of : Rule → List Insn → Extent → ℕ → Option AbstractState → Option Insn → List ℕ
reason_of rule program shape slot state None = []
reason_of rule program shape slot state (Some insn) =
    reason_line rule (reason_text rule program shape slot insn state)

-- the line of a refusal; nothing is said of a program that is accepted
abbrev pub reason_in : List Insn → Extent → Findings → Verdict → List ℕ
reason_in program shape findings (Accepted announced) = []
reason_in program shape findings (Refused slot rule) =
    reason_of rule program shape slot (table_in findings slot) (insn_at program slot)
