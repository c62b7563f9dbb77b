-- Which facts are told of a slot.
use Rattle.std.specs.Prelude.{ℕ, zero, suc, ◌+◌, ◌-◌, ◌&&◌, Bool, false, not, List, [], ◌∷◌, ◌++◌, map, Option, Some, None, ℤ, if◌then◌else◌}
use Rattle.std.specs.List.{find, flat_map, range_with_len}
use Rattle.node_env.specs.Env.{Extent}
use Rattle.node_env.specs.Dwords.{dword_of}
use Rattle.node_env.specs.Helpers.{arguments_of}
use Rattle.node_env.specs.declared.region.TheConstants.{STACK_BYTES, STACK_DWORDS}
use Rattle.node_env.specs.declared.region.Region.TheVariants.{Mem, Stack}
use Rattle.bpf_insn.specs.declared.forms.Reg.{Reg}
use Rattle.bpf_insn.specs.declared.forms.Insn.{Insn}
use Rattle.bpf_insn.specs.declared.operands.Access.{Access}
use Rattle.bpf_insn.specs.Registers.{register_number}
use Rattle.bpf_insn.specs.Edges.{moved}
use Rattle.bpf_insn.specs.Operands.{reads, load_of}
use Rattle.bpf_verify.specs.declared.abstract_value.AbstractValue.{AbstractValue}
use Rattle.bpf_verify.specs.declared.abstract_value.AbstractValue.TheVariants.{Unset, Number, Pointer}
use Rattle.bpf_verify.specs.declared.abstract_state.TheConstants.{REGISTERS}
use Rattle.bpf_verify.specs.States.{AbstractState, kind_of, is_unset_kind}
use Rattle.bpf_verify.specs.Rules.{may_leave_region, takes_dword}
use Rattle.parameters.specs.declared.detail.Detail.{Detail}
use Rattle.parameters.specs.declared.detail.Detail.TheVariants.{Read, All}
use Rattle.bpf_explain.specs.declared.fact.Fact.{Fact}
use Rattle.bpf_explain.specs.declared.fact.Fact.TheVariants as facts

-- ---- accesses

-- from the one place to the end of this many bytes at the other
abbrev pub words_between : Option ℕ → Option ℕ → ℕ → Option (ℕ × ℕ)
words_between (Some first) (Some last) count = Some (first, last + count)
words_between first last count = None

-- the first of the stack bytes that an access may take, and their end: none where it goes elsewhere, or may leave the
-- stack
abbrev pub stack_bytes : Extent → AbstractValue → ℤ → ℕ → Option (ℕ × ℕ)
stack_bytes shape Unset off count = None
stack_bytes shape (Number a) off count = None
stack_bytes shape (Pointer Mem a) off count = None
stack_bytes shape (Pointer Stack a) off count =
    if may_leave_region shape (Pointer Stack a) off count then None
    else words_between (moved a.lo off) (moved a.hi off) count

-- the first stack byte from one on, before an end, that may be unwritten
abbrev pub first_unwritten : AbstractState → ℕ → ℕ → Option ℕ
first_unwritten A first end = find (λ byte. not (A.written byte)) (range_with_len first (end - first))

-- ---- what an instruction reads

abbrev pub register_fact : AbstractState → Reg → Fact
register_fact A register = facts.Register (register_number register) (kind_of A register)

abbrev pub written_fact : ℕ → ℕ → Option ℕ → Fact
written_fact first end None = facts.HasWritten first (end - 1)
written_fact first end (Some byte) = facts.MayLack byte

-- the double word that is taken whole is of a kind; if nothing is known of it, whether its bytes are written
abbrev pub taken_fact : AbstractState → ℕ → ℕ → Bool → Fact
taken_fact A first end whole = if whole && not (is_unset_kind (A.entries (dword_of first)))
    then facts.Holds first (end - 1) (A.entries (dword_of first))
    else written_fact first end (first_unwritten A first end)

abbrev pub taken_facts : AbstractState → Bool → Option (ℕ × ℕ) → List Fact
taken_facts A whole None = []
taken_facts A whole (Some bytes) = taken_fact A bytes.0 bytes.1 whole ∷ []

-- of a load from the stack, what is known of the bytes that it may take
abbrev pub load_facts : Extent → AbstractState → Option Access → List Fact
load_facts shape A None = []
load_facts shape A (Some access) = taken_facts A (takes_dword (kind_of A access.base) access.off access.count)
    (stack_bytes shape (kind_of A access.base) access.off access.count)

abbrev pub read_facts : Extent → Insn → AbstractState → List Fact
read_facts shape insn A = map (register_fact A) (reads arguments_of insn) ++ load_facts shape A (load_of insn)

-- ---- all that is known

abbrev pub known_register : ℕ → AbstractValue → List Fact
known_register number kind = if is_unset_kind kind then [] else facts.Register number kind ∷ []

abbrev pub known_dword : ℕ → AbstractValue → List Fact
known_dword number kind = if is_unset_kind kind then [] else facts.Dword number kind ∷ []

abbrev pub follows_written : AbstractState → ℕ → Bool
follows_written A zero = false
follows_written A (suc byte) = A.written byte

-- a byte is written, and the one before it isn't
abbrev pub begins_written : AbstractState → ℕ → Bool
begins_written A byte = A.written byte && not (follows_written A byte)

abbrev pub end_or : ℕ → Option ℕ → ℕ
end_or end None = end
end_or end (Some byte) = byte

abbrev pub last_written : AbstractState → ℕ → ℕ
last_written A byte = end_or STACK_BYTES (first_unwritten A byte STACK_BYTES) - 1

-- the bytes from one on that are written, up to the next that may be unwritten
abbrev pub written_from : AbstractState → ℕ → List Fact
written_from A byte = if begins_written A byte
    then facts.Written byte (last_written A byte) ∷ [] else []

-- the facts of the numbers below an end, one after the other
unfoldable pub facts_below : (ℕ → List Fact) → ℕ → List Fact
facts_below facts end = flat_map facts (range_with_len 0 end)

abbrev pub register_facts : AbstractState → List Fact
register_facts A = facts_below (λ number. known_register number (A.kinds number)) REGISTERS

abbrev pub dword_facts : AbstractState → List Fact
dword_facts A = facts_below (λ number. known_dword number (A.entries number)) STACK_DWORDS

abbrev pub written_facts : AbstractState → List Fact
written_facts A = facts_below (written_from A) STACK_BYTES

abbrev pub all_facts : AbstractState → List Fact
all_facts A = register_facts A ++ (dword_facts A ++ written_facts A)

-- ---- what is told

-- what is known of what the instruction reads, or all
abbrev pub facts_of : Detail → Extent → Insn → AbstractState → List Fact
facts_of Read shape insn A = read_facts shape insn A
facts_of All shape insn A = all_facts A

-- nothing reaches a slot of which nothing is known
abbrev pub facts_at : Detail → Extent → Insn → Option AbstractState → List Fact
facts_at detail shape insn None = facts.NotReached ∷ []
facts_at detail shape insn (Some A) = facts_of detail shape insn A
