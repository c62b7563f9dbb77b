-- What the verifier knows of a machine's state at a slot (docs/VERIFIER.md, "Abstract states").
use Rattle.std.specs.Prelude.{◌≡◌, ℕ, ◌-◌, ◌==◌, Bool, true, false, ◌&&◌, if◌then◌else◌}
use Rattle.node_env.specs.Env.{Extent}
use Rattle.node_env.specs.declared.region.TheConstants.{STACK_BYTES}
use Rattle.node_env.specs.declared.region.Region.{Region}
use Rattle.node_env.specs.declared.region.Region.TheVariants.{Mem, Stack}
use Rattle.node_env.specs.Dwords.{dword_of}
use Rattle.bpf_insn.specs.declared.forms.Reg.{Reg}
use Rattle.bpf_insn.specs.Registers.{register_number}
use Rattle.value_range.specs.Span.{Span, span, just, IsInside, HasMembers, hull_of}
use Rattle.bpf_verify.specs.declared.abstract_value.AbstractValue.{AbstractValue}
use Rattle.bpf_verify.specs.declared.abstract_value.AbstractValue.TheVariants.{Unset, Number, Pointer}

-- what is known of each register, by its number, the stack bytes that are surely written, and what is known of each
-- double word of the stack, by its number: that its bytes spell a number of the range, or that it keeps a pointer
pub record AbstractState : Type 0 where
  pub kinds : ℕ → AbstractValue
  pub written : ℕ → Bool
  pub entries : ℕ → AbstractValue

abbrev pub kind_of : AbstractState → Reg → AbstractValue
kind_of A register = A.kinds (register_number register)

-- an abstract state from its three parts
abbrev pub abstract_state : (ℕ → AbstractValue) → (ℕ → Bool) → (ℕ → AbstractValue) → AbstractState
abstract_state kinds written entries = record { kinds = kinds; written = written; entries = entries }

abbrev pub is_unset_kind : AbstractValue → Bool
is_unset_kind Unset = true
is_unset_kind (Number a) = false
is_unset_kind (Pointer region a) = false

abbrev pub is_pointer_kind : AbstractValue → Bool
is_pointer_kind Unset = false
is_pointer_kind (Number a) = false
is_pointer_kind (Pointer region a) = true

abbrev pub is_number_kind : AbstractValue → Bool
is_number_kind Unset = false
is_number_kind (Number a) = true
is_number_kind (Pointer region a) = false

-- ---- containment

-- a kind that says as much or more: Unset says nothing
abbrev pub IsKindIn : AbstractValue → AbstractValue → Type 0
IsKindIn k Unset = Unit {0}
IsKindIn k (Number b) = (a : Span) × (k ≡ Number a) × IsInside a b
IsKindIn k (Pointer region b) = (a : Span) × (k ≡ Pointer region a) × IsInside a b

-- A says all that C says
pub record IsContainedIn (A C : AbstractState) : Type 0 where
  pub kinds : (number : ℕ) → IsKindIn (A.kinds number) (C.kinds number)
  pub written : (byte : ℕ) → C.written byte ≡ true → A.written byte ≡ true
  pub entries : (dword : ℕ) → IsKindIn (A.entries dword) (C.entries dword)

-- each range has members
abbrev pub IsProperKind : AbstractValue → Type 0
IsProperKind Unset = Unit {0}
IsProperKind (Number a) = HasMembers a
IsProperKind (Pointer region a) = HasMembers a

-- the bytes of a double word that spells a number are surely written, and none of one that keeps a pointer is
pub record IsProper (A : AbstractState) : Type 0 where
  pub kinds : (number : ℕ) → IsProperKind (A.kinds number)
  pub entries : (dword : ℕ) → IsProperKind (A.entries dword)
  pub spelled : (byte : ℕ) → is_number_kind (A.entries (dword_of byte)) ≡ true → A.written byte ≡ true
  pub apart : (byte : ℕ) → is_pointer_kind (A.entries (dword_of byte)) ≡ true → A.written byte ≡ false

-- ---- where edges meet

abbrev pub in_region : Region → Region → Span → AbstractValue
in_region Mem Mem a = Pointer Mem a
in_region Stack Stack a = Pointer Stack a
in_region Mem Stack a = Unset
in_region Stack Mem a = Unset

-- two numbers, or two pointers into one region, give the hull of their ranges; any other pair gives Unset
abbrev pub joined_kind : AbstractValue → AbstractValue → AbstractValue
joined_kind Unset b = Unset
joined_kind (Number a) Unset = Unset
joined_kind (Number a) (Number b) = Number (hull_of a b)
joined_kind (Number a) (Pointer region b) = Unset
joined_kind (Pointer region a) Unset = Unset
joined_kind (Pointer region a) (Number b) = Unset
joined_kind (Pointer region a) (Pointer other b) = in_region region other (hull_of a b)

-- a byte is surely written if it is in both
abbrev pub joined_state : AbstractState → AbstractState → AbstractState
joined_state A C =
    abstract_state (λ number. joined_kind (A.kinds number) (C.kinds number)) (λ byte. A.written byte && C.written byte)
    (λ dword. joined_kind (A.entries dword) (C.entries dword))

-- ---- entry

-- the stack grows down from its end
abbrev pub stack_base : AbstractValue
stack_base = Pointer Stack (just STACK_BYTES)

-- r1 points at the node's memory, r2 is the node's number, r10 is the stack's base
abbrev pub entry_kinds : Extent → ℕ → AbstractValue
entry_kinds shape number =
    if number == 1 then Pointer Mem (just 0)
    else if number == 2 then Number (span 0 (shape.nodes - 1))
    else if number == 10 then stack_base
    else Unset

-- nothing else is set, and nothing is known of the stack
abbrev pub entry_state : Extent → AbstractState
entry_state shape = abstract_state (entry_kinds shape) (λ byte. false) (λ dword. Unset)
