-- How the code of a part is typed: what it offers to those that lead to it, and what it asks of where it leads.
use Rattle.std.proofs.Common.{◌≡◌, ◌≢◌, ℕ, zero, suc, ◌+◌, ◌-◌, ◌*◌, ◌^◌, ◌%◌, ◌<◌, ◌≤◌, ◌==◌, nat_lt, Bool, true, false, ◌&&◌, ◌||◌, ◌⊎◌, if◌then◌else◌, List, [], ◌∷◌, ◌++◌, length, Option, Some, None, pos, negsuc, refl, sym, ap, ◌∙◌, arith, subst, inl, inr, length-append}
use Rattle.std.specs.Int.{w32, w64, cast_signed, cast_unsigned}
use Rattle.std.proofs.lemmas.Bool.{eq-eqb, ne_eqb, cases_lt, lt-ltb, le-ltb, le-leb, ltb-true, and_parts, or_left, or_right}
use Rattle.node_env.specs.declared.region.Region.TheVariants.{Mem}
use Rattle.node_env.specs.Env.{Extent}
use Rattle.bpf_insn.specs.declared.forms.Reg.{Reg}
use Rattle.bpf_insn.specs.declared.forms.Reg.TheVariants.{R0, R1, R10}
use Rattle.bpf_insn.specs.declared.forms.Size.TheVariants as size
use Rattle.bpf_insn.specs.Registers.{register_number}
use Rattle.node_env.specs.Dwords.{dword_of}
use Rattle.bpf_insn.specs.declared.forms.Width.TheVariants.{W32}
use Rattle.bpf_insn.specs.declared.forms.AluOp.TheVariants.{Mov}
use Rattle.bpf_insn.specs.declared.forms.Cond.{Cond}
use Rattle.bpf_insn.specs.declared.forms.Operand.{Operand}
use Rattle.bpf_insn.specs.declared.forms.Insn.{Insn}
use Rattle.bpf_insn.specs.declared.forms.Insn.TheVariants as i
use Rattle.bpf_insn.specs.declared.edges.Way.TheVariants.{Onward, Jumping}
use Rattle.bpf_insn.specs.Edges.{BeginsAt, target}
use Rattle.value_range.specs.Span.{just, full_of}
use Rattle.value_range.specs.Results.{alu_of}
use Rattle.bpf_verify.specs.declared.abstract_value.AbstractValue.{AbstractValue}
use Rattle.bpf_verify.specs.declared.abstract_value.AbstractValue.TheVariants.{Unset, Number, Pointer}
use Rattle.bpf_verify.specs.States.{AbstractState, abstract_state, kind_of, stack_base, is_unset_kind, is_pointer_kind, IsKindIn, IsContainedIn, IsProperKind, IsProper}
use Rattle.bpf_verify.specs.Outcomes.{outcome, put_kind, with_kinds, with_kind, of_number_kind, put_written, is_between, cleared}
use Rattle.bpf_verify.specs.Typable.{Table, IsCovered}
use Rattle.bpf_verify.proofs.StateLaws.{kind_in_itself, contained_in_itself, contained_further}
use Rattle.clock_nodes.proofs.Taken.{covered, KeepsOwn, keeps_own, Sound, sound_on, sound_jump, sound_fork, Marked}
use Rattle.rule_nodes.specs.declared.numbers.TheConstants.{PLACES}
use Rattle.rule_nodes.specs.declared.numbers.Place.{Place}
use Rattle.rule_nodes.specs.declared.numbers.Place.TheVariants.{InRegister, OnStack}
use Rattle.rule_nodes.specs.Code.{number_place, fetch_code, keep_code, start_code, set_number, copy}
use Rattle.rule_nodes.proofs.Places.{IsPlace, place_is, not_frame}

-- ---- states: at depth d

abbrev pub memory_place : AbstractValue
memory_place = Pointer Mem (just 0)

abbrev pub word : AbstractValue
word = Number (full_of 32)

-- of place k, a register
abbrev pub held : ℕ → ℕ → AbstractValue
held k d = if nat_lt k d then word else Unset

-- the bytes of the places on the stack are written
abbrev pub written_at : ℕ → ℕ → Bool
written_at d byte = nat_lt 523 (byte + 4 * d) && nat_lt byte 512

abbrev pub kinds_of : (k0 k1 k2 k6 k7 k8 k9 k10 : AbstractValue) → ℕ → AbstractValue
kinds_of k0 k1 k2 k6 k7 k8 k9 k10 number =
    if number == 0 then k0
    else if number == 1 then k1
    else if number == 2 then k2
    else if number == 6 then k6
    else if number == 7 then k7
    else if number == 8 then k8
    else if number == 9 then k9
    else if number == 10 then k10
    else Unset

-- with these kinds of registers and these bytes written, and no pointer kept
abbrev pub state : (k0 k1 k2 k6 k7 k8 k9 k10 : AbstractValue) → (ℕ → Bool) → AbstractState
state k0 k1 k2 k6 k7 k8 k9 k10 bytes =
    abstract_state (kinds_of k0 k1 k2 k6 k7 k8 k9 k10) bytes (λ dword. Unset)

abbrev pub known : ℕ → AbstractValue → AbstractValue → AbstractValue → AbstractState
known d k0 k1 k2 = state k0 k1 k2 memory_place (held 0 d) (held 1 d) (held 2 d) stack_base (written_at d)

-- between parts, and with a number in r0
abbrev pub plain : ℕ → AbstractState
plain d = known d Unset Unset Unset

abbrev pub valued : ℕ → AbstractState
valued d = known d word Unset Unset

others : (k0 k1 k2 k6 k7 k8 k9 k10 : AbstractValue) (number : ℕ) → 10 < number
    → kinds_of k0 k1 k2 k6 k7 k8 k9 k10 number ≡ Unset
others k0 k1 k2 k6 k7 k8 k9 k10 number far = rw (
  ne_eqb number 0 (λ e. omega arith),
  ne_eqb number 1 (λ e. omega arith),
  ne_eqb number 2 (λ e. omega arith),
  ne_eqb number 6 (λ e. omega arith),
  ne_eqb number 7 (λ e. omega arith),
  ne_eqb number 8 (λ e. omega arith),
  ne_eqb number 9 (λ e. omega arith),
  ne_eqb number 10 (λ e. omega arith),
) refl

-- a fact of each of the eight, and of a register of which nothing is known
each_kind : (P : ℕ → AbstractValue → Type 0) (k0 k1 k2 k6 k7 k8 k9 k10 : AbstractValue) → P 0 k0 → P 1 k1 → P 2 k2 → P 6 k6
    → P 7 k7 → P 8 k8 → P 9 k9 → P 10 k10 → ((number : ℕ) → P number Unset) → (number : ℕ)
    → P number (kinds_of k0 k1 k2 k6 k7 k8 k9 k10 number)
each_kind P k0 k1 k2 k6 k7 k8 k9 k10 h0 h1 h2 h6 h7 h8 h9 h10 none number = elim (cases_lt 10 number) [
  | inl far ↦ subst (λ (k : AbstractValue). P number k) (sym (others k0 k1 k2 k6 k7 k8 k9 k10 number far)) (none number)
  | inr near ↦ by number near
]
  where
    by : (n : ℕ) → n ≤ 10 → P n (kinds_of k0 k1 k2 k6 k7 k8 k9 k10 n)
    by zero near = h0
    by (suc zero) near = h1
    by (suc (suc zero)) near = h2
    by (suc (suc (suc zero))) near = none 3
    by (suc (suc (suc (suc zero)))) near = none 4
    by (suc (suc (suc (suc (suc zero))))) near = none 5
    by (suc (suc (suc (suc (suc (suc zero)))))) near = h6
    by (suc (suc (suc (suc (suc (suc (suc zero))))))) near = h7
    by (suc (suc (suc (suc (suc (suc (suc (suc zero)))))))) near = h8
    by (suc (suc (suc (suc (suc (suc (suc (suc (suc zero))))))))) near = h9
    by (suc (suc (suc (suc (suc (suc (suc (suc (suc (suc zero)))))))))) near = h10
    by (suc (suc (suc (suc (suc (suc (suc (suc (suc (suc (suc n))))))))))) near = absurd (omega (arith, near))

pub proper : (k0 k1 k2 k6 k7 k8 k9 k10 : AbstractValue) (bytes : ℕ → Bool) → IsProperKind k0 → IsProperKind k1
    → IsProperKind k2 → IsProperKind k6 → IsProperKind k7 → IsProperKind k8 → IsProperKind k9 → IsProperKind k10
    → IsProper (state k0 k1 k2 k6 k7 k8 k9 k10 bytes)
proper k0 k1 k2 k6 k7 k8 k9 k10 bytes h0 h1 h2 h6 h7 h8 h9 h10 = record {
  kinds = each_kind (λ number kind. IsProperKind kind) k0 k1 k2 k6 k7 k8 k9 k10 h0 h1 h2 h6 h7 h8 h9 h10 (λ number. tt);
  entries = λ dword. tt;
  spelled = λ byte e. absurd (let no : false ≡ true = e in cc);
  apart = λ byte e. absurd (let no : false ≡ true = e in cc);
}

pub within : (A : AbstractState) (k0 k1 k2 k6 k7 k8 k9 k10 : AbstractValue) (bytes : ℕ → Bool) → IsKindIn (A.kinds 0) k0
    → IsKindIn (A.kinds 1) k1 → IsKindIn (A.kinds 2) k2 → IsKindIn (A.kinds 6) k6 → IsKindIn (A.kinds 7) k7
    → IsKindIn (A.kinds 8) k8 → IsKindIn (A.kinds 9) k9 → IsKindIn (A.kinds 10) k10
    → ((byte : ℕ) → bytes byte ≡ true → A.written byte ≡ true) → IsContainedIn A (state k0 k1 k2 k6 k7 k8 k9 k10 bytes)
within A k0 k1 k2 k6 k7 k8 k9 k10 bytes h0 h1 h2 h6 h7 h8 h9 h10 w = record {
  kinds = each_kind (λ number kind. IsKindIn (A.kinds number) kind) k0 k1 k2 k6 k7 k8 k9 k10 h0 h1 h2 h6 h7 h8 h9 h10
      (λ number. tt);
  written = w;
  entries = λ dword. tt;
}

proper_held : (k d : ℕ) → IsProperKind (held k d)
proper_held k d = by (nat_lt k d)
  where
    by : (b : Bool) → IsProperKind (if b then word else Unset)
    by true = record { ordered = omega arith }
    by false = tt

pub proper_known : (d : ℕ) (k0 k1 k2 : AbstractValue) → IsProperKind k0 → IsProperKind k1 → IsProperKind k2
    → IsProper (known d k0 k1 k2)
proper_known d k0 k1 k2 h0 h1 h2 =
    proper k0 k1 k2 memory_place (held 0 d) (held 1 d) (held 2 d) stack_base (written_at d) h0 h1 h2
    (record { ordered = omega arith }) (proper_held 0 d) (proper_held 1 d) (proper_held 2 d)
    (record { ordered = omega arith })

pub some_word : IsProperKind word
some_word = record { ordered = omega arith }

-- ---- what is known of the places

pub record Rest : Type 0 where
  pub r6 : AbstractValue
  pub r7 : AbstractValue
  pub r8 : AbstractValue
  pub r9 : AbstractValue
  pub r10 : AbstractValue
  pub bytes : ℕ → Bool

abbrev pub rest_of : AbstractState → Rest
rest_of A = record {
  r6 = A.kinds 6;
  r7 = A.kinds 7;
  r8 = A.kinds 8;
  r9 = A.kinds 9;
  r10 = A.kinds 10;
  bytes = A.written;
}

same_kind : (k l : AbstractValue) → k ≡ l → IsKindIn k l
same_kind k l e = subst (λ (x : AbstractValue). IsKindIn x l) (sym e) (kind_in_itself l)

-- it stays
pub into : (A : AbstractState) (d : ℕ) (k0 k1 k2 : AbstractValue) → IsKindIn (A.kinds 0) k0 → IsKindIn (A.kinds 1) k1
    → IsKindIn (A.kinds 2) k2 → rest_of A ≡ rest_of (plain d) → IsContainedIn A (known d k0 k1 k2)
into A d k0 k1 k2 h0 h1 h2 e =
    within A k0 k1 k2 memory_place (held 0 d) (held 1 d) (held 2 d) stack_base (written_at d) h0 h1 h2
    (same_kind _ _ (ap (λ (x : Rest). x.r6) e)) (same_kind _ _ (ap (λ (x : Rest). x.r7) e))
    (same_kind _ _ (ap (λ (x : Rest). x.r8) e)) (same_kind _ _ (ap (λ (x : Rest). x.r9) e))
    (same_kind _ _ (ap (λ (x : Rest). x.r10) e))
    (λ byte w. ap (λ (x : Rest). x.bytes byte) e ∙ w)

pub held_word : (k d : ℕ) → k < d → held k d ≡ word
held_word k d lt = rw (lt-ltb k d lt) refl

-- after a number is put into place k at depth d, e places are in use: the same, or one more
abbrev pub Grows : ℕ → ℕ → ℕ → Type 0
Grows k d e = (k ≤ d) × ((e ≤ d) ⊎ ((k ≡ d) × (e ≡ d + 1)))

pub grows_none : (k d : ℕ) → k < d → Grows k d d
grows_none k d lt = (omega (arith, lt), inl (omega arith))

pub grows_one : (d : ℕ) → Grows d d (d + 1)
grows_one d = (omega arith, inr (refl, refl))

-- another register
held_grows : (j k d e : ℕ) → j ≢ k → Grows k d e → IsKindIn (held j d) (held j e)
held_grows j k d e other grows = elim (cases_lt j e) [
  | inl in_use ↦ rw (lt-ltb j e in_use, lt-ltb j d (before in_use)) (kind_in_itself word)
  | inr free ↦ rw (le-ltb j e free) tt
]
  where
    before : j < e → j < d
    before lt = elim grows.1 [
      | inl le ↦ omega (arith, lt, le)
      | inr one ↦ omega (arith, lt, other, one.0, one.1)
    ]

-- the register itself
held_in : (k e : ℕ) (K : AbstractValue) → IsKindIn K word → IsKindIn K (held k e)
held_in k e K h = by (nat_lt k e)
  where
    by : (b : Bool) → IsKindIn K (if b then word else Unset)
    by true = h
    by false = tt

-- a byte of the stack is written
pub byte_written : (d byte : ℕ) → 523 < byte + 4 * d → byte < 512 → written_at d byte ≡ true
byte_written d byte low high = rw (lt-ltb 523 (byte + 4 * d) low, lt-ltb byte 512 high) refl

record ByteIn (d byte : ℕ) : Type 0 where
  low : 523 < byte + 4 * d
  high : byte < 512

byte_in : (d byte : ℕ) → written_at d byte ≡ true → ByteIn d byte
byte_in d byte h =
    let parts = and_parts (nat_lt 523 (byte + 4 * d)) (nat_lt byte 512) h in
    record { low = ltb-true 523 (byte + 4 * d) parts.0; high = ltb-true byte 512 parts.1 }

pub written_less : (d e : ℕ) → d ≤ e → (byte : ℕ) → written_at d byte ≡ true → written_at e byte ≡ true
written_less d e le byte h =
    let b = byte_in d byte h in
    byte_written e byte (omega (arith, b.low, le)) b.high

-- a register has no byte
register_bytes : (k d e : ℕ) → k < 3 → Grows k d e → (byte : ℕ) → written_at e byte ≡ true → written_at d byte ≡ true
register_bytes k d e small grows byte h =
    let b = byte_in e byte h in
    elim grows.1 [
      | inl le ↦ byte_written d byte (omega (arith, b.low, le)) b.high
      | inr one ↦ absurd (omega (arith, b.low, b.high, one.0, one.1, small))
    ]

-- a number of 32 bits in the register of place k, beside what is known of r0 and r1
pub placed_with : (register : Reg) (k d e : ℕ) (A : AbstractState) (K k0 k1 : AbstractValue)
    → IsPlace (InRegister register) k → Grows k d e → rest_of A ≡ rest_of (plain d) → IsKindIn K word
    → IsKindIn (A.kinds 0) k0 → IsKindIn (A.kinds 1) k1
    → IsContainedIn (with_kind A register K) (known e k0 k1 Unset)
placed_with register k d e A K k0 k1 is grows same h h0 h1 =
    subst (λ (n : ℕ). IsContainedIn (with_kinds A (put_kind A.kinds n K)) (known e k0 k1 Unset)) (sym is.0)
    (by k is.1 grows)
  where
    at_6 : IsKindIn (A.kinds 6) memory_place
    at_6 = same_kind _ _ (ap (λ (x : Rest). x.r6) same)

    at_10 : IsKindIn (A.kinds 10) stack_base
    at_10 = same_kind _ _ (ap (λ (x : Rest). x.r10) same)

    beside : (j k : ℕ) (l : AbstractValue) → l ≡ held j d → j ≢ k → Grows k d e → IsKindIn l (held j e)
    beside j k l eq other g = subst (λ (x : AbstractValue). IsKindIn x (held j e)) (sym eq) (held_grows j k d e other g)

    by : (k : ℕ) → k < 3 → Grows k d e → IsContainedIn (with_kinds A (put_kind A.kinds (7 + k) K)) (known e k0 k1 Unset)
    by zero small g =
        within _ k0 k1 Unset memory_place (held 0 e) (held 1 e) (held 2 e) stack_base (written_at e) h0 h1 tt at_6
        (held_in 0 e K h) (beside 1 0 _ (ap (λ (x : Rest). x.r8) same) (λ q. omega (arith, q)) g)
        (beside 2 0 _ (ap (λ (x : Rest). x.r9) same) (λ q. omega (arith, q)) g) at_10
        (λ byte w. ap (λ (x : Rest). x.bytes byte) same ∙ register_bytes 0 d e small g byte w)
    by (suc zero) small g =
        within _ k0 k1 Unset memory_place (held 0 e) (held 1 e) (held 2 e) stack_base (written_at e) h0 h1 tt at_6
        (beside 0 1 _ (ap (λ (x : Rest). x.r7) same) (λ q. omega (arith, q)) g) (held_in 1 e K h)
        (beside 2 1 _ (ap (λ (x : Rest). x.r9) same) (λ q. omega (arith, q)) g) at_10
        (λ byte w. ap (λ (x : Rest). x.bytes byte) same ∙ register_bytes 1 d e small g byte w)
    by (suc (suc zero)) small g =
        within _ k0 k1 Unset memory_place (held 0 e) (held 1 e) (held 2 e) stack_base (written_at e) h0 h1 tt at_6
        (beside 0 2 _ (ap (λ (x : Rest). x.r7) same) (λ q. omega (arith, q)) g)
        (beside 1 2 _ (ap (λ (x : Rest). x.r8) same) (λ q. omega (arith, q)) g) (held_in 2 e K h) at_10
        (λ byte w. ap (λ (x : Rest). x.bytes byte) same ∙ register_bytes 2 d e small g byte w)
    by (suc (suc (suc n))) small g = absurd (omega (arith, small))

pub placed_beside : (register : Reg) (k d e : ℕ) (A : AbstractState) (K k0 : AbstractValue)
    → IsPlace (InRegister register) k → Grows k d e → rest_of A ≡ rest_of (plain d) → IsKindIn K word
    → IsKindIn (A.kinds 0) k0 → IsContainedIn (with_kind A register K) (known e k0 Unset Unset)
placed_beside register k d e A K k0 is grows same h h0 = placed_with register k d e A K k0 Unset is grows same h h0 tt

pub placed_in : (register : Reg) (k d e : ℕ) (A : AbstractState) (K : AbstractValue)
    → IsPlace (InRegister register) k → Grows k d e → rest_of A ≡ rest_of (plain d) → IsKindIn K word
    → IsContainedIn (with_kind A register K) (plain e)
placed_in register k d e A K is grows same h = placed_beside register k d e A K Unset is grows same h tt

-- what is known of the register of place k
pub register_kind : (register : Reg) (k d : ℕ) (k0 k1 k2 : AbstractValue) → IsPlace (InRegister register) k → k < d
    → kind_of (known d k0 k1 k2) register ≡ word
register_kind register k d k0 k1 k2 is lt = ap (known d k0 k1 k2).kinds is.0 ∙ by k is.1 lt
  where
    by : (k : ℕ) → k < 3 → k < d → (known d k0 k1 k2).kinds (7 + k) ≡ word
    by zero small lt = held_word 0 d lt
    by (suc zero) small lt = held_word 1 d lt
    by (suc (suc zero)) small lt = held_word 2 d lt
    by (suc (suc (suc n))) small lt = absurd (omega (arith, small))

-- a state after four bytes of the stack are written
abbrev pub stacked : AbstractState → ℕ → AbstractState
stacked A n = abstract_state A.kinds (put_written A.written (512 - suc n) 4)
    (cleared A.entries (512 - suc n) (512 - suc n + 4))

-- the four bytes of place k, beside what is known of r1
pub stacked_with : (n k d e : ℕ) (A : AbstractState) (k1 : AbstractValue) → IsPlace (OnStack (negsuc n)) k → Grows k d e
    → rest_of A ≡ rest_of (plain d) → IsKindIn (A.kinds 1) k1 → IsContainedIn (stacked A n) (known e Unset k1 Unset)
stacked_with n k d e A k1 is grows same h1 =
    within (stacked A n) Unset k1 Unset memory_place (held 0 e) (held 1 e) (held 2 e) stack_base (written_at e)
    tt h1 tt (same_kind _ _ (ap (λ (x : Rest). x.r6) same))
    (register 0 _ (ap (λ (x : Rest). x.r7) same) (omega arith))
    (register 1 _ (ap (λ (x : Rest). x.r8) same) (omega arith))
    (register 2 _ (ap (λ (x : Rest). x.r9) same) (omega arith))
    (same_kind _ _ (ap (λ (x : Rest). x.r10) same)) (λ byte w. bytes byte w)
  where
    far : 3 ≤ k
    far = omega (arith, is.0)

    register : (j : ℕ) (l : AbstractValue) → l ≡ held j d → j < 3 → IsKindIn l (held j e)
    register j l eq small =
        subst (λ (x : AbstractValue). IsKindIn x (held j e)) (sym eq)
        (held_grows j k d e (λ q. omega (arith, q, small, far)) grows)

    known_before : (byte : ℕ) → written_at d byte ≡ true → A.written byte ≡ true
    known_before byte w = ap (λ (x : Rest). x.bytes byte) same ∙ w

    bytes : (byte : ℕ) → written_at e byte ≡ true → put_written A.written (512 - suc n) 4 byte ≡ true
    bytes byte w =
        let b = byte_in e byte w in
        elim (cases_lt byte (512 - suc n)) [
          | inl below ↦ or_right (is_between (512 - suc n) (512 - suc n + 4) byte) (A.written byte)
              (known_before byte (byte_written d byte (elim grows.1 [
                | inl le ↦ omega (arith, b.low, le)
                | inr one ↦ omega (arith, b.low, below, one.0, one.1, is.0, is.1)
              ]) b.high))
          | inr from ↦ elim (cases_lt byte (512 - suc n + 4)) [
            | inl inside ↦ or_left (is_between (512 - suc n) (512 - suc n + 4) byte) (A.written byte)
                (rw (le-leb (512 - suc n) byte from, lt-ltb byte (512 - suc n + 4) inside) refl)
            | inr above ↦ or_right (is_between (512 - suc n) (512 - suc n + 4) byte) (A.written byte)
                (known_before byte (byte_written d byte (omega (arith, above, grows.0, is.0, is.1)) b.high))
          ]
        ]

pub stacked_in : (n k d e : ℕ) (A : AbstractState) → IsPlace (OnStack (negsuc n)) k → Grows k d e
    → rest_of A ≡ rest_of (plain d) → IsContainedIn (stacked A n) (plain e)
stacked_in n k d e A is grows same = stacked_with n k d e A Unset is grows same tt

-- the low 32 bits of a number, whatever it is
pub short : (x : ℕ) → IsKindIn (Number (alu_of Mov W32 (just x) (just x))) word
short x = rw (eq-eqb x x refl) (just _, refl, record { low = omega arith; high = omega arith })

-- ---- the shape of a typing

pub record Seen (table : Table) (C : AbstractState) (to : ℕ) : Type 0 where
  pub there : AbstractState
  pub stands : table to ≡ Some there
  pub inside : IsContainedIn C there

pub seen : (table : Table) (C : AbstractState) (to : ℕ) → IsCovered table C to → Seen table C to
seen table C to h = by (table to) refl h
  where
    by : (found : Option AbstractState) → table to ≡ found → IsCovered (λ at. found) C to → Seen table C to
    by None e h = absurd h
    by (Some D) e h = record { there = D; stands = e; inside = h }

module _ (program : List Insn) (shape : Extent) (last : ℕ) (solid : (k : ℕ) → k ≤ last → BeginsAt program k) where
  -- each instruction is sound with a state that stands at its slot
  abbrev pub AllSound : Table → ℕ → List Insn → Type 0
  AllSound table slot [] = Unit {0}
  AllSound table slot (insn ∷ is) =
      ((A : AbstractState) × (table slot ≡ Some A) × Sound program shape table slot insn A)
      × AllSound table (slot + 1) is

  -- states for the instructions: in a table that has them, and in which what is asked holds, what is offered holds and
  -- each instruction is sound
  pub record Typing (slot : ℕ) (code : List Insn) (Offers Asks : Table → Type 0) : Type 0 where
    pub states : List AbstractState
    pub long : length states ≡ length code
    pub works : (table : Table) → Marked table slot states → Asks table → Offers table × AllSound table slot code

  sound_append : (table : Table) (slot : ℕ) (xs ys : List Insn) → AllSound table slot xs
      → AllSound table (slot + length xs) ys → AllSound table slot (xs ++ ys)
  sound_append table slot [] ys h g = let e : slot + 0 ≡ slot = omega arith in
      subst (λ (n : ℕ). AllSound table n ys) e g
  sound_append table slot (x ∷ xs) ys h g =
      let e : slot + length (x ∷ xs) ≡ slot + 1 + length xs = omega arith in
      (h.0, sound_append table (slot + 1) xs ys h.1 (subst (λ (n : ℕ). AllSound table n ys) e g))

  marked_front : (table : Table) (slot : ℕ) (As Bs : List AbstractState) → Marked table slot (As ++ Bs)
      → Marked table slot As
  marked_front table slot [] Bs h = tt
  marked_front table slot (A ∷ As) Bs h = (h.0, marked_front table (slot + 1) As Bs h.1)

  marked_back : (table : Table) (slot : ℕ) (As Bs : List AbstractState) → Marked table slot (As ++ Bs)
      → Marked table (slot + length As) Bs
  marked_back table slot [] Bs h = let e : slot ≡ slot + 0 = omega arith in
      subst (λ (n : ℕ). Marked table n Bs) e h
  marked_back table slot (A ∷ As) Bs h =
      let e : slot + 1 + length As ≡ slot + length (A ∷ As) = omega arith in
      subst (λ (n : ℕ). Marked table n Bs) e (marked_back table (slot + 1) As Bs h.1)

  -- one part after the other
  pub typed_then : (slot to : ℕ) (xs ys : List Insn) (O1 A1 O2 A2 : Table → Type 0) → slot + length xs ≡ to
      → Typing slot xs O1 A1 → Typing to ys O2 A2 → ((table : Table) → O2 table → A2 table → A1 table)
      → Typing slot (xs ++ ys) (λ table. O1 table × O2 table) A2
  typed_then slot to xs ys O1 A1 O2 A2 e t1 t2 link = record {
    states = t1.states ++ t2.states;
    long = omega (arith, t1.long, t2.long, length-append t1.states t2.states, length-append xs ys);
    works = λ table marks asks.
        let e1 : slot + length t1.states ≡ to = omega (arith, e, t1.long) in
        let m2 = subst (λ (n : ℕ). Marked table n t2.states) e1 (marked_back table slot t1.states t2.states marks) in
        let w2 = t2.works table m2 asks in
        let w1 = t1.works table (marked_front table slot t1.states t2.states marks) (link table w2.0 asks) in
        let s2 = subst (λ (n : ℕ). AllSound table n ys) (sym e) w2.1 in
        ((w1.0, w2.0), sound_append table slot xs ys w1.1 s2);
  }

  pub typed_as : (slot : ℕ) (code : List Insn) (O1 A1 O2 A2 : Table → Type 0) → ((table : Table) → O1 table → O2 table)
      → ((table : Table) → A2 table → A1 table) → Typing slot code O1 A1 → Typing slot code O2 A2
  typed_as slot code O1 A1 O2 A2 f g t = record {
    states = t.states;
    long = t.long;
    works = λ table marks asks. let w = t.works table marks (g table asks) in (f table w.0, w.1);
  }

  pub typed_none : (slot : ℕ) (O : Table → Type 0) → Typing slot [] O O
  typed_none slot O = record { states = []; long = refl; works = λ table marks asks. (asks, tt) }

  abbrev pub Covers : AbstractState → ℕ → Table → Type 0
  Covers A to table = IsCovered table A to

  -- ---- one instruction

  pub one_on : (slot : ℕ) (insn : Insn) (A B M : AbstractState) → target insn slot Onward ≡ Some (slot + 1)
      → target insn slot Jumping ≡ None → outcome shape insn A Onward ≡ Some B → IsContainedIn B M → IsProper A
      → KeepsOwn shape insn A → slot + 1 ≤ last → Typing slot (insn ∷ []) (Covers A slot) (Covers M (slot + 1))
  one_on slot insn A B M on off out inside is own le = record {
    states = A ∷ [];
    long = refl;
    works = λ table marks asks.
        let v = seen table M (slot + 1) asks in
        let sound = sound_on program shape table slot (slot + 1) (slot + 1) insn A B v.there on off out refl
        (solid (slot + 1) le) v.stands (contained_further B M v.there inside v.inside) is own in
        (covered table A A slot marks.0 (contained_in_itself A), ((A, marks.0, sound), tt));
  }

  pub one_jump : (slot far : ℕ) (A : AbstractState) → IsProper A → slot + 1 + far ≤ last
      → Typing slot (i.Ja (pos far) ∷ []) (Covers A slot) (Covers A (slot + 1 + far))
  one_jump slot far A is le = record {
    states = A ∷ [];
    long = refl;
    works = λ table marks asks.
        let v = seen table A (slot + 1 + far) asks in
        let sound = sound_jump program shape table slot (slot + 1 + far) (slot + 1 + far) (i.Ja (pos far)) A A v.there
        refl refl refl refl (solid (slot + 1 + far) le) v.stands v.inside is (keeps_own _ _ _ refl) in
        (covered table A A slot marks.0 (contained_in_itself A), ((A, marks.0, sound), tt));
  }

  pub one_fork : (slot far : ℕ) (cond : Cond) (dst : Reg) (src : Operand) (A M N : AbstractState)
      → ((C : AbstractState) → outcome shape (i.Branch cond W32 dst src (pos far)) A Onward ≡ Some C
      → IsContainedIn C M)
      → ((C : AbstractState) → outcome shape (i.Branch cond W32 dst src (pos far)) A Jumping ≡ Some C
      → IsContainedIn C N)
      → IsProper A → KeepsOwn shape (i.Branch cond W32 dst src (pos far)) A → slot + 1 + far ≤ last
      → Typing slot (i.Branch cond W32 dst src (pos far) ∷ []) (Covers A slot)
      (λ table. Covers M (slot + 1) table × Covers N (slot + 1 + far) table)
  one_fork slot far cond dst src A M N on off is own le = record {
    states = A ∷ [];
    long = refl;
    works = λ table marks asks.
        let v = seen table M (slot + 1) asks.0 in
        let w = seen table N (slot + 1 + far) asks.1 in
        let sound = sound_fork program shape table slot (slot + 1) (slot + 1) (slot + 1 + far) (slot + 1 + far)
        (i.Branch cond W32 dst src (pos far)) A v.there w.there refl refl (solid (slot + 1) (omega arith)) v.stands
        (λ C e. contained_further C M v.there (on C e) v.inside) refl refl (solid (slot + 1 + far) le) w.stands
        (λ C e. contained_further C N w.there (off C e) w.inside) is own in
        (covered table A A slot marks.0 (contained_in_itself A), ((A, marks.0, sound), tt));
  }

  -- ---- the instructions of terms

  pub number_typed : (d v slot : ℕ) → slot + 1 ≤ last
      → Typing slot (set_number R0 v ∷ []) (Covers (plain d) slot) (Covers (valued d) (slot + 1))
  number_typed d v slot le = one_on slot (set_number R0 v) (plain d) _ (valued d) refl refl refl
      (into _ d word Unset Unset (short (cast_unsigned w64 (cast_signed w32 v) % 2 ^ 32)) tt tt refl)
      (proper_known d Unset Unset Unset tt tt tt)
      (keeps_own _ _ _ refl) le

  -- ---- places

  -- an access of the four bytes of a place
  reached : (n : ℕ) → n < 512 → nat_lt n 512 ≡ true
  reached n small = lt-ltb n 512 small

  room : (n : ℕ) → 3 ≤ n → nat_lt 512 (512 - suc n + 4) ≡ false
  room n low = le-ltb 512 (512 - suc n + 4) (omega (arith, low))

  -- a load of bytes that are written
  loads_kept : (A : AbstractState) (dst : Reg) (n : ℕ) → n < 512 → 3 ≤ n → A.kinds 10 ≡ stack_base
      → ((dword : ℕ) → A.entries dword ≡ Unset) → (register_number dst == 10) ≡ false
      → A.written (512 - suc n) ≡ true → A.written (512 - suc n + 1) ≡ true → A.written (512 - suc n + 1 + 1) ≡ true
      → A.written (512 - suc n + 1 + 1 + 1) ≡ true → KeepsOwn shape (i.Load size.W dst R10 (negsuc n)) A
  loads_kept A dst n small low base none free w0 w1 w2 w3 =
      let near = reached n small in
      let inside = room n low in
      let four : 512 - suc n + 4 - (512 - suc n) ≡ 4 = omega arith in
      let e0 = none (dword_of (512 - suc n)) in
      let e1 = none (dword_of (512 - suc n + 1)) in
      let e2 = none (dword_of (512 - suc n + 1 + 1)) in
      let e3 = none (dword_of (512 - suc n + 1 + 1 + 1)) in
      keeps_own _ _ _ (rw (base, free, near, inside, four, w0, w1, w2, w3, e0, e1, e2, e3) refl)

  -- a place into a register
  pub fetch_place : (p : Place) (k d : ℕ) (dst : Reg) (k0 k1 k2 : AbstractValue) (M : AbstractState) (slot : ℕ)
      → IsPlace p k → k < d → IsProperKind k0 → IsProperKind k1 → IsProperKind k2 → (register_number dst == 10) ≡ false
      → IsContainedIn (with_kind (known d k0 k1 k2) dst word) M → slot + 1 ≤ last
      → Typing slot (fetch_code dst p ∷ []) (Covers (known d k0 k1 k2) slot) (Covers M (slot + 1))
  fetch_place (InRegister register) k d dst k0 k1 k2 M slot is lt h0 h1 h2 free inside le =
      let A = known d k0 k1 k2 in
      let e : kind_of A register ≡ word = register_kind register k d k0 k1 k2 is lt in
      let out : outcome shape (copy dst register) A Onward ≡ Some (with_kind A dst word) =
      ap (λ (q : AbstractValue). Some (with_kind A dst (of_number_kind (λ n. alu_of Mov W32 n n) q))) e in
      let own : KeepsOwn shape (copy dst register) A = record {
        forward = refl;
        known = refl;
        set = ap (λ (q : AbstractValue). is_unset_kind q || false) e;
        frame = free;
        pointer = ap is_pointer_kind e;
        region = refl;
        stack = refl;
        argument = refl;
        exit = refl;
        base = refl;
      } in
      one_on slot (copy dst register) A (with_kind A dst word) M refl refl out inside
      (proper_known d k0 k1 k2 h0 h1 h2) own le
  fetch_place (OnStack (pos n)) k d dst k0 k1 k2 M slot is lt h0 h1 h2 free inside le = absurd is
  fetch_place (OnStack (negsuc n)) k d dst k0 k1 k2 M slot is lt h0 h1 h2 free inside le =
      let A = known d k0 k1 k2 in
      let own = loads_kept A dst n (omega (arith, is.0, is.1)) (omega (arith, is.0, three)) refl (λ dword. refl) free
      (byte_written d _ (omega (arith, is.0, is.1, lt)) (omega (arith, is.0, three)))
      (byte_written d _ (omega (arith, is.0, is.1, lt)) (omega (arith, is.0, three)))
      (byte_written d _ (omega (arith, is.0, is.1, lt)) (omega (arith, is.0, three)))
      (byte_written d _ (omega (arith, is.0, is.1, lt)) (omega (arith, is.0, three))) in
      one_on slot (i.Load size.W dst R10 (negsuc n)) A (with_kind A dst word) M refl refl refl inside
      (proper_known d k0 k1 k2 h0 h1 h2) own le
    where
      three : 3 ≤ n
      three = omega (arith, is.0)

  -- r0 into a place, beside what r1 holds
  pub keep_beside : (p : Place) (k d e : ℕ) (k1 : AbstractValue) (slot : ℕ) → IsPlace p k → Grows k d e
      → IsProperKind k1 → slot + 1 ≤ last
      → Typing slot (keep_code p ∷ []) (Covers (known d word k1 Unset) slot) (Covers (known e Unset k1 Unset) (slot + 1))
  keep_beside (InRegister register) k d e k1 slot is grows h1 le =
      let A = known d word k1 Unset in
      let own : KeepsOwn shape (copy register R0) A = record {
        forward = refl;
        known = refl;
        set = refl;
        frame = not_frame register (omega (arith, is.0, is.1));
        pointer = refl;
        region = refl;
        stack = refl;
        argument = refl;
        exit = refl;
        base = refl;
      } in
      one_on slot (copy register R0) A (with_kind A register word) (known e Unset k1 Unset) refl refl refl
      (placed_with register k d e A word Unset k1 is grows refl (kind_in_itself word) tt (kind_in_itself k1))
      (proper_known d word k1 Unset some_word h1 tt) own le
  keep_beside (OnStack (pos n)) k d e k1 slot is grows h1 le = absurd is
  keep_beside (OnStack (negsuc n)) k d e k1 slot is grows h1 le =
      let A = known d word k1 Unset in
      let near = reached n (omega (arith, is.0, is.1)) in
      let inside = room n (omega (arith, is.0)) in
      one_on slot (i.StoreReg size.W R10 (negsuc n) R0) A (stacked A n) (known e Unset k1 Unset) refl refl
      (rw near refl) (stacked_with n k d e A k1 is grows refl (kind_in_itself k1))
      (proper_known d word k1 Unset some_word h1 tt) (keeps_own _ _ _ (rw (near, inside) refl)) le

  pub keep_place : (p : Place) (k d e : ℕ) (slot : ℕ) → IsPlace p k → Grows k d e → slot + 1 ≤ last
      → Typing slot (keep_code p ∷ []) (Covers (valued d) slot) (Covers (plain e) (slot + 1))
  keep_place p k d e slot is grows le = keep_beside p k d e Unset slot is grows tt le

  -- a number of 32 bits into a place
  start_place : (p : Place) (k d e v : ℕ) (slot : ℕ) → IsPlace p k → Grows k d e → slot + 1 ≤ last
      → Typing slot (start_code p v ∷ []) (Covers (plain d) slot) (Covers (plain e) (slot + 1))
  start_place (InRegister register) k d e v slot is grows le =
      let x = cast_unsigned w64 (cast_signed w32 v) % 2 ^ 32 in
      let K = Number (alu_of Mov W32 (just x) (just x)) in
      let own : KeepsOwn shape (set_number register v) (plain d) = record {
        forward = refl;
        known = refl;
        set = refl;
        frame = not_frame register (omega (arith, is.0, is.1));
        pointer = refl;
        region = refl;
        stack = refl;
        argument = refl;
        exit = refl;
        base = refl;
      } in
      one_on slot (set_number register v) (plain d) (with_kind (plain d) register K) (plain e) refl refl refl
      (placed_in register k d e (plain d) K is grows refl (short x)) (proper_known d Unset Unset Unset tt tt tt) own le
  start_place (OnStack (pos n)) k d e v slot is grows le = absurd is
  start_place (OnStack (negsuc n)) k d e v slot is grows le =
      let near = reached n (omega (arith, is.0, is.1)) in
      let inside = room n (omega (arith, is.0)) in
      one_on slot (i.StoreImm size.W R10 (negsuc n) (cast_signed w32 v)) (plain d) (stacked (plain d) n) (plain e) refl refl
      (rw near refl) (stacked_in n k d e (plain d) is grows refl) (proper_known d Unset Unset Unset tt tt tt)
      (keeps_own _ _ _ (rw (near, inside) refl)) le

  -- a place into r0
  pub fetch_typed : (k d : ℕ) (k1 : AbstractValue) (slot : ℕ) → k < d → d ≤ PLACES → IsProperKind k1 → slot + 1 ≤ last
      → Typing slot (fetch_code R0 (number_place k) ∷ []) (Covers (known d Unset k1 Unset) slot)
      (Covers (known d word k1 Unset) (slot + 1))
  fetch_typed k d k1 slot lt few is le =
      fetch_place (number_place k) k d R0 Unset k1 Unset (known d word k1 Unset) slot (place_is k (omega (arith, lt, few))) lt tt is
      tt refl (into _ d word k1 Unset (kind_in_itself word) (kind_in_itself k1) tt refl) le

  -- r0 into the next place
  pub keep_typed : (d slot : ℕ) → d < PLACES → slot + 1 ≤ last
      → Typing slot (keep_code (number_place d) ∷ []) (Covers (valued d) slot) (Covers (plain (d + 1)) (slot + 1))
  keep_typed d slot lt le = keep_place (number_place d) d d (d + 1) slot (place_is d lt) (grows_one d) le

  -- r0 into a place that is in use
  pub change_typed : (k d slot : ℕ) → k < d → d ≤ PLACES → slot + 1 ≤ last
      → Typing slot (keep_code (number_place k) ∷ []) (Covers (valued d) slot) (Covers (plain d) (slot + 1))
  change_typed k d slot lt few le =
      keep_place (number_place k) k d d slot (place_is k (omega (arith, lt, few))) (grows_none k d lt) le

  -- a number of 32 bits into the next place
  pub begin_typed : (d v slot : ℕ) → d < PLACES → slot + 1 ≤ last
      → Typing slot (start_code (number_place d) v ∷ []) (Covers (plain d) slot) (Covers (plain (d + 1)) (slot + 1))
  begin_typed d v slot lt le = start_place (number_place d) d d (d + 1) v slot (place_is d lt) (grows_one d) le

  -- r0 into r1
  pub second_typed : (d slot : ℕ) → slot + 1 ≤ last
      → Typing slot (copy R1 R0 ∷ []) (Covers (valued d) slot) (Covers (known d Unset word Unset) (slot + 1))
  second_typed d slot le = one_on slot (copy R1 R0) (valued d) _ (known d Unset word Unset) refl refl refl
      (into _ d Unset word Unset tt (kind_in_itself word) tt refl)
      (proper_known d word Unset Unset some_word tt tt) (keeps_own _ _ _ refl) le
