-- What is known of registers, through each change of the array.
use Rattle.std.proofs.Common.{◌≡◌, ℕ, zero, suc, ◌+◌, ◌/◌, ◌<◌, ◌≤◌, true, if◌then◌else◌, replicate, List, length, slice_set, refl, ap, ◌∙◌, inl, inr, arith}
use Rattle.std.proofs.lemmas.List.{get_or-set_same, get_or-set_other}
use Rattle.std.proofs.lemmas.Bool.{cases_eq}
use borrow.Author.Tests.{ne_eqb, eq-eqb}
use Rattle.bpf_verify.specs.declared.abstract_value.AbstractValue.{AbstractValue}
use Rattle.bpf_verify.specs.declared.abstract_value.AbstractValue.TheVariants.{Unset, Number, Pointer}
use Rattle.bpf_verify.specs.States.{AbstractState, joined_kind}
use Rattle.std.specs.Prelude.{Option}
use Rattle.std.proofs.lemmas.Bool.Decides.{nat_tests}
use Rattle.node_env.specs.Env.{Extent}
use Rattle.node_env.specs.declared.helper.Helper.{Helper}
use Rattle.bpf_insn.specs.declared.forms.Reg.TheVariants.{R0, R1, R2, R3, R4, R5}
use Rattle.bpf_verify.specs.Outcomes.{put_kind, with_kind, is_between, cleared, with_entries, called_kinds, answer_kind, call_outcome}
use Rattle.bpf_verify.specs.inner.Rows.{kind_numbered}

-- two abstract states with the same entries are one
pub same_state : (A C : AbstractState) → ((number : ℕ) → A.kinds number ≡ C.kinds number)
    → ((byte : ℕ) → A.written byte ≡ C.written byte) → ((dword : ℕ) → A.entries dword ≡ C.entries dword) → A ≡ C
same_state A C p q r = λ i. record {
  kinds = λ number. p number i;
  written = λ byte. q byte i;
  entries = λ dword. r dword i;
}

pub kind_set : (kinds : List AbstractValue) (number : ℕ) (kind : AbstractValue) (other : ℕ) → number < length kinds
    → kind_numbered (slice_set kinds number kind) other ≡ put_kind (kind_numbered kinds) number kind other
kind_set kinds number kind other h =
    elim (cases_eq other number) [
      | inl e ↦ rw (eq-eqb other number e) (ap (kind_numbered (slice_set kinds number kind)) e
          ∙ get_or-set_same kinds number kind Unset h)
      | inr n ↦ rw (ne_eqb other number n) (get_or-set_other kinds number other kind Unset n)
    ]

-- r0 has the answer, and r1 to r5 are unset, one after another
called_one : (answer : AbstractValue) (kinds : ℕ → AbstractValue) (number : ℕ)
    → put_kind (put_kind (put_kind (put_kind (put_kind (put_kind kinds 0 answer) 1 Unset) 2 Unset) 3 Unset) 4 Unset) 5
    Unset number ≡ called_kinds answer kinds number
called_one answer kinds number = grind (arith, nat_tests)

pub called_built : (shape : Extent) (helper : Option Helper) (A a b c d e f : AbstractState) (answer : AbstractValue)
    → answer ≡ answer_kind shape helper → a ≡ with_kind A R0 answer → b ≡ with_kind a R1 Unset
    → c ≡ with_kind b R2 Unset
    → d ≡ with_kind c R3 Unset → e ≡ with_kind d R4 Unset → f ≡ with_kind e R5 Unset → f ≡ call_outcome shape helper A
called_built shape helper A a b c d e f answer g h i j k l m =
    rw (m, l, k, j, i, h, g) (same_state _ (call_outcome shape helper A)
    (called_one (answer_kind shape helper) A.kinds) (λ _. refl) (λ _. refl))

-- one more double word is forgotten
pub forgotten : (before after : List AbstractValue) (first dword : ℕ) → dword < length after → first ≤ dword
    → ((other : ℕ) → kind_numbered after other
    ≡ (if is_between first dword other then Unset else kind_numbered before other)) → (other : ℕ)
    → kind_numbered (slice_set after dword Unset) other
    ≡ (if is_between first (dword + 1) other then Unset else kind_numbered before other)
forgotten before after first dword within low h other =
    elim (cases_eq other dword) [
      | inl e ↦
          let here : is_between first (dword + 1) other ≡ true = grind (arith, nat_tests, e, low) in
          rw here (kind_set after dword Unset other within ∙ rw (eq-eqb other dword e) refl)
      | inr n ↦
          let same : is_between first (dword + 1) other ≡ is_between first dword other = grind (arith, nat_tests, n) in
          rw same (kind_set after dword Unset other within ∙ rw (ne_eqb other dword n) (h other))
    ]

pub none_known : (count dword : ℕ) → kind_numbered (replicate count Unset) dword ≡ Unset
none_known zero dword = refl
none_known (suc count) zero = refl
none_known (suc count) (suc dword) = none_known count dword

-- a state whose entries are cleared
pub forgotten_state : (A C : AbstractState) (first end : ℕ) → C.kinds ≡ A.kinds → C.written ≡ A.written
    → ((other : ℕ) → C.entries other
    ≡ (if is_between (first / 8) ((end + 7) / 8) other then Unset else A.entries other))
    → C ≡ with_entries A (cleared A.entries first end)
forgotten_state A C first end k w e =
    same_state C (with_entries A (cleared A.entries first end)) (λ number. ap (λ f. f number) k)
    (λ byte. ap (λ f. f byte) w) e

pub joined_unset : (k : AbstractValue) → joined_kind k Unset ≡ Unset
joined_unset Unset = refl
joined_unset (Number a) = refl
joined_unset (Pointer region a) = refl
