-- What is told of a program is told once.
use Rattle.std.proofs.Common.{◌≡◌, ℕ, suc, ◌≤◌, List, inl, inr, arith, refl}
use Rattle.std.proofs.lemmas.Bool.{cases_lt}
use Rattle.node_env.specs.Env.{Extent}
use Rattle.bpf_insn.specs.declared.forms.Insn.{Insn}
use Rattle.bpf_insn.specs.Programs.{slots_of}
use Rattle.bpf_verify.specs.Typable.{TypableBelow, Typable}
use Rattle.bpf_verify.specs.Paths.{IsLongestPath}
use Rattle.bpf_verify.specs.Accepted.{IsFirstBroken, IsRefusal}
use Rattle.bpf_verify.specs.declared.refusal.VerifyError.{VerifyError}
use Rattle.bpf_verify.specs.declared.refusal.VerifyError.TheVariants as error

-- what types more slots types fewer
fewer_typed : (program : List Insn) (shape : Extent) (end more : ℕ) → end ≤ more → TypableBelow program shape more
    → TypableBelow program shape end
fewer_typed program shape end more few (table, types) = (
  table,
  record {
    entry = types.entry;
    proper = λ slot insn A before. types.proper slot insn A (omega (arith, few, before));
    rules = λ slot insn before. types.rules slot insn (omega (arith, few, before));
    edges = λ slot to insn way A C before within. types.edges slot to insn way A C (omega (arith, few, before))
        (omega (arith, few, within));
  },
)

pub broken_untypable : (program : List Insn) (shape : Extent) (slot : ℕ) → IsFirstBroken program shape slot
    → Typable program shape → ⊥
broken_untypable program shape slot broken typable = broken.here
    (fewer_typed program shape (suc slot) (slots_of program) broken.within typable)

-- a typable program is refused for want of memory alone
pub typable_refusal : (program : List Insn) (shape : Extent) (e : VerifyError) → IsRefusal program shape e
    → Typable program shape → e ≡ error.Memory
typable_refusal program shape (error.Refused slot rule) broken typable = absurd
    (broken_untypable program shape slot broken typable)
typable_refusal program shape error.Memory broken typable = refl

pub one_broken : (program : List Insn) (shape : Extent) (slot other : ℕ) → IsFirstBroken program shape slot
    → IsFirstBroken program shape other → slot ≡ other
one_broken program shape slot other p q =
    elim (cases_lt slot other) [
      | inl less ↦ absurd (p.here (fewer_typed program shape (suc slot) other less q.before))
      | inr more ↦ elim (cases_lt other slot) [
        | inl less ↦ absurd (q.here (fewer_typed program shape (suc other) slot less p.before))
        | inr fewer ↦ omega (arith, more, fewer)
      ]
    ]

pub one_longest : (program : List Insn) (count other : ℕ) → IsLongestPath program count → IsLongestPath program other
    → count ≡ other
one_longest program count other p q =
    let a = q.most p.reached.0 p.reached.1 p.reached.3 in
    let b = p.most q.reached.0 q.reached.1 q.reached.3 in
    omega (arith, a, b, p.reached.2, q.reached.2)
