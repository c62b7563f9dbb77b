-- Runs one after the other, and runs to an end.
use Rattle.std.proofs.Common.{◌≡◌, ◌≢◌, ℕ, zero, suc, ◌+◌, ◌≤◌, List, Option, Some, None, Ok, pos, refl, sym, ap, ◌∙◌, arith, subst, inl, inr}
use Rattle.std.specs.Ordering.{nat_cmp}
use Rattle.std.specs.FinMap.{FinMap, empty, get, insert, get-empty}
use Rattle.std.proofs.lemmas.Bool.{cases_eq}
use Rattle.node_env.specs.Env.{Setting}
use Rattle.bpf_insn.specs.declared.forms.Reg.TheVariants.{R0}
use Rattle.bpf_insn.specs.declared.forms.Operand.TheVariants.{Imm}
use Rattle.bpf_insn.specs.declared.forms.Insn.{Insn}
use Rattle.bpf_machine.specs.declared.word.Word.TheVariants.{Num}
use Rattle.bpf_machine.specs.Machine.{MachineState, Phase, Running, Ended}
use Rattle.bpf_machine.specs.Step.{step}
use Rattle.bpf_machine.specs.Run.{Leads, CompleteRun, End}
use Rattle.bpf_machine.proofs.OneRun.{one_complete_run}
use Rattle.clock_nodes.specs.Listings.{tail}
use Rattle.clock_nodes.specs.Ends.{IsSentTo}
use Rattle.clock_nodes.proofs.Places.{Stands, begins}
use Rattle.clock_nodes.proofs.Forms.{put_same, put_other, put, moves, exits}

leads_add : (program : List Insn) (env : Setting) (k l : ℕ) (s t u : Phase) → Leads program env k s t
    → Leads program env l t u → Leads program env (k + l) s u
leads_add program env zero l s t u h g =
    let same : l ≡ 0 + l = omega arith in
    subst (λ (n : ℕ). Leads program env n s u) same (subst (λ (p : Phase). Leads program env l p u) h g)
leads_add program env (suc k) l s t u h g =
    let rest : Leads program env (suc (k + l)) s u = (h.0, h.1, leads_add program env k l h.0 t u h.2 g) in
    let same : suc (k + l) ≡ suc k + l = omega arith in
    subst (λ (n : ℕ). Leads program env n s u) same rest

-- the state runs, in at most so many steps, to an end with this memory, with 0 in r0 and what is given sent to each
-- node
pub record Finishes (program : List Insn) (env : Setting) (s : MachineState) (limit : ℕ) (left : List ℕ)
    (value_for : ℕ → Option ℕ) : Type 0 where
  pub count : ℕ
  pub gone : FinMap nat_cmp ℕ
  pub leads : Leads program env count (Running s) (Ended left gone 0)
  pub few : count ≤ limit
  pub sent : IsSentTo env.shape.nodes value_for gone

pub after : (program : List Insn) (env : Setting) (k l limit total : ℕ) (s t : MachineState) (left : List ℕ)
    (value_for : ℕ → Option ℕ) → Leads program env k (Running s) (Running t) → k ≤ l
    → l + limit ≤ total → Finishes program env t limit left value_for → Finishes program env s total left value_for
after program env k l limit total s t left value_for h few sum rest = record {
  count = k + rest.count;
  gone = rest.gone;
  leads = leads_add program env k rest.count (Running s) (Running t) _ h rest.leads;
  few = omega (arith, few, sum, rest.few);
  sent = rest.sent;
}

-- from the tail
pub finish_tail : (program : List Insn) (env : Setting) (s : MachineState) (value_for : ℕ → Option ℕ)
    → Stands program s.frame.slot tail → IsSentTo env.shape.nodes value_for s.sent
    → Finishes program env s 2 s.memory value_for
finish_tail program env s value_for stands sent =
    let t = put s (s.frame.slot + 1) R0 (Num 0) in
    let e1 : step program env s ≡ Ok (Running t) = moves program env s (s.frame.slot + 1) R0 (Imm (pos 0))
    (Num 0) stands.0 refl (begins program _ _ stands.1.0) refl refl in
    let e2 : step program env t ≡ Ok (Ended s.memory s.sent 0) = exits program env t 0 stands.1.0
    (put_same s.frame.registers 0 (Num 0)) in
    record { count = 2; gone = s.sent; leads = (_, e1, (_, e2, refl)); few = omega arith; sent = sent }

-- ---- what is sent

pub nothing_sent : (value_for : ℕ → Option ℕ) → IsSentTo 0 value_for empty
nothing_sent value_for = record { each = λ j lt. absurd (omega arith); no_other = λ j le. get-empty nat_cmp j }

-- to the next node there is a value
pub sent_next : (j v : ℕ) (value_for : ℕ → Option ℕ) (sent : FinMap nat_cmp ℕ) → value_for j ≡ Some v
    → IsSentTo j value_for sent → IsSentTo (suc j) value_for (insert sent j v)
sent_next j v value_for sent e h = record {
  each = λ k lt. elim (cases_eq k j) [
    | inl same ↦ ap (get (insert sent j v)) same ∙ put_same sent j v ∙ sym e ∙ ap value_for (sym same)
    | inr other ↦ put_other sent j v k other ∙ h.each k (omega arith)
  ];
  no_other = λ k le. let other : k ≢ j = λ same. omega arith in put_other sent j v k other ∙ h.no_other k (omega arith);
}

-- there is none
pub sent_none : (j : ℕ) (value_for : ℕ → Option ℕ) (sent : FinMap nat_cmp ℕ) → value_for j ≡ None
    → IsSentTo j value_for sent → IsSentTo (suc j) value_for sent
sent_none j value_for sent e h = record {
  each = λ k lt. elim (cases_eq k j) [
    | inl same ↦ ap (get sent) same ∙ h.no_other j (omega arith) ∙ sym e ∙ ap value_for (sym same)
    | inr other ↦ h.each k (omega arith)
  ];
  no_other = λ k le. h.no_other k (omega arith);
}

-- ---- a program has one end

pub record HasEnd (program : List Insn) (env : Setting) (memory : List ℕ) (IsEnd : End → Type 0) : Type 0 where
  pub end : End
  pub run : CompleteRun program env memory end
  pub is : IsEnd end

pub one_end : (program : List Insn) (env : Setting) (memory : List ℕ) (IsEnd : End → Type 0)
    → HasEnd program env memory IsEnd → (end : End) → CompleteRun program env memory end → IsEnd end
one_end program env memory IsEnd has end run = subst IsEnd
    (one_complete_run program env memory has.end end has.run run) has.is
