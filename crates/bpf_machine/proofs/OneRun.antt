-- A program has at most one run.
use Rattle.std.proofs.Common.{◌≡◌, ℕ, zero, suc, ◌<◌, ◌≤◌, List, refl, sym, subst, ap, ◌∙◌, arith, inl, inr, true, false}
use Rattle.std.specs.Ordering.{nat_cmp}
use Rattle.std.specs.FinMap.{FinMap}
use Rattle.std.proofs.lemmas.Bool.{cases_order}
use Rattle.node_env.specs.Env.{Setting}
use Rattle.bpf_insn.specs.declared.forms.Insn.{Insn}
use Rattle.bpf_machine.specs.declared.word.TrapKind.{TrapKind}
use Rattle.bpf_machine.specs.declared.word.Outcome.{Outcome}
use Rattle.bpf_machine.specs.declared.word.Outcome.TheVariants as outcome
use Rattle.bpf_machine.specs.Machine.{MachineState, Phase, Running, Ended, entry}
use Rattle.bpf_machine.specs.Traps.{IsLowestTrap, trap_number}
use Rattle.bpf_machine.specs.Run.{Steps, Leads, End, CompleteRun, RunAnswers, IsLeft, IsStuck}
use Rattle.bpf_machine.proofs.LowestTrap.{kind_by_number}

pub one_step : (program : List Insn) (env : Setting) (s t u : Phase) → Steps program env s t → Steps program env s u
    → t ≡ u
one_step program env (Running s) t u h g = cc
one_step program env (Ended m out r0) t u h g = absurd h

no_step : (program : List Insn) (env : Setting) (s t : Phase) (m : List ℕ) (out : FinMap nat_cmp ℕ) (r0 : ℕ)
    → Ended m out r0 ≡ s → Steps program env s t → ⊥
no_step program env s t m out r0 e h = subst (λ (p : Phase). Steps program env p t) (sym e) h

-- two runs from one phase to an end are one
one_end : (program : List Insn) (env : Setting) (k j : ℕ) (s : Phase) (m m' : List ℕ) (out out' : FinMap nat_cmp ℕ)
    (q r : ℕ)
    → Leads program env k s (Ended m out q) → Leads program env j s (Ended m' out' r)
    → (k ≡ j) × (Ended m out q ≡ Ended m' out' r)
one_end program env zero zero s m m' out out' q r h g = (refl, h ∙ sym g)
one_end program env zero (suc j) s m m' out out' q r h g = absurd (no_step program env s g.0 m out q h g.1)
one_end program env (suc k) zero s m m' out out' q r h g = absurd (no_step program env s h.0 m' out' r g h.1)
one_end program env (suc k) (suc j) s m m' out out' q r h g =
    let same : h.0 ≡ g.0 = one_step program env s h.0 g.0 h.1 g.1 in
    let more = one_end program env k j g.0 m m' out out' q r
    (subst (λ (p : Phase). Leads program env k p (Ended m out q)) same h.2) g.2 in
    (ap suc more.0, more.1)

abbrev end_with : ℕ → List ℕ → FinMap nat_cmp ℕ → ℕ → End
end_with steps memory sent r0 = record { steps = steps; memory = memory; sent = sent; r0 = r0 }

same_end : (j k : ℕ) (m m' : List ℕ) (out out' : FinMap nat_cmp ℕ) (q r : ℕ) → j ≡ k → m ≡ m' → out ≡ out' → q ≡ r
    → end_with j m out q ≡ end_with k m' out' r
same_end j k m m' out out' q r e f g h = rw (e, f, g, h) refl

pub one_complete_run : (program : List Insn) (env : Setting) (memory : List ℕ) (first second : End)
    → CompleteRun program env memory first → CompleteRun program env memory second → first ≡ second
one_complete_run program env memory first second h g =
    let same = one_end program env first.steps second.steps _ first.memory second.memory first.sent second.sent
    first.r0 second.r0 h g in
    let left : Ended first.memory first.sent first.r0 ≡ Ended second.memory second.sent second.r0 = same.1 in
    let memories : first.memory ≡ second.memory = cc in
    let numbers : first.sent ≡ second.sent = cc in
    let results : first.r0 ≡ second.r0 = cc in
    same_end first.steps second.steps first.memory second.memory first.sent second.sent first.r0 second.r0 same.0
    memories numbers results

-- a run that ends passes each state before its end
end_after : (program : List Insn) (env : Setting) (k j : ℕ) (s : Phase) (t : MachineState) (m : List ℕ)
    (out : FinMap nat_cmp ℕ) (r0 : ℕ) → Leads program env k s (Ended m out r0) → Leads program env j s (Running t)
    → j < k
end_after program env zero zero s t m out r0 h g = absurd (let e : Ended m out r0 ≡ Running t = h ∙ sym g in cc)
end_after program env zero (suc j) s t m out r0 h g = absurd (no_step program env s g.0 m out r0 h g.1)
end_after program env (suc k) zero s t m out r0 h g = omega arith
end_after program env (suc k) (suc j) s t m out r0 h g =
    let same : h.0 ≡ g.0 = one_step program env s h.0 g.0 h.1 g.1 in
    let more = end_after program env k j g.0 t m out r0
    (subst (λ (p : Phase). Leads program env k p (Ended m out r0)) same h.2) g.2 in
    omega (arith, more)

-- as many steps from one phase lead to one phase
one_state : (program : List Insn) (env : Setting) (k : ℕ) (s t u : Phase) → Leads program env k s t
    → Leads program env k s u → t ≡ u
one_state program env zero s t u h g = h ∙ sym g
one_state program env (suc k) s t u h g =
    let same : h.0 ≡ g.0 = one_step program env s h.0 g.0 h.1 g.1 in
    one_state program env k g.0 t u (subst (λ (p : Phase). Leads program env k p t) same h.2) g.2

-- a run goes no further than where it gets stuck
stuck_last : (program : List Insn) (env : Setting) (j k : ℕ) (s u : Phase) (t : MachineState) (kind : TrapKind)
    → Leads program env j s (Running t) → IsStuck program env t kind → Leads program env k s u → k ≤ j
stuck_last program env j zero s u t kind h e g = omega arith
stuck_last program env zero (suc k) s u t kind h e g = absurd
    (e.none g.0 (subst (λ (p : Phase). Steps program env p g.0) (sym h) g.1))
stuck_last program env (suc j) (suc k) s u t kind h e g =
    let same : h.0 ≡ g.0 = one_step program env s h.0 g.0 h.1 g.1 in
    let more = stuck_last program env j k g.0 u t kind
    (subst (λ (p : Phase). Leads program env j p (Running t)) same h.2) e g.2 in
    omega (arith, more)

-- no run ends that has got stuck
stuck_never_ends : (program : List Insn) (env : Setting) (k j : ℕ) (s : Phase) (t : MachineState) (kind : TrapKind)
    (m : List ℕ) (out : FinMap nat_cmp ℕ) (r0 : ℕ)
    → Leads program env k s (Ended m out r0) → Leads program env j s (Running t) → IsStuck program env t kind → ⊥
stuck_never_ends program env k j s t kind m out r0 h g e =
    omega (
      arith,
      end_after program env k j s t m out r0 h g,
      stuck_last program env j k s
          (Ended m out r0) t kind g e h,
    )

one_trap : (program : List Insn) (env : Setting) (s : MachineState) (kind other : TrapKind)
    → IsLowestTrap program env s kind → IsLowestTrap program env s other → kind ≡ other
one_trap program env s kind other low high =
    elim (cases_order (trap_number kind) (trap_number other)) [
      | inl e ↦ kind_by_number kind other e
      | inr (inl lt) ↦ let no : true ≡ false = sym low.holds ∙ high.lowest kind lt in absurd cc
      | inr (inr lt) ↦ let no : true ≡ false = sym high.holds ∙ low.lowest other lt in absurd cc
    ]

-- two states that are one leave the same
same_left : (s t : MachineState) (left right : List ℕ) (sent gone : FinMap nat_cmp ℕ) → s ≡ t → IsLeft s left sent
    → IsLeft t right gone → (left ≡ right) × (sent ≡ gone)
same_left s t left right sent gone e h g = (
  sym h.memory ∙ (ap (λ (m : MachineState). m.memory) e ∙ g.memory),
  sym h.sent
      ∙ (ap (λ (m : MachineState). m.sent) e ∙ g.sent),
)

-- a program and its fuel have one answer
pub one_answer : (program : List Insn) (env : Setting) (memory : List ℕ) (fuel : ℕ) (left right : List ℕ)
    (sent gone : FinMap nat_cmp ℕ) (first second : Outcome)
    → RunAnswers program env memory fuel left sent first → RunAnswers program env memory fuel right gone second
    → (first ≡ second) × (left ≡ right) × (sent ≡ gone)
one_answer program env memory fuel left right sent gone (outcome.Ended q j) (outcome.Ended r k) h g =
    let same = one_end program env j k _ left right sent gone q r h.1 g.1 in
    let steps : j ≡ k = same.0 in
    let ends : Ended left sent q ≡ Ended right gone r = same.1 in
    (cc, cc, cc)
one_answer program env memory fuel left right sent gone (outcome.Ended q j) (outcome.Trap slot kind) h g =
    absurd (stuck_never_ends program env j g.0 _ g.1 kind left sent q h.1 g.3.there g.3.stuck)
one_answer program env memory fuel left right sent gone (outcome.Ended q j) outcome.OutOfFuel h g =
    absurd (omega (arith, end_after program env j fuel _ g.0 left sent q h.1 g.1, h.0))
one_answer program env memory fuel left right sent gone (outcome.Trap slot kind) (outcome.Ended r k) h g =
    absurd (stuck_never_ends program env k h.0 _ h.1 kind right gone r g.1 h.3.there h.3.stuck)
one_answer program env memory fuel left right sent gone (outcome.Trap slot kind) (outcome.Trap place other) h g =
    let high = stuck_last program env h.0 g.0 _ (Running g.1) h.1 kind h.3.there h.3.stuck g.3.there in
    let low = stuck_last program env g.0 h.0 _ (Running h.1) g.1 other g.3.there g.3.stuck h.3.there in
    let count : h.0 ≡ g.0 = omega (arith, high, low) in
    let phase : Running h.1 ≡ Running g.1 = one_state program env g.0 _ (Running h.1) (Running g.1)
    (subst (λ n. Leads program env n (Running (entry env memory)) (Running h.1)) count h.3.there) g.3.there in
    let state : h.1 ≡ g.1 = cc in
    let kinds : kind ≡ other = one_trap program env g.1 kind other
    (subst (λ (s : MachineState). IsLowestTrap program env s kind) state h.3.stuck.trap) g.3.stuck.trap in
    let slots : slot ≡ place = sym h.4 ∙ (ap (λ (s : MachineState). s.frame.slot) state ∙ g.4) in
    let same = same_left h.1 g.1 left right sent gone state h.5 g.5 in
    (cc, same.0, same.1)
one_answer program env memory fuel left right sent gone (outcome.Trap slot kind) outcome.OutOfFuel h g =
    absurd (omega (arith, stuck_last program env h.0 fuel _ (Running g.0) h.1 kind h.3.there h.3.stuck g.1, h.2))
one_answer program env memory fuel left right sent gone outcome.OutOfFuel (outcome.Ended r k) h g =
    absurd (omega (arith, end_after program env k fuel _ h.0 right gone r g.1 h.1, g.0))
one_answer program env memory fuel left right sent gone outcome.OutOfFuel (outcome.Trap slot kind) h g =
    absurd (omega (arith, stuck_last program env g.0 fuel _ (Running h.0) g.1 kind g.3.there g.3.stuck h.1, g.2))
one_answer program env memory fuel left right sent gone outcome.OutOfFuel outcome.OutOfFuel h g =
    let phase : Running h.0 ≡ Running g.0 = one_state program env fuel _ (Running h.0) (Running g.0) h.1 g.1 in
    let state : h.0 ≡ g.0 = cc in
    let same = same_left h.0 g.0 left right sent gone state h.2 g.2 in
    (refl, same.0, same.1)
