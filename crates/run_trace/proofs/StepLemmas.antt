-- The steps of a run, one after the other.
use Rattle.std.proofs.Common.{◌≡◌, ℕ, zero, suc, ◌+◌, ◌-◌, ◌<◌, ◌≤◌, List, [], ◌∷◌, length, Result, Ok, Err, arith, refl, ap, sym, subst, ◌∙◌}
use Rattle.std.specs.Prelude.{Some, slice_get}
use Rattle.std.specs.Ordering.{nat_cmp}
use Rattle.std.specs.FinMap.{FinMap}
use Rattle.node_env.specs.Env.{Setting}
use Rattle.bpf_insn.specs.declared.forms.Insn.{Insn}
use Rattle.bpf_machine.specs.declared.word.TrapKind.{TrapKind}
use Rattle.bpf_machine.specs.declared.word.Turn.TheVariants as turns
use Rattle.bpf_machine.specs.Machine.{MachineState, Phase, Running, Ended}
use Rattle.bpf_machine.specs.Run.{Steps, Leads, HasNoSuccessor, IsStuck, Turns}
use Rattle.bpf_machine.specs.Step.{step}
use Rattle.run_trace.specs.Steps.{TracedStep, followed_by, step_at, steps_from}

-- ---- what follows a step

after_next : (r : Result Phase TrapKind) (t : MachineState) (more : MachineState → List TracedStep) → r ≡ Ok (Running t)
    → followed_by r more ≡ more t
after_next r t more e = ap (λ x. followed_by x more) e

after_end : (r : Result Phase TrapKind) (m : List ℕ) (out : FinMap nat_cmp ℕ) (r0 : ℕ) (more : MachineState → List TracedStep)
    → r ≡ Ok (Ended m out r0) → followed_by r more ≡ []
after_end r m out r0 more e = ap (λ x. followed_by x more) e

after_none : (r : Result Phase TrapKind) (more : MachineState → List TracedStep) → ((t : Phase) → r ≡ Ok t → ⊥)
    → followed_by r more ≡ []
after_none (Ok t) more none = absurd (none t refl)
after_none (Err trap) more none = refl

pub next_follows : (program : List Insn) (env : Setting) (old new : MachineState) (more : MachineState → List TracedStep)
    → Turns program env old new turns.Next → followed_by (step program env old) more ≡ more new
next_follows program env old new more turned = after_next (step program env old) new more turned

pub end_follows : (program : List Insn) (env : Setting) (old new : MachineState) (r0 : ℕ)
    (more : MachineState → List TracedStep) → Turns program env old new (turns.Ended r0)
    → followed_by (step program env old) more ≡ []
end_follows program env old new r0 more turned =
    after_end (step program env old) old.memory old.sent r0 more turned.0

pub trap_follows : (program : List Insn) (env : Setting) (old new : MachineState) (kind : TrapKind)
    (more : MachineState → List TracedStep) → Turns program env old new (turns.Trap kind)
    → followed_by (step program env old) more ≡ []
trap_follows program env old new kind more turned =
    after_none (step program env old) more turned.0.none

-- the first of the steps, where there is fuel
pub first_step : (program : List Insn) (env : Setting) (s : MachineState) (taken fuel : ℕ) → taken < fuel
    → steps_from program env (fuel - taken) s
    ≡ step_at program env s ∷ followed_by (step program env s) (steps_from program env (fuel - (taken + 1)))
first_step program env s taken fuel more =
    let one : fuel - taken ≡ suc (fuel - (taken + 1)) = omega (arith, more) in
    ap (λ n. steps_from program env n s) one

-- ---- how many there are

length_after : (x : TracedStep) (xs ys : List TracedStep) (n : ℕ) → xs ≡ ys → length ys ≡ n → length (x ∷ xs) ≡ suc n
length_after x xs ys n e all = ap suc (ap length e ∙ all)

none_after_end : (program : List Insn) (env : Setting) (k : ℕ) (m left : List ℕ) (out gone : FinMap nat_cmp ℕ)
    (q0 r0 : ℕ) → Leads program env k (Ended m out q0) (Ended left gone r0) → k ≡ 0
none_after_end program env zero m left out gone q0 r0 h = refl
none_after_end program env (suc k) m left out gone q0 r0 h = absurd h.1

not_after_end : (program : List Insn) (env : Setting) (k : ℕ) (m : List ℕ) (out : FinMap nat_cmp ℕ) (q0 : ℕ)
    (s : MachineState) → Leads program env k (Ended m out q0) (Running s) → ⊥
not_after_end program env zero m out q0 s h = let e : Running s ≡ Ended m out q0 = h in absurd cc
not_after_end program env (suc k) m out q0 s h = h.1

pub ended_length : (program : List Insn) (env : Setting) (k fuel : ℕ) (s : MachineState) (m : List ℕ)
    (out : FinMap nat_cmp ℕ) (r0 : ℕ) → k ≤ fuel → Leads program env k (Running s) (Ended m out r0)
    → length (steps_from program env fuel s) ≡ k
ended_length program env zero fuel s m out r0 few h = absurd (let e : Ended m out r0 ≡ Running s = h in cc)
ended_length program env (suc k) zero s m out r0 few h = absurd (omega (arith, few))
ended_length program env (suc k) (suc fuel) s m out r0 few h = by h.0 h.1 h.2
    (λ t rest. ended_length program env k fuel t m out r0 (omega (arith, few)) rest)
  where
    by : (mid : Phase) → Steps program env (Running s) mid → Leads program env k mid (Ended m out r0)
        → ((t : MachineState) → Leads program env k (Running t) (Ended m out r0)
        → length (steps_from program env fuel t) ≡ k)
        → length (steps_from program env (suc fuel) s) ≡ suc k
    by (Running t) goes rest later =
        length_after (step_at program env s) _ _ k
        (after_next (step program env s) t (steps_from program env fuel) goes) (later t rest)
    by (Ended left gone q0) goes rest later =
        let none = none_after_end program env k left m gone out q0 r0 rest in
        length_after (step_at program env s) _ [] k
        (after_end (step program env s) left gone q0 (steps_from program env fuel) goes) (sym none)

pub running_length : (program : List Insn) (env : Setting) (fuel : ℕ) (s t : MachineState)
    → Leads program env fuel (Running s) (Running t) → length (steps_from program env fuel s) ≡ fuel
running_length program env zero s t h = refl
running_length program env (suc fuel) s t h = by h.0 h.1 h.2 (λ u rest. running_length program env fuel u t rest)
  where
    by : (mid : Phase) → Steps program env (Running s) mid → Leads program env fuel mid (Running t)
        → ((u : MachineState) → Leads program env fuel (Running u) (Running t)
        → length (steps_from program env fuel u) ≡ fuel)
        → length (steps_from program env (suc fuel) s) ≡ suc fuel
    by (Running u) goes rest later =
        length_after (step_at program env s) _ _ fuel
        (after_next (step program env s) u (steps_from program env fuel) goes) (later u rest)
    by (Ended left gone q0) goes rest later = absurd (not_after_end program env fuel left gone q0 t rest)

pub stuck_length : (program : List Insn) (env : Setting) (k fuel : ℕ) (s t : MachineState) (kind : TrapKind) → k < fuel
    → Leads program env k (Running s) (Running t) → IsStuck program env t kind
    → length (steps_from program env fuel s) ≡ k + 1
stuck_length program env k zero s t kind few h stuck = absurd (omega (arith, few))
stuck_length program env zero (suc fuel) s t kind few h stuck =
    let same : Running t ≡ Running s = h in
    let here : t ≡ s = cc in
    let none : HasNoSuccessor program env s = subst (λ u. HasNoSuccessor program env u) here stuck.none in
    length_after (step_at program env s) _ [] 0
    (after_none (step program env s) (steps_from program env fuel) none) refl
stuck_length program env (suc k) (suc fuel) s t kind few h stuck = by h.0 h.1 h.2
    (λ u rest. stuck_length program env k fuel u t kind (omega (arith, few)) rest stuck)
  where
    by : (mid : Phase) → Steps program env (Running s) mid → Leads program env k mid (Running t)
        → ((u : MachineState) → Leads program env k (Running u) (Running t)
        → length (steps_from program env fuel u) ≡ k + 1)
        → length (steps_from program env (suc fuel) s) ≡ suc k + 1
    by (Running u) goes rest later =
        let more = later u rest in
        let place : suc (k + 1) ≡ suc k + 1 = omega arith in
        length_after (step_at program env s) _ _ (k + 1)
        (after_next (step program env s) u (steps_from program env fuel) goes) more ∙ place
    by (Ended left gone q0) goes rest later = absurd (not_after_end program env k left gone q0 t rest)

-- ---- as much fuel as there are steps

pub same_steps : (program : List Insn) (env : Setting) (k fuel : ℕ) (s : MachineState) (m : List ℕ)
    (out : FinMap nat_cmp ℕ) (r0 : ℕ) → k ≤ fuel → Leads program env k (Running s) (Ended m out r0)
    → steps_from program env fuel s ≡ steps_from program env k s
same_steps program env zero fuel s m out r0 few h = absurd (let e : Ended m out r0 ≡ Running s = h in cc)
same_steps program env (suc k) zero s m out r0 few h = absurd (omega (arith, few))
same_steps program env (suc k) (suc fuel) s m out r0 few h = by h.0 h.1 h.2
    (λ t rest. same_steps program env k fuel t m out r0 (omega (arith, few)) rest)
  where
    by : (mid : Phase) → Steps program env (Running s) mid → Leads program env k mid (Ended m out r0)
        → ((t : MachineState) → Leads program env k (Running t) (Ended m out r0)
        → steps_from program env fuel t ≡ steps_from program env k t)
        → steps_from program env (suc fuel) s ≡ steps_from program env (suc k) s
    by (Running t) goes rest later =
        ap (λ more. step_at program env s ∷ more)
        (after_next (step program env s) t (steps_from program env fuel) goes
        ∙ (later t rest ∙ sym (after_next (step program env s) t (steps_from program env k) goes)))
    by (Ended left gone q0) goes rest later =
        ap (λ more. step_at program env s ∷ more)
        (after_end (step program env s) left gone q0 (steps_from program env fuel) goes
        ∙ sym (after_end (step program env s) left gone q0 (steps_from program env k) goes))

-- ---- each is reached

-- the step of a place, and the state before it
abbrev pub Reached : List Insn → Setting → Phase → ℕ → TracedStep → Type 0
Reached program env from place x = Leads program env place from (Running x.state) × (x.gives ≡ step program env x.state)

pub place_reached : (program : List Insn) (env : Setting) (fuel place : ℕ) (s : MachineState) (x : TracedStep)
    → slice_get (steps_from program env fuel s) place ≡ Some x → Reached program env (Running s) place x
place_reached program env zero place s x at = absurd cc
place_reached program env (suc fuel) zero s x at =
    let same : step_at program env s ≡ x = cc in
    subst (λ y. Reached program env (Running s) 0 y) same (refl, refl)
place_reached program env (suc fuel) (suc place) s x at = by (step program env s) refl at
    (λ t there. place_reached program env fuel place t x there)
  where
    by : (r : Result Phase TrapKind) → step program env s ≡ r
        → slice_get (followed_by r (steps_from program env fuel)) place ≡ Some x
        → ((t : MachineState) → slice_get (steps_from program env fuel t) place ≡ Some x
        → Reached program env (Running t) place x)
        → Reached program env (Running s) (suc place) x
    by (Ok (Running t)) goes at later = let rest = later t at in ((Running t, goes, rest.0), rest.1)
    by (Ok (Ended m out r0)) goes at later = absurd cc
    by (Err trap) goes at later = absurd cc
