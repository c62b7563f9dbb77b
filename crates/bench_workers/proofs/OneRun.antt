-- A list of events has one run.
use Rattle.std.proofs.Common.{◌≡◌, ℕ, ◌+◌, ◌≤◌, List, [], ◌∷◌, map, arith, refl, ap, ap₂, sym, subst, ◌∙◌, inl, inr, true, false, Bool}
use Rattle.std.specs.Prelude.{◌↔◌, IsTrue}
use Rattle.bench_core.specs.Setup.{Setup}
use Rattle.bench_core.specs.State.{State, new_state, opened_state, staged_state, coins_of}
use Rattle.bench_core.specs.Settled.{Agree}
use Rattle.bench_core.specs.Told.{IsRecord, IsSteps, PulseTold}
use Rattle.bench_core.proofs.Replays.{one_pulse}
use Rattle.bench_workers.specs.Events.{Event, Stage}
use Rattle.bench_workers.specs.Events.{Pulse as PulseEvent}
use Rattle.bench_workers.specs.Laws.{OneRun}
use Rattle.bench_workers.specs.Runs.{Goes}

same_truth : (P : Type 0) (a b : Bool) → (IsTrue a ↔ P) → (IsTrue b ↔ P) → a ≡ b
same_truth P true true h g = refl
same_truth P true false h g = sym (g.1 (h.0 refl))
same_truth P false true h g = h.1 (g.0 refl)
same_truth P false false h g = refl

few_steps : (s : Setup) (b : State) (coins : List ℕ) (k n : ℕ) → IsSteps s b coins k → IsSteps s b coins n → k ≤ n
few_steps s b coins k n h g =
    elim h.reached [
      | inl ran ↦ let few = g.most ran.0 ran.1 ran.2 in let is = ran.3 in omega (arith, few, is)
      | inr none ↦ let is = none.1 in omega (arith, is)
    ]

one_steps : (s : Setup) (b : State) (coins : List ℕ) (k n : ℕ) → IsSteps s b coins k → IsSteps s b coins n → k ≡ n
one_steps s b coins k n h g =
    let up = few_steps s b coins k n h g in
    let down = few_steps s b coins n k g h in
    omega (arith, up, down)

same_told : (r q : PulseTold) → r.row ≡ q.row → r.clocks ≡ q.clocks → r.settled ≡ q.settled → r.steps ≡ q.steps
    → r.agree ≡ q.agree → r ≡ q
same_told r q row clocks settled steps agree =
    λ k. record { row = row k; clocks = clocks k; settled = settled k; steps = steps k; agree = agree k }

pub one_record : (s : Setup) (b b' : State) (r q : PulseTold) → IsRecord s b b' r → IsRecord s b b' q → r ≡ q
one_record s b b' r q h g =
    same_told r q (h.row ∙ sym g.row) (h.clocks ∙ sym g.clocks) (h.settled ∙ sym g.settled)
    (one_steps s b (coins_of b) r.steps q.steps h.steps g.steps)
    (same_truth (Agree s b b') r.agree q.agree h.agree g.agree)

one_going : (s : Setup) (b : State) (n : ℕ) (es : List Event) (rs qs : List PulseTold) (left other : State)
    → Goes s b n es rs left → Goes s b n es qs other → (rs ≡ qs) × (left ≡ other)
one_going s b n [] rs qs left other h g = (h.0 ∙ sym g.0, h.1 ∙ sym g.1)
one_going s b n (Stage c ∷ es) rs qs left other h g =
    one_going s (staged_state b c) (n + 1) es rs qs left other h.2 g.2
one_going s b n (PulseEvent coins ∷ es) [] qs left other h g = absurd h
one_going s b n (PulseEvent coins ∷ es) (r ∷ rs) [] left other h g = absurd g
one_going s b n (PulseEvent coins ∷ es) (r ∷ rs) (q ∷ qs) left other h g =
    let start = opened_state b coins in
    let mine = h.2 in
    let theirs = g.2 in
    let mid : theirs.0 ≡ mine.0 = one_pulse s start theirs.0 mine.0 theirs.1 mine.1 in
    let told = subst (λ (m : State). IsRecord s start m q) mid theirs.2 in
    let rest = one_going s mine.0 (n + 2) es rs qs left other mine.3
    (subst (λ (m : State). Goes s m (n + 2) es qs other) mid theirs.3) in
    (ap₂ (λ x xs. x ∷ xs) (one_record s start mine.0 r q mine.2 told) rest.0, rest.1)

pub one_run : OneRun
one_run s es rs qs left other h g =
    let both = one_going s (new_state s) 0 es rs qs h.last g.last h.goes g.goes in
    (both.0, h.memories ∙ (ap (λ (b : State). map (λ x. x.memory) b.nodes) both.1 ∙ sym g.memories))
