-- A list of events on a new bench shows one list of pulses.
use Rattle.std.proofs.Common.{◌≡◌, ℕ, ◌+◌, ◌<◌, List, [], ◌∷◌, arith, refl, ap, ap₂, sym, subst, ◌∙◌, length}
use Rattle.std.specs.Prelude.{IsNone, MatchOption, Option, Some, None, slice_index, unwrap_or}
use Rattle.std.proofs.lemmas.List.{ext_get_or, length-replicate}
use Rattle.bpf_verify.specs.Accepted.{Accepted}
use Rattle.bench_core.specs.Pulse.{Pulse, Rests, Runs}
use Rattle.bench_core.specs.Setup.{Setup}
use Rattle.bench_core.specs.State.{State, mail_from, new_node, new_state, node_at, opened_state, setting_at, staged_state}
use Rattle.bench_core.specs.Told.{AreSteps, IsRecord, PulseTold, RanTo}
use Rattle.bench_core.proofs.Replays.{one_pulse}
use Rattle.bench_core.proofs.Sound.{length-all_applied}
use Rattle.bench_workers.specs.Events.{Event, Stage}
use Rattle.bench_workers.specs.Events.{Pulse as PulseEvent}
use Rattle.bench_workers.specs.Laws.{OneShowing}
use Rattle.bench_workers.specs.Watching.{IsSeen, Seen, Shows}
use Rattle.bench_workers.proofs.OneRun.{one_record}

-- ---- the steps of each node

same_at : (s : Setup) (b after : State) (coins steps others : List ℕ) (i : ℕ) → i < s.shape.nodes
    → AreSteps s b coins steps → AreSteps s b coins others → (o : Option Accepted) → (node_at b.nodes i).program ≡ o
    → MatchOption o (Rests (node_at b.nodes i) (node_at after.nodes i) (mail_from after.mail i))
    (λ p. Runs s p (setting_at s b.mail coins i) (node_at b.nodes i) (node_at after.nodes i) (mail_from after.mail i))
    → slice_index steps i ≡ slice_index others i
same_at s b after coins steps others i lt h g None is rests =
    let none : IsNone (node_at b.nodes i).program = subst IsNone (sym is) refl in
    h.rested i lt none ∙ sym (g.rested i lt none)
same_at s b after coins steps others i lt h g (Some p) is runs =
    let ran : RanTo s b coins i runs.end = record { program = p; node = lt; loaded = is; run = runs.run } in
    h.ran i runs.end ran ∙ sym (g.ran i runs.end ran)

-- a closed pulse has one list of steps
one_steps : (s : Setup) (b after : State) (coins steps others : List ℕ) → length b.nodes ≡ s.shape.nodes
    → b.coins ≡ Some coins → Pulse s b after → AreSteps s b coins steps → AreSteps s b coins others → steps ≡ others
one_steps s b after coins steps others whole is_open pulse h g =
    let given : pulse.coins ≡ coins = ap (λ (o : Option (List ℕ)). unwrap_or o []) (sym pulse.is_open ∙ is_open) in
    ext_get_or 0 steps others (h.nodes ∙ sym g.nodes) (λ i lt.
    let within : i < s.shape.nodes = omega (arith, lt, h.nodes) in
    let each = (pulse.each i (omega (arith, within, whole))).1 in
    same_at s b after coins steps others i within h g (node_at b.nodes i).program refl
    (subst (λ (cs : List ℕ). MatchOption (node_at b.nodes i).program
    (Rests (node_at b.nodes i) (node_at after.nodes i) (mail_from after.mail i))
    (λ p. Runs s p (setting_at s b.mail cs i) (node_at b.nodes i) (node_at after.nodes i) (mail_from after.mail i)))
    given each))

-- ---- a pulse

same_seen : (x y : Seen) → x.coins ≡ y.coins → x.after ≡ y.after → x.told ≡ y.told → x.earlier ≡ y.earlier
    → x.steps ≡ y.steps → x ≡ y
same_seen x y coins after told earlier steps =
    λ k. record { coins = coins k; after = after k; told = told k; earlier = earlier k; steps = steps k }

one_seen : (s : Setup) (b : State) (earlier : Option PulseTold) (coins : List ℕ) (x y : Seen)
    → length b.nodes ≡ s.shape.nodes → b.coins ≡ Some coins → IsSeen s b earlier x → IsSeen s b earlier y → x ≡ y
one_seen s b earlier coins x y whole is_open h g =
    let given : x.coins ≡ y.coins = ap (λ (o : Option (List ℕ)). unwrap_or o []) (sym h.coins ∙ g.coins) in
    let after : y.after ≡ x.after = one_pulse s b y.after x.after g.pulse h.pulse in
    same_seen x y given (sym after)
    (one_record s b x.after x.told y.told h.told (subst (λ (m : State). IsRecord s b m y.told) after g.told))
    (h.last ∙ sym g.last)
    (one_steps s b x.after x.coins x.steps y.steps whole h.coins h.pulse h.steps
    (subst (λ (cs : List ℕ). AreSteps s b cs y.steps) (sym given) g.steps))

-- ---- all of them

one_going : (s : Setup) (b : State) (n : ℕ) (earlier : Option PulseTold) (es : List Event) (xs ys : List Seen)
    (left other : State) → length b.nodes ≡ s.shape.nodes → Shows s b n earlier es xs left
    → Shows s b n earlier es ys other → (xs ≡ ys) × (left ≡ other)
one_going s b n earlier [] xs ys left other whole h g = (h.0 ∙ sym g.0, h.1 ∙ sym g.1)
one_going s b n earlier (Stage c ∷ es) xs ys left other whole h g =
    one_going s (staged_state b c) (n + 1) earlier es xs ys left other whole h.2 g.2
one_going s b n earlier (PulseEvent coins ∷ es) [] ys left other whole h g = absurd h
one_going s b n earlier (PulseEvent coins ∷ es) (x ∷ xs) [] left other whole h g = absurd g
one_going s b n earlier (PulseEvent coins ∷ es) (x ∷ xs) (y ∷ ys) left other whole h g =
    let start = opened_state b coins in
    let opened : length start.nodes ≡ s.shape.nodes = length-all_applied b.staged b.nodes ∙ whole in
    let same : y ≡ x = one_seen s start earlier coins y x opened refl g.2 h.2 in
    let after : length x.after.nodes ≡ s.shape.nodes = h.2.pulse.nodes ∙ opened in
    let rest = one_going s x.after (n + 2) (Some x.told) es xs ys left other after h.3
    (subst (λ (z : Seen). Shows s z.after (n + 2) (Some z.told) es ys other) same g.3) in
    (ap₂ (λ z zs. z ∷ zs) (sym same) rest.0, rest.1)

pub one_showing : OneShowing
one_showing s es xs ys b c h g =
    one_going s (new_state s) 0 None es xs ys b c (length-replicate s.shape.nodes (new_node s)) h g
