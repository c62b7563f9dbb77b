-- The ranges of a row, and what it tells.
use Rattle.std.proofs.Common.{◌≡◌, ◌≢◌, ◌⊎◌, ℕ, suc, ◌+◌, ◌*◌, ◌<◌, ◌≤◌, ◌==◌, Bool, true, not, List, [], ◌∷◌, length, Contains, All, get_or, Option, Some, None, refl, sym, ap, ◌∙◌, subst, arith, inl, inr}
use Rattle.std.specs.List.{list_all}
use Rattle.std.proofs.lemmas.Bool.{cond_both, cases_Bool, cond-true, cond-false, eqb-true, eq-eqb}
use Rattle.std.proofs.lemmas.List.{get_or_default}
use Rattle.std.proofs.lemmas.List.Elements.{All-head, All-cons, All-weaker, All-filter, All-contains}
use Rattle.std.proofs.lemmas.List.Sums.{count_by-le-length, AllPass-from_list_all, list_all-from_AllPass}
use Rattle.clock_nodes.specs.Rule.{clock_of}
use Rattle.clock_nodes.specs.declared.rule.TheConstants.{MAX_MODULUS}
use Rattle.bench_core.specs.declared.limits.TheConstants.{CLOCKS_DIFFER}
use Rattle.bench_core.specs.Setup.{Setup, IsSetup}
use Rattle.bench_core.specs.State.{Node, State, new_state, node_at}
use Rattle.bench_core.specs.Pulse.{Pulse}
use Rattle.bench_core.specs.Settled.{settled_flags, settled_clocks, clocks_where, moving_clocks, value_of}
use Rattle.bench_core.specs.Told.{common_of}
use Rattle.bench_core.specs.Replay.{Entry, Staged, Opened, Closed, Abandoned, Step, LeadsByEntries}
use Rattle.bench_core.specs.Laws.{RowsFit, RowsTell}
use Rattle.bench_core.proofs.Sound.{Sound, sound_replay}
use Rattle.bench_core.proofs.Rules.{clock_below_modulus}
use Rattle.bench_core.proofs.Agreement.{At, all_at, length_flags}

-- ---- how many pulses a history can close

abbrev open_of : Option (List ℕ) → ℕ
open_of None = 0
open_of (Some coins) = 1

abbrev weight : State → ℕ
weight b = 2 * b.closed + open_of b.coins

open_few : (o : Option (List ℕ)) → open_of o ≤ 1
open_few None = omega arith
open_few (Some coins) = omega arith

step_weight : (s : Setup) (b : State) (e : Entry) (b' : State) → Step s b e b' → weight b' ≤ weight b + 1
step_weight s b (Staged actor change) b' h =
    let closed : b'.closed ≡ b.closed = ap (λ (x : State). x.closed) h.1 in
    let coins : open_of b'.coins ≡ open_of b.coins = ap (λ (x : State). open_of x.coins) h.1 in
    omega (arith, closed, coins)
step_weight s b (Opened cs) b' h =
    let closed : b'.closed ≡ b.closed = ap (λ (x : State). x.closed) h.2 in
    let coins : open_of b'.coins ≡ 1 = ap (λ (x : State). open_of x.coins) h.2 in
    omega (arith, closed, coins)
step_weight s b (Closed row) b' h =
    let before : open_of b.coins ≡ 1 = ap open_of h.0.is_open in
    let after : open_of b'.coins ≡ 0 = ap open_of h.0.over in
    omega (arith, h.0.closed, before, after)
step_weight s b Abandoned b' h =
    let closed : b'.closed ≡ b.closed = ap (λ (x : State). x.closed) h.1 in
    let coins : open_of b'.coins ≡ 0 = ap (λ (x : State). open_of x.coins) h.1 in
    omega (arith, closed, coins)

run_weight : (s : Setup) (b : State) (es : List Entry) (b' : State) → LeadsByEntries s b es b' → weight b' ≤ weight b + length es
run_weight s b [] b' h = let e : weight b' ≡ weight b = ap weight h in omega (arith, e)
run_weight s b (e ∷ es) b' h = omega (arith, step_weight s b e h.0 h.1, run_weight s h.0 es b' h.2)

-- ---- clocks

pub clocks_small : (s : Setup) (b b' : State) → IsSetup s → Sound s b → Pulse s b b'
    → All (λ c. c < MAX_MODULUS) (settled_clocks s b b')
clocks_small s b b' ok sound p = All-weaker (At s.modulus b.nodes b'.nodes) (λ c. c < MAX_MODULUS) small
    (settled_clocks s b b')
    (all_at s.modulus b.nodes b'.nodes)
  where
    small : (c : ℕ) → At s.modulus b.nodes b'.nodes c → c < MAX_MODULUS
    small c h =
        let below : c < s.modulus = subst (λ (n : ℕ). n < s.modulus) h.clock
        (clock_below_modulus s.modulus (clock_of (node_at b'.nodes h.node).memory) (omega (arith, ok.least))) in
        omega (arith, below, ok.most)

common_small : (cs : List ℕ) → All (λ c. c < MAX_MODULUS) cs → (common_of cs < MAX_MODULUS)
    ⊎ (common_of cs ≡ CLOCKS_DIFFER)
common_small [] small = inl (omega arith)
common_small (c ∷ cs) small =
    cond_both (list_all (λ d. d == c) cs) c CLOCKS_DIFFER (λ n. (n < MAX_MODULUS) ⊎ (n ≡ CLOCKS_DIFFER))
    (λ e. inl (All-head (λ d. d < MAX_MODULUS) c cs small))
    (λ e. inr refl)

clocks_few : (m : ℕ) (flags : List Bool) (nodes : List Node) → length (clocks_where m flags nodes) ≤ length flags
clocks_few m [] nodes = omega arith
clocks_few m (f ∷ flags) [] = omega arith
clocks_few m (f ∷ flags) (y ∷ nodes) =
    let rest = clocks_few m flags nodes in
    cond_both f (value_of m y.memory ∷ clocks_where m flags nodes) (clocks_where m flags nodes)
    (λ cs. length cs ≤ suc (length flags)) (λ e. omega (arith, rest)) (λ e. omega (arith, rest))

pub rows_fit : RowsFit
rows_fit s history b b' ok replay p room =
    let sound = sound_replay s history b ok replay in
    let weighs = run_weight s (new_state s) history b replay in
    let is_open : open_of b.coins ≡ 1 = ap open_of p.is_open in
    let flags = settled_flags b.nodes b'.nodes in
    let clocks = settled_clocks s b b' in
    let few : length flags ≡ s.shape.nodes = length_flags b.nodes b'.nodes p.nodes ∙ sound.nodes in
    record {
      first = omega (arith, p.closed);
      last = omega (arith, p.closed, weighs, is_open, room);
      common = common_small (moving_clocks s b b')
          (All-filter (λ c. not (c == 0)) (λ c. c < MAX_MODULUS) clocks (clocks_small s b b' ok sound p));
      zeros = omega (
        arith,
        count_by-le-length (λ c. c == 0) clocks,
        clocks_few s.modulus flags b'.nodes,
        few,
        ok.extent.few,
      );
      settled = omega (arith, count_by-le-length (λ x. x) flags, few, ok.extent.few);
    }

-- ---- what it tells

abbrev AllAgree : List ℕ → Type 0
AllAgree cs = (c d : ℕ) → Contains cs c → Contains cs d → c ≡ d

agree_told : (cs : List ℕ) → All (λ c. c < MAX_MODULUS) cs → AllAgree cs → common_of cs ≢ CLOCKS_DIFFER
agree_told [] small same e = omega (arith, e)
agree_told (c ∷ cs) small same e =
    let all : list_all (λ d. d == c) cs ≡ true = list_all-from_AllPass (λ d. d == c) cs
    (λ k d lt. eq-eqb (get_or cs k d) c (same (get_or cs k d) c
    (suc k, omega arith, get_or_default cs k (get_or cs k d) d lt) (0, omega arith, refl))) in
    let is : common_of (c ∷ cs) ≡ c = cond-true (list_all (λ d. d == c) cs) c CLOCKS_DIFFER all in
    omega (arith, e, is, All-head (λ d. d < MAX_MODULUS) c cs small)

told_agree : (cs : List ℕ) → common_of cs ≢ CLOCKS_DIFFER → AllAgree cs
told_agree [] told c d at at' = absurd (omega (arith, at.1))
told_agree (x ∷ xs) told c d at at' =
    elim (cases_Bool (list_all (λ y. y == x) xs)) [
      | inl e ↦
          let all : All (λ y. y ≡ x) (x ∷ xs) = All-cons (λ y. y ≡ x) x xs refl
          (λ k y lt. eqb-true (get_or xs k y) x (AllPass-from_list_all (λ z. z == x) xs e k y lt)) in
          All-contains (λ y. y ≡ x) (x ∷ xs) c all at ∙ sym (All-contains (λ y. y ≡ x) (x ∷ xs) d all at')
      | inr e ↦ absurd (told (cond-false (list_all (λ y. y == x) xs) x CLOCKS_DIFFER e))
    ]

pub rows_tell : RowsTell
rows_tell s history b b' ok replay p =
    let small = All-filter (λ c. not (c == 0)) (λ c. c < MAX_MODULUS) (settled_clocks s b b')
    (clocks_small s b b' ok (sound_replay s history b ok replay) p) in
    (agree_told (moving_clocks s b b') small, told_agree (moving_clocks s b b'))
