-- How many loads of drawn messages the events of a scenario have.
use Rattle.std.proofs.Common.{◌≡◌, ℕ, zero, suc, ◌+◌, ◌-◌, ◌*◌, ◌≤◌, List, [], ◌∷◌, ◌++◌, length, map, arith, ap, refl, sym, ◌∙◌, inl, inr}
use Rattle.std.specs.Prelude.{Bool, true, false, ◌==◌, ◌&&◌, ◌||◌, if◌then◌else◌, flat_map}
use Rattle.std.specs.List.{list_any}
use Rattle.std.proofs.Math.Nat.{mul-suc, zero-mul}
use Rattle.std.proofs.lemmas.Bool.{cases_lt, cond-false, ne_eqb}
use Rattle.bench_core.specs.State.{Change, Load as LoadChange}
use Rattle.bench_workers.specs.Events.{Event, Stage}
use Rattle.bench_workers.specs.Runs.{entries_after}
use Rattle.scenario_text.specs.declared.scenario.Load.{Load}
use Rattle.scenario_text.specs.declared.scenario.Unload.{Unload}
use Rattle.scenario_text.specs.declared.scenario.Scenario.{Scenario}
use Rattle.scenario_text.specs.Noise.{is_noise, noise_count}
use Rattle.scenario_text.specs.Views.{load_draft}
use Rattle.bench_scenario.specs.Coins.{places_below}
use Rattle.bench_scenario.specs.Noise.{after_loads, after_unloads, has_noise, loads_node, noise_after, noise_events, noise_of, noise_program}
use Rattle.bench_scenario.proofs.FitLemmas.{entries_append}
use Rattle.bench_scenario.proofs.Weights.{first_apart, load_pulse, once_to, weight_at, weight_to, not_yet, once_at_most}

-- 1 for true
abbrev one_if : Bool → ℕ
one_if b = if b then 1 else 0

-- the sum over the numbers below this one
abbrev sum_to : (ℕ → ℕ) → ℕ → ℕ
sum_to f zero = 0
sum_to f (suc n) = sum_to f n + f n

-- how often a number is in a list
abbrev times : ℕ → List ℕ → ℕ
times i [] = 0
times i (x ∷ xs) = one_if (x == i) + times i xs

-- how often a load of noise names the node
abbrev noise_times : ℕ → Load → ℕ
noise_times i l = if is_noise l.kind then times i l.nodes.items else 0

-- how many nodes a load of noise names
abbrev noise_weight : Load → ℕ
noise_weight l = if is_noise l.kind then length l.nodes.items else 0

-- ---- a node that has noise was named by a load of noise

named_first : (b c : Bool) (n : ℕ) → one_if c ≤ n → one_if (b || c) ≤ one_if b + n
named_first true c n few = omega arith
named_first false c n few = omega (arith, few)

named_once : (i : ℕ) (xs : List ℕ) → one_if (list_any (λ n. n == i) xs) ≤ times i xs
named_once i [] = omega arith
named_once i (x ∷ xs) = named_first (x == i) (list_any (λ n. n == i) xs) (times i xs) (named_once i xs)

-- what a load makes of a note
load_decides : (noise now named had : Bool) (n : ℕ) → one_if named ≤ n
    → one_if (if now && named then noise else had) ≤ one_if had + (if now then (if noise then n else 0) else 0)
load_decides true true true had n few = omega (arith, few)
load_decides false true true had n few = omega arith
load_decides true true false had n few = omega arith
load_decides false true false had n few = omega arith
load_decides true false named had n few = omega arith
load_decides false false named had n few = omega arith

loads_decide : (p i : ℕ) (ls : List Load) (had : Bool)
    → one_if (after_loads p i ls had) ≤ one_if had + weight_at load_pulse (noise_times i) p ls
loads_decide p i [] had = omega arith
loads_decide p i (l ∷ ls) had =
    let here = load_decides (is_noise l.kind) (l.pulse == p) (list_any (λ n. n == i) l.nodes.items) had
    (times i l.nodes.items) (named_once i l.nodes.items) in
    let rest = loads_decide p i ls (if loads_node p i l then is_noise l.kind else had) in
    omega (arith, here, rest)

ended : (b had : Bool) → one_if (if b then false else had) ≤ one_if had
ended true had = omega arith
ended false had = omega arith

unloads_end : (p i : ℕ) (us : List Unload) (had : Bool) → one_if (after_unloads p i us had) ≤ one_if had
unloads_end p i [] had = omega arith
unloads_end p i (u ∷ us) had =
    let here = ended ((u.pulse == p) && (u.node == i)) had in
    let rest = unloads_end p i us (if (u.pulse == p) && (u.node == i) then false else had) in
    omega (arith, here, rest)

named_so_far : (ls : List Load) (us : List Unload) (p i : ℕ)
    → one_if (noise_after ls us p i) ≤ weight_to load_pulse (noise_times i) p ls
named_so_far ls us zero i = omega arith
named_so_far ls us (suc p) i =
    let before = named_so_far ls us p i in
    let loads = loads_decide (suc p) i ls (noise_after ls us p i) in
    let unloads = unloads_end (suc p) i us (after_loads (suc p) i ls (noise_after ls us p i)) in
    omega (arith, before, loads, unloads)

-- ---- over all nodes

sum_more : (f g : ℕ → ℕ) (n : ℕ) → ((i : ℕ) → f i ≤ g i) → sum_to f n ≤ sum_to g n
sum_more f g zero each = omega arith
sum_more f g (suc n) each = let before = sum_more f g n each in omega (arith, before, each n)

sum_both : (f g h : ℕ → ℕ) (n : ℕ) → ((i : ℕ) → h i ≡ f i + g i) → sum_to h n ≡ sum_to f n + sum_to g n
sum_both f g h zero each = refl
sum_both f g h (suc n) each = let before = sum_both f g h n each in omega (arith, before, each n)

sum_none : (n : ℕ) → sum_to (λ i. 0) n ≡ 0
sum_none zero = refl
sum_none (suc n) = let before = sum_none n in omega (arith, before)

past_one : (x n : ℕ) → n ≤ x → sum_to (λ i. one_if (x == i)) n ≡ 0
past_one x zero beyond = refl
past_one x (suc n) beyond =
    let before = past_one x n (omega (arith, beyond)) in
    let here : one_if (x == n) ≡ 0 =
    cond-false (x == n) 1 0 (ne_eqb x n (λ same. absurd (omega (arith, same, beyond)))) in
    omega (arith, before, here)

at_most_one : (b : Bool) → one_if b ≤ 1
at_most_one true = omega arith
at_most_one false = omega arith

one_place : (x n : ℕ) → sum_to (λ i. one_if (x == i)) n ≤ 1
one_place x zero = omega arith
one_place x (suc n) = elim (cases_lt x n) [
  | inl below ↦
      let before = one_place x n in
      let here : one_if (x == n) ≡ 0 =
      cond-false (x == n) 1 0 (ne_eqb x n (λ same. absurd (omega (arith, same, below)))) in
      omega (arith, before, here)
  | inr above ↦ let before = past_one x n above in omega (arith, before, at_most_one (x == n))
]

all_times : (xs : List ℕ) (n : ℕ) → sum_to (λ i. times i xs) n ≤ length xs
all_times [] n = let none = sum_none n in omega (arith, none)
all_times (x ∷ xs) n =
    let both = sum_both (λ i. one_if (x == i)) (λ i. times i xs) (λ i. times i (x ∷ xs)) n (λ i. refl) in
    let first = one_place x n in
    let rest = all_times xs n in
    omega (arith, both, first, rest)

all_noise_times : (b : Bool) (xs : List ℕ) (n : ℕ)
    → sum_to (λ i. if b then times i xs else 0) n ≤ (if b then length xs else 0)
all_noise_times true xs n = all_times xs n
all_noise_times false xs n = let none = sum_none n in omega (arith, none)

-- ---- sums of weights

either_weight : (b : Bool) (v w : ℕ) → (if b then v + w else 0) ≡ (if b then v else 0) + (if b then w else 0)
either_weight true v w = refl
either_weight false v w = refl

both_at : (v w u : Load → ℕ) (p : ℕ) (ls : List Load) → ((l : Load) → u l ≡ v l + w l)
    → weight_at load_pulse u p ls ≡ weight_at load_pulse v p ls + weight_at load_pulse w p ls
both_at v w u p [] each = refl
both_at v w u p (l ∷ ls) each =
    let here : (if l.pulse == p then u l else 0)
    ≡ (if l.pulse == p then v l else 0) + (if l.pulse == p then w l else 0) =
    ap (λ k. if l.pulse == p then k else 0) (each l) ∙ either_weight (l.pulse == p) (v l) (w l) in
    let rest = both_at v w u p ls each in
    omega (arith, here, rest)

both_to : (v w u : Load → ℕ) (p : ℕ) (ls : List Load) → ((l : Load) → u l ≡ v l + w l)
    → weight_to load_pulse u p ls ≡ weight_to load_pulse v p ls + weight_to load_pulse w p ls
both_to v w u zero ls each = refl
both_to v w u (suc p) ls each =
    let before = both_to v w u p ls each in
    let here = both_at v w u (suc p) ls each in
    omega (arith, before, here)

less_if : (b : Bool) (v w : ℕ) → v ≤ w → (if b then v else 0) ≤ (if b then w else 0)
less_if true v w few = few
less_if false v w few = omega arith

less_at : (v w : Load → ℕ) (p : ℕ) (ls : List Load) → ((l : Load) → v l ≤ w l)
    → weight_at load_pulse v p ls ≤ weight_at load_pulse w p ls
less_at v w p [] each = omega arith
less_at v w p (l ∷ ls) each =
    let here = less_if (l.pulse == p) (v l) (w l) (each l) in
    let rest = less_at v w p ls each in
    omega (arith, here, rest)

less_to : (v w : Load → ℕ) (p : ℕ) (ls : List Load) → ((l : Load) → v l ≤ w l)
    → weight_to load_pulse v p ls ≤ weight_to load_pulse w p ls
less_to v w zero ls each = omega arith
less_to v w (suc p) ls each =
    let before = less_to v w p ls each in
    let here = less_at v w (suc p) ls each in
    omega (arith, before, here)

cond_none : (b : Bool) (z : ℕ) → (if b then z else z) ≡ z
cond_none true z = refl
cond_none false z = refl

none_at : (p : ℕ) (ls : List Load) → weight_at load_pulse (λ l. 0) p ls ≡ 0
none_at p [] = refl
none_at p (l ∷ ls) =
    let rest = none_at p ls in
    omega (arith, rest, cond_none (l.pulse == p) 0)

none_to : (p : ℕ) (ls : List Load) → weight_to load_pulse (λ l. 0) p ls ≡ 0
none_to zero ls = refl
none_to (suc p) ls =
    let before = none_to p ls in
    let here = none_at (suc p) ls in
    omega (arith, before, here)

sums_to : (p n : ℕ) (ls : List Load) → sum_to (λ i. weight_to load_pulse (noise_times i) p ls) n
    ≡ weight_to load_pulse (λ l. sum_to (λ i. noise_times i l) n) p ls
sums_to p zero ls = sym (none_to p ls)
sums_to p (suc n) ls =
    let before = sums_to p n ls in
    let both = both_to (λ l. sum_to (λ i. noise_times i l) n) (noise_times n)
    (λ l. sum_to (λ i. noise_times i l) (suc n)) p ls (λ l. refl) in
    omega (arith, before, both)

-- as many nodes have noise as loads of noise named so far, at most
noisy_few : (s : Scenario) (p n : ℕ)
    → sum_to (λ i. one_if (has_noise s p i)) n ≤ weight_to load_pulse noise_weight p s.loads.items
noisy_few s p n =
    let ls = s.loads.items in
    let named = sum_more (λ i. one_if (has_noise s p i)) (λ i. weight_to load_pulse (noise_times i) p ls) n
    (λ i. named_so_far ls s.unloads.items p i) in
    let sums = sums_to p n ls in
    let less = less_to (λ l. sum_to (λ i. noise_times i l) n) noise_weight p ls
    (λ l. all_noise_times (is_noise l.kind) l.nodes.items n) in
    omega (arith, named, sums, less)

-- ---- the events of a pulse

assoc : {B : Type 0} (xs ys zs : List B) → xs ++ (ys ++ zs) ≡ (xs ++ ys) ++ zs
assoc [] ys zs = refl
assoc (x ∷ xs) ys zs = ap (λ r. x ∷ r) (assoc xs ys zs)

flat_append : {A B : Type 0} (f : A → List B) (xs ys : List A) → flat_map f (xs ++ ys) ≡ flat_map f xs ++ flat_map f ys
flat_append f [] ys = refl
flat_append f (x ∷ xs) ys = ap (λ r. f x ++ r) (flat_append f xs ys) ∙ assoc (f x) (flat_map f xs) (flat_map f ys)

right_nil : {B : Type 0} (xs : List B) → xs ++ [] ≡ xs
right_nil [] = refl
right_nil (x ∷ xs) = ap (λ r. x ∷ r) (right_nil xs)

-- one node more
pub noise_more : {B : Type 0} (f : ℕ → List B) (n : ℕ)
    → flat_map f (places_below (suc n)) ≡ flat_map f (places_below n) ++ f n
noise_more f n = flat_append f (places_below n) (n ∷ [])
    ∙ ap (λ r. flat_map f (places_below n) ++ r) (right_nil (f n))

one_load : (b : Bool) (e : Event) (c : Change) → e ≡ Stage c → entries_after (if b then e ∷ [] else []) ≡ one_if b
one_load true e c is = ap (λ x. entries_after (x ∷ [])) is
one_load false e c is = refl

noisy_entries : (s : Scenario) (p n : ℕ) → entries_after (flat_map (noise_of s p) (places_below n))
    ≡ sum_to (λ i. one_if (has_noise s p i)) n
noisy_entries s p zero = refl
noisy_entries s p (suc n) =
    let more : entries_after (flat_map (noise_of s p) (places_below (suc n)))
    ≡ entries_after (flat_map (noise_of s p) (places_below n) ++ noise_of s p n) =
    ap entries_after (noise_more (noise_of s p) n) in
    let both = entries_append (flat_map (noise_of s p) (places_below n)) (noise_of s p n) in
    let here = one_load (has_noise s p n) _ (LoadChange n (noise_program s p n)) refl in
    let before = noisy_entries s p n in
    omega (arith, more, both, here, before)

-- ---- over all pulses

-- the sum over the pulses from 1 to n
abbrev pub total_to : (ℕ → ℕ) → ℕ → ℕ
total_to f zero = 0
total_to f (suc n) = total_to f n + f (suc n)

total_less : (f g : ℕ → ℕ) (n : ℕ) → ((p : ℕ) → f p ≤ g p) → total_to f n ≤ total_to g n
total_less f g zero each = omega arith
total_less f g (suc n) each = let before = total_less f g n each in omega (arith, before, each (suc n))

total_both : (f g h : ℕ → ℕ) (n : ℕ) → ((p : ℕ) → h p ≡ f p + g p) → total_to h n ≡ total_to f n + total_to g n
total_both f g h zero each = refl
total_both f g h (suc n) each = let before = total_both f g h n each in omega (arith, before, each (suc n))

weight_none : (n : ℕ) → weight_to load_pulse noise_weight n [] ≡ 0
weight_none zero = refl
weight_none (suc n) = let before = weight_none n in omega (arith, before)

total_none : (n : ℕ) → total_to (λ p. weight_to load_pulse noise_weight p []) n ≡ 0
total_none zero = refl
total_none (suc n) =
    let before = total_none n in
    omega (arith, before, weight_none (suc n))

-- from its pulse on, each time
total_once : (pulse weight n : ℕ) → total_to (once_to pulse weight) n ≤ weight * (n + 1 - pulse)
total_once pulse weight zero = omega arith
total_once pulse weight (suc n) =
    let before = total_once pulse weight n in
    elim (cases_lt (suc n) pulse) [
      | inl early ↦
          let none = not_yet pulse weight (suc n) early in
          let same : suc n + 1 - pulse ≡ n + 1 - pulse = omega (arith, early) in
          let whole : weight * (suc n + 1 - pulse) ≡ weight * (n + 1 - pulse) = ap (λ k. weight * k) same in
          omega (arith, before, none, whole)
      | inr late ↦
          let here = once_at_most pulse weight (suc n) in
          let next : suc n + 1 - pulse ≡ suc (n + 1 - pulse) = omega (arith, late) in
          let whole : weight * (suc n + 1 - pulse) ≡ weight * (n + 1 - pulse) + weight =
          ap (λ k. weight * k) next ∙ mul-suc weight (n + 1 - pulse) in
          omega (arith, before, here, whole)
    ]

if_times : (b : Bool) (m k : ℕ) → (if b then m else 0) * k ≡ (if b then m * k else 0)
if_times true m k = refl
if_times false m k = zero-mul k

total_weights : (n : ℕ) (ls : List Load)
    → total_to (λ p. weight_to load_pulse noise_weight p ls) n ≤ noise_count n (map load_draft ls)
total_weights n [] = let none = total_none n in omega (arith, none)
total_weights n (l ∷ ls) =
    let both = total_both (once_to l.pulse (noise_weight l)) (λ p. weight_to load_pulse noise_weight p ls)
    (λ p. weight_to load_pulse noise_weight p (l ∷ ls)) n
    (λ p. first_apart load_pulse noise_weight l ls p) in
    let once = total_once l.pulse (noise_weight l) n in
    let here = if_times (is_noise l.kind) (length l.nodes.items) (n + 1 - l.pulse) in
    let rest = total_weights n ls in
    omega (arith, both, once, here, rest)

-- as many loads of drawn messages as pulses of noise, at most
pub noise_total : (s : Scenario) (n : ℕ)
    → total_to (λ p. entries_after (noise_events s p)) n ≤ noise_count n (map load_draft s.loads.items)
noise_total s n =
    let less = total_less (λ p. entries_after (noise_events s p))
    (λ p. weight_to load_pulse noise_weight p s.loads.items) n
    (λ p. let all = noisy_entries s p s.nodes in let few = noisy_few s p s.nodes in omega (arith, all, few)) in
    let whole = total_weights n s.loads.items in
    omega (arith, less, whole)
