-- Coins by place, and entries that replace them.
use Rattle.std.proofs.Common.{◌≡◌, ℕ, zero, suc, ◌+◌, ◌<◌, ◌≤◌, List, [], ◌∷◌, ◌++◌, length, map, take, get_or, arith, refl, ap, ap₂, sym, subst, ◌∙◌, inl, inr, add-one}
use Rattle.std.specs.Prelude.{Bool, true, false, ◌⊎◌, ◌==◌, ◌&&◌, if◌then◌else◌, slice_set}
use Rattle.std.proofs.Math.Seq.{set-append_seam, take-suc}
use Rattle.std.specs.Prelude.{replicate}
use Rattle.std.proofs.lemmas.List.{set-append_left, replicate_more}
use Rattle.std.proofs.lemmas.Bool.{cases_lt}
use Rattle.std.proofs.lemmas.Bool.Decides.{nat_tests}
use Rattle.scenario_text.specs.declared.scenario.CoinEntry.{CoinEntry}
use Rattle.bench_scenario.specs.Coins.{places_below, replaced}
use Rattle.bench_scenario.proofs.ListLemmas.{map_more}

-- one more entry decides last
replaced_more : (es : List CoinEntry) (e : CoinEntry) (pulse node coin : ℕ)
    → replaced (es ++ e ∷ []) pulse node coin ≡
    (if (e.pulse == pulse) && (e.node == node) then e.value else replaced es pulse node coin)
replaced_more [] e pulse node coin = refl
replaced_more (x ∷ es) e pulse node coin = replaced_more es e pulse node
    (if (x.pulse == pulse) && (x.node == node) then x.value else coin)

length_more : (xs : List ℕ) (x : ℕ) → length (xs ++ x ∷ []) ≡ suc (length xs)
length_more [] x = refl
length_more (y ∷ xs) x = ap suc (length_more xs x)

pub places_length : (f : ℕ → ℕ) (n : ℕ) → length (map f (places_below n)) ≡ n
places_length f zero = refl
places_length f (suc n) = ap length (map_more f (places_below n) n)
    ∙ (length_more (map f (places_below n)) (f n) ∙ ap suc (places_length f n))

-- one coin for all
pub same_coins : (coin n : ℕ) → replicate n coin ≡ map (λ node. coin) (places_below n)
same_coins coin zero = refl
same_coins coin (suc n) =
    let more : replicate n coin ++ coin ∷ [] ≡ replicate (suc n) coin =
    replicate_more n coin ∙ ap (λ k. replicate k coin) (add-one n) in
    sym more ∙ (ap (λ xs. xs ++ coin ∷ []) (same_coins coin n) ∙ sym (map_more (λ (node : ℕ). coin) (places_below n) n))

pub same_below : (f g : ℕ → ℕ) (n : ℕ) → ((i : ℕ) → i < n → f i ≡ g i) → map f (places_below n) ≡ map g (places_below n)
same_below f g zero same = refl
same_below f g (suc n) same =
    map_more f (places_below n) n
    ∙ (ap₂ (λ xs x. xs ++ x ∷ []) (same_below f g n (λ i lt. same i (omega arith))) (same n (omega arith))
    ∙ sym (map_more g (places_below n) n))

other_place : (f : ℕ → ℕ) (j v i : ℕ) → (j ≡ i → ⊥) → (if j == i then v else f i) ≡ f i
other_place f j v i other = grind (arith, nat_tests)

this_place : (f : ℕ → ℕ) (j v i : ℕ) → j ≡ i → (if j == i then v else f i) ≡ v
this_place f j v i same = grind (arith, nat_tests)

unset : (p q : Bool) (v x : ℕ) → q ≡ false → (if p && q then v else x) ≡ x
unset true q v x no_place = ap (λ b. if b then v else x) no_place
unset false q v x no_place = refl

set_last : (f : ℕ → ℕ) (n j v : ℕ) → j ≡ n → slice_set (map f (places_below n) ++ f n ∷ []) j v ≡ map
    (λ i. if j == i then v else f i) (places_below n ++ n ∷ [])
set_last f n j v same =
    let g = λ (i : ℕ). if j == i then v else f i in
    let here : j ≡ length (map f (places_below n)) = same ∙ sym (places_length f n) in
    let front : map f (places_below n) ≡ map g (places_below n) = same_below f g n
    (λ i lt. sym (other_place f j v i (λ e. omega arith))) in
    ap (λ k. slice_set (map f (places_below n) ++ f n ∷ []) k v) here
    ∙ (set-append_seam (map f (places_below n)) (f n) [] v
    ∙ (ap₂ (λ xs x. xs ++ x ∷ []) front (sym (this_place f j v n same)) ∙ sym (map_more g (places_below n) n)))

set_front : (f : ℕ → ℕ) (n j v : ℕ) → j < n → slice_set (map f (places_below n)) j v ≡ map
    (λ i. if j == i then v else f i) (places_below n)
    → slice_set (map f (places_below n) ++ f n ∷ []) j v ≡ map (λ i. if j == i then v else f i)
    (places_below n ++ n ∷ [])
set_front f n j v within front =
    let g = λ (i : ℕ). if j == i then v else f i in
    let inside : j < length (map f (places_below n)) = subst (λ k. j < k) (sym (places_length f n)) within in
    set-append_left (map f (places_below n)) (f n ∷ []) j v inside
    ∙ (ap₂ (λ xs x. xs ++ x ∷ []) front (sym (other_place f j v n (λ e. omega arith)))
    ∙ sym (map_more g (places_below n) n))

-- a coin that is set
set_map : (f : ℕ → ℕ) (n j v : ℕ) → j < n → slice_set (map f (places_below n)) j v ≡ map
    (λ i. if j == i then v else f i) (places_below n)
set_map f zero j v within = absurd (omega arith)
set_map f (suc n) j v within =
    ap (λ xs. slice_set xs j v) (map_more f (places_below n) n)
    ∙ elim (cases_lt j n) [
      | inl lt ↦ set_front f n j v lt (set_map f n j v lt)
      | inr ge ↦ set_last f n j v
          (omega arith)
    ]

-- an entry of this pulse, whose node is there, sets its coin
pub entry_sets : (f : ℕ → ℕ) (e : CoinEntry) (pulse n : ℕ) (old new : List ℕ) → old ≡ map f (places_below n)
    → e.pulse ≡ pulse → e.node < length old
    → new ≡ slice_set old e.node e.value → new ≡ map
    (λ node. if (e.pulse == pulse) && (e.node == node) then e.value else f node) (places_below n)
entry_sets f e pulse n old new is now within set =
    let inside : e.node < n = subst (λ k. e.node < k) (ap length is ∙ places_length f n) within in
    let this : (e.pulse == pulse) ≡ true = grind (arith, nat_tests) in
    set ∙ (ap (λ xs. slice_set xs e.node e.value) is ∙ (set_map f n e.node e.value inside
    ∙ ap (λ b. map (λ node. if b && (e.node == node) then e.value else f node) (places_below n)) (sym this)))

-- another entry sets none
pub entry_passes : (f : ℕ → ℕ) (e : CoinEntry) (pulse n : ℕ) (coins : List ℕ) → coins ≡ map f (places_below n)
    → ((e.pulse ≡ pulse → ⊥) ⊎ (length coins ≤ e.node))
    → coins ≡ map (λ node. if (e.pulse == pulse) && (e.node == node) then e.value else f node) (places_below n)
entry_passes f e pulse n coins is (inl other) =
    let that : (e.pulse == pulse) ≡ false = grind (arith, nat_tests) in
    is ∙ ap (λ b. map (λ node. if b && (e.node == node) then e.value else f node) (places_below n)) (sym that)
entry_passes f e pulse n coins is (inr beyond) =
    let all : n ≤ e.node = subst (λ k. k ≤ e.node) (ap length is ∙ places_length f n) beyond in
    is ∙ same_below f (λ node. if (e.pulse == pulse) && (e.node == node) then e.value else f node) n
    (λ i lt. let other : (e.node == i) ≡ false = grind (arith, nat_tests) in
    sym (unset (e.pulse == pulse) (e.node == i) e.value (f i) other))

-- the next entry
pub next_replaced : (f : ℕ → ℕ) (es : List CoinEntry) (i : ℕ) (e : CoinEntry) (pulse n : ℕ) → i < length es
    → get_or es i e ≡ e
    → map (λ node. if (e.pulse == pulse) && (e.node == node) then e.value else replaced (take i es) pulse node
    (f node)) (places_below n)
    ≡ map (λ node. replaced (take (i + 1) es) pulse node (f node)) (places_below n)
next_replaced f es i e pulse n within found =
    let taken : take (i + 1) es ≡ take i es ++ e
    ∷ [] = rw (add-one, take-suc es i e within) (ap (λ w. take i es ++ w ∷ []) found) in
    same_below _ _ n (λ node lt. sym (ap (λ xs. replaced xs pulse node (f node)) taken
    ∙ replaced_more (take i es) e pulse node (f node)))
