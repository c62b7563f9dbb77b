-- Notes of which nodes have noise.
use Rattle.std.proofs.Common.{◌≡◌, ℕ, zero, suc, ◌+◌, ◌<◌, ◌≤◌, List, [], ◌∷◌, ◌++◌, length, map, take, get_or, arith, refl, ap, ap₂, sym, subst, ◌∙◌, inl, inr, add-one}
use Rattle.std.specs.Prelude.{Bool, true, false, ◌==◌, ◌&&◌, ◌||◌, if◌then◌else◌, slice_set, replicate}
use Rattle.std.specs.List.{list_any}
use Rattle.std.proofs.Math.Seq.{get_or-append_seam, set-append_seam, take-suc}
use Rattle.std.proofs.lemmas.List.{get_or_append_left, set-append_left, replicate_more, take_all, take-append-le}
use Rattle.std.proofs.lemmas.Bool.{cases_lt, cond-false, cond-true, eq-eqb, ne_eqb}
use Rattle.scenario_text.specs.declared.scenario.Load.{Load}
use Rattle.scenario_text.specs.declared.scenario.Scenario.{Scenario}
use Rattle.scenario_text.specs.declared.scenario.Unload.{Unload}
use Rattle.scenario_text.specs.Noise.{is_noise}
use Rattle.bench_scenario.specs.Coins.{places_below}
use Rattle.bench_scenario.specs.Noise.{after_loads, after_unloads, has_noise, loads_node}
use Rattle.bench_scenario.proofs.ListLemmas.{map_more}

length_more : {A : Type 0} (xs : List A) (x : A) → length (xs ++ x ∷ []) ≡ suc (length xs)
length_more [] x = refl
length_more (y ∷ xs) x = ap suc (length_more xs x)

pub notes_length : {A : Type 0} (f : ℕ → A) (n : ℕ) → length (map f (places_below n)) ≡ n
notes_length f zero = refl
notes_length f (suc n) = ap length (map_more f (places_below n) n)
    ∙ (length_more (map f (places_below n)) (f n) ∙ ap suc (notes_length f n))

-- none at first
pub all_quiet : (n : ℕ) → replicate n false ≡ map (λ i. false) (places_below n)
all_quiet zero = refl
all_quiet (suc n) =
    let more : replicate n false ++ false ∷ [] ≡ replicate (suc n) false =
    replicate_more n false ∙ ap (λ k. replicate k false) (add-one n) in
    sym more ∙ (ap (λ xs. xs ++ false ∷ []) (all_quiet n) ∙ sym (map_more (λ (i : ℕ). false) (places_below n) n))

pub same_notes : (f g : ℕ → Bool) (n : ℕ) → ((i : ℕ) → i < n → f i ≡ g i)
    → map f (places_below n) ≡ map g (places_below n)
same_notes f g zero same = refl
same_notes f g (suc n) same =
    map_more f (places_below n) n
    ∙ (ap₂ (λ xs x. xs ++ x ∷ []) (same_notes f g n (λ i lt. same i (omega arith))) (same n (omega arith))
    ∙ sym (map_more g (places_below n) n))

-- ---- one note is set

other_place : (f : ℕ → Bool) (j : ℕ) (v : Bool) (i : ℕ) → (j ≡ i → ⊥) → (if j == i then v else f i) ≡ f i
other_place f j v i other = cond-false (j == i) v (f i) (ne_eqb j i other)

this_place : (f : ℕ → Bool) (j : ℕ) (v : Bool) (i : ℕ) → j ≡ i → (if j == i then v else f i) ≡ v
this_place f j v i same = cond-true (j == i) v (f i) (eq-eqb j i same)

set_last : (f : ℕ → Bool) (n j : ℕ) (v : Bool) → j ≡ n → slice_set (map f (places_below n) ++ f n ∷ []) j v ≡ map
    (λ i. if j == i then v else f i) (places_below n ++ n ∷ [])
set_last f n j v same =
    let g = λ (i : ℕ). if j == i then v else f i in
    let here : j ≡ length (map f (places_below n)) = same ∙ sym (notes_length f n) in
    let front : map f (places_below n) ≡ map g (places_below n) = same_notes f g n
    (λ i lt. sym (other_place f j v i (λ e. omega arith))) in
    ap (λ k. slice_set (map f (places_below n) ++ f n ∷ []) k v) here
    ∙ (set-append_seam (map f (places_below n)) (f n) [] v
    ∙ (ap₂ (λ xs x. xs ++ x ∷ []) front (sym (this_place f j v n same)) ∙ sym (map_more g (places_below n) n)))

set_front : (f : ℕ → Bool) (n j : ℕ) (v : Bool) → j < n → slice_set (map f (places_below n)) j v ≡ map
    (λ i. if j == i then v else f i) (places_below n)
    → slice_set (map f (places_below n) ++ f n ∷ []) j v ≡ map (λ i. if j == i then v else f i)
    (places_below n ++ n ∷ [])
set_front f n j v within front =
    let g = λ (i : ℕ). if j == i then v else f i in
    let inside : j < length (map f (places_below n)) = subst (λ k. j < k) (sym (notes_length f n)) within in
    set-append_left (map f (places_below n)) (f n ∷ []) j v inside
    ∙ (ap₂ (λ xs x. xs ++ x ∷ []) front (sym (other_place f j v n (λ e. omega arith)))
    ∙ sym (map_more g (places_below n) n))

set_map : (f : ℕ → Bool) (n j : ℕ) (v : Bool) → j < n → slice_set (map f (places_below n)) j v ≡ map
    (λ i. if j == i then v else f i) (places_below n)
set_map f zero j v within = absurd (omega arith)
set_map f (suc n) j v within =
    ap (λ xs. slice_set xs j v) (map_more f (places_below n) n)
    ∙ elim (cases_lt j n) [
      | inl lt ↦ set_front f n j v lt (set_map f n j v lt)
      | inr ge ↦ set_last f n j v
          (omega arith)
    ]

-- the note of a node that is there
pub note_set : (f : ℕ → Bool) (n j : ℕ) (v : Bool) (old : List Bool) → old ≡ map f (places_below n) → j < length old
    → slice_set old j v ≡ map (λ i. if j == i then v else f i) (places_below n)
note_set f n j v old is within =
    let inside : j < n = subst (λ k. j < k) (ap length is ∙ notes_length f n) within in
    ap (λ xs. slice_set xs j v) is ∙ set_map f n j v inside

-- of one that isn't
pub note_kept : (f : ℕ → Bool) (n j : ℕ) (v : Bool) (old : List Bool) → old ≡ map f (places_below n) → length old ≤ j
    → old ≡ map (λ i. if j == i then v else f i) (places_below n)
note_kept f n j v old is beyond =
    let all : n ≤ j = subst (λ k. k ≤ j) (ap length is ∙ notes_length f n) beyond in
    is ∙ same_notes f (λ i. if j == i then v else f i) n (λ i lt. sym (other_place f j v i (λ e. omega arith)))

-- ---- the nodes of a load

or_false : (b : Bool) → (b || false) ≡ (false || b)
or_false true = refl
or_false false = refl

or_assoc : (a b c : Bool) → (a || (b || c)) ≡ ((a || b) || c)
or_assoc true b c = refl
or_assoc false b c = refl

any_more : (t : ℕ → Bool) (xs : List ℕ) (x : ℕ) → list_any t (xs ++ x ∷ []) ≡ (list_any t xs || t x)
any_more t [] x = or_false (t x)
any_more t (y ∷ xs) x = ap (λ b. t y || b) (any_more t xs x) ∙ or_assoc (t y) (list_any t xs) (t x)

either : (a b v w : Bool) → (if a || b then v else w) ≡ (if b then v else (if a then v else w))
either true true v w = refl
either true false v w = refl
either false true v w = refl
either false false v w = refl

-- one node more
pub next_node : (f : ℕ → Bool) (v : Bool) (nodes : List ℕ) (k : ℕ) (node n : ℕ) → k < length nodes
    → get_or nodes k node ≡ node
    → map (λ i. if node == i then v else (if list_any (λ m. m == i) (take k nodes) then v else f i)) (places_below n)
    ≡ map (λ i. if list_any (λ m. m == i) (take (k + 1) nodes) then v else f i) (places_below n)
next_node f v nodes k node n within found =
    let taken : take (k + 1) nodes ≡ take k nodes ++ node ∷ [] =
    rw (add-one, take-suc nodes k node within) (ap (λ w. take k nodes ++ w ∷ []) found) in
    same_notes _ _ n (λ i lt. sym (ap (λ xs. if list_any (λ m. m == i) xs then v else f i) taken
    ∙ (ap (λ b. if b then v else f i) (any_more (λ m. m == i) (take k nodes) node)
    ∙ either (list_any (λ m. m == i) (take k nodes)) (node == i) v (f i))))

-- all of its nodes
pub load_noted : (f : ℕ → Bool) (l : Load) (pulse n : ℕ) → l.pulse ≡ pulse
    → map (λ i. if list_any (λ m. m == i) l.nodes.items then is_noise l.kind else f i) (places_below n)
    ≡ map (λ i. if loads_node pulse i l then is_noise l.kind else f i) (places_below n)
load_noted f l pulse n now =
    let this : (l.pulse == pulse) ≡ true = eq-eqb l.pulse pulse now in
    ap (λ b. map (λ i. if b && list_any (λ m. m == i) l.nodes.items then is_noise l.kind else f i) (places_below n))
    (sym this)

pub load_passed : (f : ℕ → Bool) (l : Load) (pulse n : ℕ) (notes : List Bool) → (l.pulse ≡ pulse → ⊥)
    → notes ≡ map f (places_below n)
    → notes ≡ map (λ i. if loads_node pulse i l then is_noise l.kind else f i) (places_below n)
load_passed f l pulse n notes other is =
    let that : (l.pulse == pulse) ≡ false = ne_eqb l.pulse pulse other in
    is ∙ ap (λ b. map (λ i. if b && list_any (λ m. m == i) l.nodes.items then is_noise l.kind else f i)
    (places_below n)) (sym that)

-- ---- loads, one after the other

after_more : (p i : ℕ) (ls : List Load) (l : Load) (had : Bool) → after_loads p i (ls ++ l ∷ []) had
    ≡ (if loads_node p i l then is_noise l.kind else after_loads p i ls had)
after_more p i [] l had = refl
after_more p i (x ∷ ls) l had = after_more p i ls l (if loads_node p i x then is_noise x.kind else had)

pub next_load : (f : ℕ → Bool) (ls : List Load) (k : ℕ) (l : Load) (p n : ℕ) → k < length ls → get_or ls k l ≡ l
    → map (λ i. if loads_node p i l then is_noise l.kind else after_loads p i (take k ls) (f i)) (places_below n)
    ≡ map (λ i. after_loads p i (take (k + 1) ls) (f i)) (places_below n)
next_load f ls k l p n within found =
    let taken : take (k + 1) ls ≡ take k ls ++ l ∷ [] =
    rw (add-one, take-suc ls k l within) (ap (λ w. take k ls ++ w ∷ []) found) in
    same_notes _ _ n (λ i lt. sym (ap (λ xs. after_loads p i xs (f i)) taken ∙ after_more p i (take k ls) l (f i)))

-- ---- unloads

pub unload_noted : (f : ℕ → Bool) (u : Unload) (pulse n : ℕ) → u.pulse ≡ pulse
    → map (λ i. if u.node == i then false else f i) (places_below n)
    ≡ map (λ i. if (u.pulse == pulse) && (u.node == i) then false else f i) (places_below n)
unload_noted f u pulse n now =
    let this : (u.pulse == pulse) ≡ true = eq-eqb u.pulse pulse now in
    ap (λ b. map (λ i. if b && (u.node == i) then false else f i) (places_below n)) (sym this)

pub unload_passed : (f : ℕ → Bool) (u : Unload) (pulse n : ℕ) (notes : List Bool) → (u.pulse ≡ pulse → ⊥)
    → notes ≡ map f (places_below n)
    → notes ≡ map (λ i. if (u.pulse == pulse) && (u.node == i) then false else f i) (places_below n)
unload_passed f u pulse n notes other is =
    let that : (u.pulse == pulse) ≡ false = ne_eqb u.pulse pulse other in
    is ∙ ap (λ b. map (λ i. if b && (u.node == i) then false else f i) (places_below n)) (sym that)

unloads_more : (p i : ℕ) (us : List Unload) (u : Unload) (had : Bool) → after_unloads p i (us ++ u ∷ []) had
    ≡ (if (u.pulse == p) && (u.node == i) then false else after_unloads p i us had)
unloads_more p i [] u had = refl
unloads_more p i (x ∷ us) u had = unloads_more p i us u (if (x.pulse == p) && (x.node == i) then false else had)

pub next_unload : (f : ℕ → Bool) (us : List Unload) (k : ℕ) (u : Unload) (p n : ℕ) → k < length us
    → get_or us k u ≡ u
    → map (λ i. if (u.pulse == p) && (u.node == i) then false else after_unloads p i (take k us) (f i))
    (places_below n)
    ≡ map (λ i. after_unloads p i (take (k + 1) us) (f i)) (places_below n)
next_unload f us k u p n within found =
    let taken : take (k + 1) us ≡ take k us ++ u ∷ [] =
    rw (add-one, take-suc us k u within) (ap (λ w. take k us ++ w ∷ []) found) in
    same_notes _ _ n (λ i lt. sym (ap (λ xs. after_unloads p i xs (f i)) taken
    ∙ unloads_more p i (take k us) u (f i)))

-- ---- what a pulse makes of the notes

-- what stands in a list after all of it was written
pub written_back : {A : Type 0} (n : ℕ) (xs ys : List A) → n ≡ length xs → take n (xs ++ ys) ≡ xs
written_back n xs ys e = take-append-le n xs ys (omega (arith, e)) ∙ take_all n xs (omega (arith, e))

pub next_noise : (s : Scenario) (before n : ℕ)
    → map (λ i. after_unloads (before + 1) i s.unloads.items
    (after_loads (before + 1) i s.loads.items (has_noise s before i))) (places_below n)
    ≡ map (has_noise s (before + 1)) (places_below n)
next_noise s before n =
    let P : ℕ → Type 0 = λ k. map (λ i. after_unloads k i s.unloads.items
    (after_loads k i s.loads.items (has_noise s before i))) (places_below n)
    ≡ map (has_noise s k) (places_below n) in
    subst P (sym (add-one before)) refl

-- ---- the note of a node is read

pub note_at : (f : ℕ → Bool) (n k : ℕ) (d : Bool) → k < n → get_or (map f (places_below n)) k d ≡ f k
note_at f zero k d within = absurd (omega arith)
note_at f (suc n) k d within =
    let more = map_more f (places_below n) n in
    let whole = notes_length f n in
    ap (λ xs. get_or xs k d) more
    ∙ elim (cases_lt k n) [
      | inl lt ↦
          let inside : k < length (map f (places_below n)) = subst (λ m. k < m) (sym whole) lt in
          get_or_append_left (map f (places_below n)) (f n ∷ []) d k inside ∙ note_at f n k d lt
      | inr ge ↦
          let here : k ≡ length (map f (places_below n)) = omega (arith, whole, ge, within) in
          let last : n ≡ k = omega (arith, ge, within) in
          ap (λ m. get_or (map f (places_below n) ++ f n ∷ []) m d) here
          ∙ (get_or-append_seam (map f (places_below n)) (f n) [] d ∙ ap f last)
    ]
