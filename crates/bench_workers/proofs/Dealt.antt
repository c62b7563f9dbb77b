-- Tasks in batches, and results in the order of the batches.
use Rattle.std.proofs.Common.{◌≡◌, ◌⊎◌, ⊎_elim, inl, inr, ℕ, zero, suc, ◌+◌, ◌*◌, ◌%◌, ◌<◌, ◌==◌, cond, List, [], ◌∷◌, ◌++◌, length, map, set, get_or, refl, sym, ap, ◌∙◌, subst, arith, append_assoc, append-nil}
use Rattle.std.specs.Prelude.{count_by, All, Contains, slice_get, Option, Some, None, Result, Ok, Err, IfOk, OnOk, IfSome, IsSome, IsOk}
use Rattle.std.specs.List.{flat_map}
use Rattle.std.specs.List.Sorted.{IsPermutation}
use Rattle.std.proofs.lemmas.List.Sums.{sum_by-append}
use Rattle.std.proofs.lemmas.List.Concat.{flat_map-append}
use Rattle.std.proofs.lemmas.List.Elements.{All-push, Contains-get_or}
use Rattle.std.proofs.lemmas.List.{get_or-map, get_or-set_same, get_or-set_other, length-map, map-append}
use Rattle.std.proofs.Math.Nat.{mod-eq_of_lt, mod_self, suc-mul}
use Rattle.std.proofs.lemmas.Nat.{mul-add-lt}
use Rattle.std.proofs.lemmas.Option.{none-some, same_Some, slice_get-get_or, slice_get_past}
use Rattle.std.proofs.lemmas.List.Sorted.{IsPermutation-append_right, IsPermutation-append_comm, IsPermutation-sym, Contains-permutation, sum_by-IsPermutation}
use Rattle.bench_core.specs.Tasks.{Task, Done, RanEach}
use Rattle.bench_workers.specs.inner.Batches.{AreDealt, AreNumbered, RanInOrder}

-- ---- one task more

-- a piece that is one longer makes the whole one longer, in some order
pub one_given : {X A : Type 0} (f : X → List A) (xs : List X) (i : ℕ) (old new : X) (a : A) → i < length xs
    → old ≡ get_or xs i old → f new ≡ f old ++ a ∷ []
    → IsPermutation (flat_map f xs ++ a ∷ []) (flat_map f (set xs i new))
one_given f [] i old new a low at is = absurd (omega (arith, low))
one_given f (x ∷ xs) zero old new a low at is =
    let piece : f new ≡ f x ++ a ∷ [] = is ∙ ap (λ y. f y ++ a ∷ []) at in
    subst (λ l. IsPermutation ((f x ++ flat_map f xs) ++ a ∷ []) (l ++ flat_map f xs)) (sym piece)
    (rw (append_assoc, append_assoc) (IsPermutation-append_right (f x) (flat_map f xs ++ a ∷ []) (a ∷ flat_map f xs)
    (IsPermutation-append_comm (flat_map f xs) (a ∷ []))))
one_given f (x ∷ xs) (suc i) old new a low at is =
    rw append_assoc (IsPermutation-append_right (f x) (flat_map f xs ++ a ∷ []) (flat_map f (set xs i new))
    (one_given f xs i old new a (omega arith) at is))

-- ---- which batch a task is in

compare : (a b : ℕ) → (a ≡ b) ⊎ ((a < b) ⊎ (b < a))
compare zero zero = inl refl
compare zero (suc b) = inr (inl (omega arith))
compare (suc a) zero = inr (inr (omega arith))
compare (suc a) (suc b) =
    ⊎_elim (λ (e : a ≡ b). inl (ap suc e))
    (λ (d : (a < b) ⊎ (b < a)). inr
    (⊎_elim (λ (l : a < b). inl (omega (arith, l))) (λ (m : b < a). inr (omega (arith, m))) d)) (compare a b)

-- a place is of one batch and one turn
one_place : (w a b k q : ℕ) → a < w → b < w → a + k * w ≡ b + q * w → (a ≡ b) × (k ≡ q)
one_place w a b k q low high e =
    ⊎_elim (λ (s : k ≡ q). (omega (arith, e, ap (λ n. n * w) s), s))
    (λ (d : (k < q) ⊎ (q < k)). ⊎_elim
    (λ (l : k < q). absurd (omega (arith, e, mul-add-lt k w a q l low)))
    (λ (m : q < k). absurd (omega (arith, e, mul-add-lt q w b k m high))) d) (compare k q)

at_length : {A : Type 0} (l : List A) (t : A) → slice_get (l ++ t ∷ []) (length l) ≡ Some t
at_length [] t = refl
at_length (x ∷ l) t = at_length l t

not_length : {A : Type 0} (l : List A) (t : A) (m : ℕ) → (m ≡ length l → ⊥)
    → slice_get (l ++ t ∷ []) m ≡ slice_get l m
not_length [] t zero apart = absurd (apart refl)
not_length [] t (suc m) apart = refl
not_length (x ∷ l) t zero apart = refl
not_length (x ∷ l) t (suc m) apart = not_length l t m (λ e. apart (ap suc e))

-- a batch has as many tasks as it had turns
turns_of : (w j q : ℕ) (tasks batch : List Task) (t : Task) → j < w → length tasks ≡ j + q * w
    → ((k : ℕ) → slice_get batch k ≡ slice_get tasks (j + k * w)) → length batch ≡ q
turns_of w j q tasks batch t low count each =
    ⊎_elim (λ (s : length batch ≡ q). s)
    (λ (d : (length batch < q) ⊎ (q < length batch)). ⊎_elim
    (λ (l : length batch < q). absurd
    (none-some (get_or tasks (j + length batch * w) t)
    (sym (slice_get_past batch (length batch) (omega arith)) ∙ each (length batch)
    ∙ slice_get-get_or tasks (j + length batch * w) t (omega (arith, count, mul-add-lt (length batch) w j q l low)))))
    (λ (m : q < length batch). absurd
    (none-some (get_or batch q t)
    (sym (slice_get_past tasks (j + q * w) (omega (arith, count))) ∙ sym (each q) ∙ slice_get-get_or batch q t m))) d)
    (compare (length batch) q)

-- one task more, in the batch whose turn it is
pub one_dealt : (w worker q : ℕ) (tasks : List Task) (bs : List (List Task)) (t : Task) → worker < w
    → length bs ≡ w → length tasks ≡ worker + q * w → AreDealt w tasks bs
    → AreDealt w (tasks ++ t ∷ []) (set bs worker (get_or bs worker [] ++ t ∷ []))
unfolding AreDealt
one_dealt w worker q tasks bs t low size count each j k below =
    let batch = get_or bs worker [] in
    let new = set bs worker (batch ++ t ∷ []) in
    let turns : length batch ≡ q = turns_of w worker q tasks batch t low count (λ k. each worker k low) in
    let whole : get_or new worker [] ≡ batch ++ t
    ∷ [] = get_or-set_same bs worker (batch ++ t ∷ []) [] (omega (arith, size, low)) in
    let its_own : (k : ℕ) → slice_get (batch ++ t ∷ []) k ≡ slice_get (tasks ++ t ∷ []) (worker + k * w) =
    λ k. ⊎_elim (λ (s : k ≡ q). ap (slice_get (batch ++ t ∷ [])) (s ∙ sym turns) ∙ at_length batch t
    ∙ sym (ap (slice_get (tasks ++ t ∷ [])) (ap (λ n. worker + n * w) s ∙ sym count) ∙ at_length tasks t))
    (λ (d : (k < q) ⊎ (q < k)).
    let apart : k ≡ q → ⊥ = λ s. ⊎_elim (λ (l : k < q). omega (arith, l, s)) (λ (m : q < k). omega (arith, m, s)) d in
    not_length batch t k (λ e. apart (e ∙ turns)) ∙ each worker k low
    ∙ sym (not_length tasks t (worker + k * w) (λ e. apart (one_place w worker worker k q low low (e ∙ count)).1)))
    (compare k q) in
    ⊎_elim (λ (s : j ≡ worker). ap (λ i. slice_get (get_or new i []) k) s ∙ ap (λ l. slice_get l k) whole ∙ its_own k
    ∙ ap (λ i. slice_get (tasks ++ t ∷ []) (i + k * w)) (sym s))
    (λ (d : (j < worker) ⊎ (worker < j)).
    let apart : j ≡ worker → ⊥ = λ s. ⊎_elim (λ (l : j < worker). omega (arith, l, s))
    (λ (m : worker < j). omega (arith, m, s)) d in
    ap (λ l. slice_get l k) (get_or-set_other bs worker j (batch ++ t ∷ []) [] apart) ∙ each j k below
    ∙ sym (not_length tasks t (j + k * w) (λ e. apart (one_place w j worker k q below low (e ∙ count)).0)))
    (compare j worker)

-- whose turn is next
pub next_turn : (worker w count more : ℕ) → ((q : ℕ) × (count ≡ worker + q * w)) → worker < w → more ≡ count + 1
    → (q : ℕ) × (more ≡ (worker + 1) % w + q * w)
next_turn worker w count more turns low next =
    ⊎_elim (λ (s : worker + 1 ≡ w). (suc turns.0, next ∙ around s))
    (λ (d : (worker + 1 < w) ⊎ (w < worker + 1)). ⊎_elim
    (λ (l : worker + 1 < w). (turns.0, omega (arith, turns.1, next, mod-eq_of_lt l)))
    (λ (m : w < worker + 1). absurd (omega (arith, m, low))) d) (compare (worker + 1) w)
  where
    around : worker + 1 ≡ w → count + 1 ≡ (worker + 1) % w + suc turns.0 * w
    around s =
        let over : (worker + 1) % w ≡ 0 = ap (λ n. n % w) s ∙ mod_self w in
        omega (arith, turns.1, over, s, suc-mul turns.0 w)

-- no tasks in batches without any
pub none_dealt : {X : Type 0} (f : X → List Task) (w : ℕ) (xs : List X) → flat_map f xs ≡ []
    → AreDealt w [] (map f xs)
unfolding AreDealt
none_dealt {X} f w xs none j k below = ap (λ l. slice_get l k) (piece xs j none)
  where
    left : (a b : List Task) → a ++ b ≡ [] → a ≡ []
    left [] b e = refl
    left (x ∷ a) b e = absurd cc

    right : (a b : List Task) → a ++ b ≡ [] → b ≡ []
    right [] b e = e
    right (x ∷ a) b e = absurd cc

    piece : (xs : List X) (j : ℕ) → flat_map f xs ≡ [] → get_or (map f xs) j [] ≡ []
    piece [] j e = refl
    piece (x ∷ xs) zero e = left (f x) (flat_map f xs) e
    piece (x ∷ xs) (suc j) e = piece xs j (right (f x) (flat_map f xs) e)

-- the piece that is one longer, among all
pub given_at : {X A : Type 0} (f : X → List A) (xs : List X) (i : ℕ) (old new : X) (a : A) → i < length xs
    → old ≡ get_or xs i old → f new ≡ f old ++ a ∷ []
    → map f (set xs i new) ≡ set (map f xs) i (get_or (map f xs) i [] ++ a ∷ [])
given_at f [] i old new a low at is = absurd (omega (arith, low))
given_at f (x ∷ xs) zero old new a low at is =
    ap (λ l. l ∷ map f xs) (is ∙ ap (λ y. f y ++ a ∷ []) at)
given_at f (x ∷ xs) (suc i) old new a low at is =
    ap (λ l. f x ∷ l) (given_at f xs i old new a (omega arith) at is)

-- ---- the numbers of workers

pub numbered_none : {H : Type 0} (number : H → ℕ) (hs : List H) → hs ≡ [] → AreNumbered (map number hs)
unfolding AreNumbered
numbered_none number hs none k worker at =
    absurd (none-some worker (ap (λ l. slice_get (map number l) k) (sym none) ∙ at))

pub numbered_push : {H : Type 0} (number : H → ℕ) (hs : List H) (h : H) (now : List H) → now ≡ hs ++ h ∷ []
    → number h ≡ length hs → AreNumbered (map number hs) → AreNumbered (map number now)
unfolding AreNumbered
numbered_push number hs h now is next old k worker at =
    let here : slice_get (map number hs ++ number h ∷ []) k ≡ Some worker =
    ap (λ l. slice_get l k) (sym (ap (map number) is ∙ map-append number hs (h ∷ []))) ∙ at in
    let size : length (map number hs) ≡ length hs = length-map hs number in
    ⊎_elim (λ (s : k ≡ length hs).
    sym (same_Some (number h) worker (sym (ap (slice_get (map number hs ++ number h ∷ [])) (s ∙ sym size)
    ∙ at_length (map number hs) (number h)) ∙ here)) ∙ next ∙ sym s)
    (λ (d : (k < length hs) ⊎ (length hs < k)).
    let apart : k ≡ length (map number hs) → ⊥ = λ e. ⊎_elim (λ (l : k < length hs). omega (arith, l, e, size))
    (λ (m : length hs < k). omega (arith, m, e, size)) d in
    old k worker (sym (not_length (map number hs) (number h) k apart) ∙ here))
    (compare k (length hs))

-- one more on both sides
pub both_push : {X Y A : Type 0} (f : X → A) (g : Y → A) (xs now : List X) (ys : List Y) (x : X) (y : Y)
    → now ≡ xs ++ x ∷ [] → map f xs ≡ map g ys → f x ≡ g y → map f now ≡ map g (ys ++ y ∷ [])
both_push f g xs now ys x y is old more =
    ap (map f) is ∙ map-append f xs (x ∷ []) ∙ ap (λ l. l ++ f x ∷ []) old ∙ ap (λ a. map g ys ++ a ∷ []) more
    ∙ sym (map-append g ys (y ∷ []))

-- the same of each, with one more
pub all_push : {X : Type 0} (P : X → Type 0) (xs now : List X) (x : X) → now ≡ xs ++ x ∷ [] → All P xs → P x
    → All P now
all_push P xs now x is old more = subst (All P) (sym is) (All-push P xs x old more)

-- pieces that are equal make equal wholes
pub same_whole : {X Y A : Type 0} (f : X → List A) (g : Y → List A) (xs : List X) (ys : List Y)
    → map f xs ≡ map g ys → flat_map f xs ≡ flat_map g ys
same_whole f g xs ys e = pieces f xs ∙ ap (flat_map (λ l. l)) e ∙ sym (pieces g ys)
  where
    pieces : {Z B : Type 0} (h : Z → List B) (zs : List Z) → flat_map h zs ≡ flat_map (λ l. l) (map h zs)
    pieces h [] = refl
    pieces h (z ∷ zs) = ap (λ l. h z ++ l) (pieces h zs)

-- ---- results

count_of : (i : ℕ) (dones : List Done) → count_by (λ d. d.task.node == i) dones ≡ count_by (λ t. t.node == i)
    (map (λ d. d.task) dones)
count_of i [] = refl
count_of i (d ∷ dones) =
    sum_by-append (λ e. cond (e.task.node == i) 1 0) (d ∷ []) dones
    ∙ ap (λ n. (0 + cond (d.task.node == i) 1 0) + n) (count_of i dones)
    ∙ sym (sum_by-append (λ t. cond (t.node == i) 1 0) (d.task ∷ []) (map (λ e. e.task) dones))

known : (dones : List Done) → All (λ d. Contains (map (λ e. e.task) dones) d.task) dones
known dones i d low =
    subst (Contains (map (λ (e : Done). e.task) dones)) (get_or-map (λ (e : Done). e.task) dones i d d.task low)
    (Contains-get_or (map (λ (e : Done). e.task) dones) i d.task (omega (arith, low, length-map {A = Done} {B = Task})))

pub ran_each : (tasks : List Task) (dones : List Done) → RanInOrder tasks dones → RanEach tasks dones
ran_each tasks dones e =
    subst (λ ts. RanEach ts dones) e (record { known = known dones; once = λ i. count_of i dones })

-- results of the tasks in another order
pub ran_dealt : (tasks dealt : List Task) (dones : List Done) → IsPermutation tasks dealt → RanInOrder dealt dones
    → RanEach tasks dones
ran_dealt tasks dealt dones moved ran =
    let each = ran_each dealt dones ran in
    let back = IsPermutation-sym tasks dealt moved in
    record {
      known = λ i d low. Contains-permutation dealt tasks (get_or dones i d).task back (each.known i d low);
      once = λ i. each.once i ∙ sum_by-IsPermutation (λ t. cond (t.node == i) 1 0) tasks dealt moved;
    }

-- ---- what workers gave, joined in order

pub one_joined : {H X E : Type 0} (tasks : H → List Task) (items : X → List Done) (before after : Result X E)
    (given : Option X) (joined : List H) (h : H)
    → OnOk after (IsOk before × IsSome given) → IfOk after
    (λ all. IfOk before (λ first. IfSome given (λ more. items all ≡ items first ++ items more)))
    → IfSome given (λ dones. RanInOrder (tasks h) (items dones))
    → IfOk before (λ dones. RanInOrder (flat_map tasks joined) (items dones))
    → IfOk after (λ dones. RanInOrder (flat_map tasks (joined ++ h ∷ [])) (items dones))
one_joined tasks items before (Err e) given joined h both is ran first = tt
one_joined tasks items (Err e) (Ok all) given joined h both is ran first = absurd (cc both.0)
one_joined tasks items (Ok some) (Ok all) None joined h both is ran first = absurd (cc both.1)
one_joined tasks items (Ok some) (Ok all) (Some more) joined h both is ran first =
    ap (map (λ (d : Done). d.task)) is ∙ map-append (λ (d : Done). d.task) (items some) (items more)
    ∙ ap (λ l. l ++ map (λ (d : Done). d.task) (items more)) first
    ∙ ap (λ l. flat_map tasks joined ++ l) (ran ∙ sym (append-nil (tasks h)))
    ∙ sym (flat_map-append tasks joined (h ∷ []))

-- who gave results was let in
pub one_let_in : {H X E : Type 0} (in_ : H → Type 0) (before after : Result X E) (given : Option X) (joined : List H)
    (h : H) → OnOk after (IsOk before × IsSome given) → (IsSome given → in_ h) → OnOk before (All in_ joined)
    → OnOk after (All in_ (joined ++ h ∷ []))
one_let_in in_ before (Err e) given joined h both last old = tt
one_let_in in_ (Err e) (Ok all) given joined h both last old = absurd (cc both.0)
one_let_in in_ (Ok first) (Ok all) given joined h both last old = All-push in_ joined h old (last both.1)

-- all batches were run, and they had all tasks
pub all_ran : {X E : Type 0} (items : X → List Done) (r : Result X E) (tasks dealt started : List Task)
    → IsPermutation tasks dealt → started ≡ dealt
    → IfOk r (λ dones. RanInOrder started (items dones)) → IfOk r (λ dones. RanEach tasks (items dones))
all_ran items (Err e) tasks dealt started moved same ran = tt
all_ran items (Ok dones) tasks dealt started moved same ran = ran_dealt tasks dealt (items dones) moved (ran ∙ same)
