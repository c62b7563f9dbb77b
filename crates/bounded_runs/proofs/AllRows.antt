-- All rows of slots: for each row of numbers there is one with the slots that represent them.
use Rattle.std.proofs.Common.{◌≡◌, ℕ, zero, suc, ◌+◌, ◌^◌, ◌<◌, Bool, true, false, cond, nat_lt, List, [], ◌∷◌, ◌++◌, length, get_or, map, All, Contains, Option, Some, None, unwrap_or, refl, sym, ap, ◌∙◌, subst, arith, inl, inr}
use Rattle.std.specs.List.{flat_map, range_with_len}
use Rattle.std.proofs.lemmas.List.{get_or-map, length-map, append-nil}
use Rattle.std.proofs.lemmas.List.Concat.{flat_map-append}
use Rattle.std.proofs.lemmas.List.Elements.{All-nil, All-cons, All-append, All-map, All-weaker, Contains-append_left, Contains-append_right, Contains-push}
use Rattle.std.proofs.lemmas.List.FromFn.{length-range_with_len, get_or-range_with_len, length-map-range_with_len, get_or-map-range_with_len, map-range_with_len_more}
use Rattle.std.proofs.lemmas.Bool.{true≢false}
use Rattle.std.proofs.lemmas.Bool.Decides.{nat_tests}
use Rattle.node_env.specs.declared.env.TheConstants.{NO_MAIL}
use Rattle.bounded_runs.specs.Bounded.{AlikeFrom, Bound, is_kept}
use Rattle.bounded_runs.specs.inner.Inputs.{longer_rows, rows_of, slots_at, slots_tried, small_slots}

-- ---- what lists contain

pub contains_map : {X Y : Type 0} (f : X → Y) (xs : List X) (x : X) → Contains xs x → Contains (map f xs) (f x)
contains_map f xs x here = (
  here.0,
  omega (arith, here.1, length-map xs f),
  get_or-map f xs here.0 x (f x) here.1 ∙ ap f here.2,
)

contains_flat : {X Y : Type 0} (f : X → List Y) (xs : List X) (x : X) (y : Y) (k : ℕ) → k < length xs
    → get_or xs k x ≡ x → Contains (f x) y → Contains (flat_map f xs) y
contains_flat f [] x y k lt is h = absurd (omega (arith, lt))
contains_flat f (z ∷ zs) x y zero lt is h =
    Contains-append_left (f z) (flat_map f zs) y (subst (λ w. Contains (f w) y) (sym is) h)
contains_flat f (z ∷ zs) x y (suc k) lt is h =
    Contains-append_right (f z) (flat_map f zs) y (contains_flat f zs x y k (omega (arith, lt)) is h)

-- what a loop reads of a list, as one of the list with `f` at each
pub item_at : {X Y : Type 0} (f : X → Y) (xs : List X) (i : ℕ) (x : X) (d : Y) → i < length xs → x ≡ get_or xs i x
    → f x ≡ get_or (map f xs) i d
item_at f xs i x d lt is = ap f is ∙ sym (get_or-map f xs i x d lt)

pub all_flat : {X Y : Type 0} (P : Y → Type 0) (f : X → List Y) (xs : List X) → ((x : X) → All P (f x))
    → All P (flat_map f xs)
all_flat P f [] h = All-nil P
all_flat P f (x ∷ xs) h = All-append P (f x) (flat_map f xs) (h x) (all_flat P f xs h)

-- ---- the slot that represents a number

pub slot_for : ℕ → ℕ → Option ℕ
slot_for bound v = cond (nat_lt v bound) (Some v) None

listed_by : (bound v : ℕ) (b : Bool) → nat_lt v bound ≡ b → Contains (slots_tried bound) (cond b (Some v) None)
listed_by bound v true t =
    let lt : v < bound = grind (arith, nat_tests) in
    Contains-append_left (small_slots bound) (None ∷ []) (Some v) (contains_map Some (range_with_len 0 bound) v (
      v,
      omega (arith, lt, length-range_with_len 0 bound),
      get_or-range_with_len 0 bound v v lt ∙ (let e : 0 + v ≡ v = omega arith in e),
    ))
listed_by bound v false t = Contains-push (small_slots bound) None

slot_listed : (bound v : ℕ) → Contains (slots_tried bound) (slot_for bound v)
unfolding slot_for
slot_listed bound v = listed_by bound v (nat_lt v bound) refl

alike_by : (bound v : ℕ) (b : Bool) → nat_lt v bound ≡ b → bound < 2 ^ 32
    → AlikeFrom bound (unwrap_or (cond b (Some v) None) NO_MAIL) v
alike_by bound v true t small = inl refl
alike_by bound v false t small = inr (omega (arith, small), grind (arith, nat_tests))

pub slot_alike : (bound v : ℕ) → bound < 2 ^ 32 → AlikeFrom bound (unwrap_or (slot_for bound v) NO_MAIL) v
unfolding slot_for
slot_alike bound v small = alike_by bound v (nat_lt v bound) refl small

small_by : (bound v : ℕ) (b : Bool) → nat_lt v bound ≡ b → bound < 2 ^ 32
    → unwrap_or (cond b (Some v) None) NO_MAIL < 2 ^ 32
small_by bound v true t small = let lt : v < bound = grind (arith, nat_tests) in omega (arith, lt, small)
small_by bound v false t small = omega arith

slot_small : (bound v : ℕ) → bound < 2 ^ 32 → unwrap_or (slot_for bound v) NO_MAIL < 2 ^ 32
unfolding slot_for
slot_small bound v small = small_by bound v (nat_lt v bound) refl small

-- of a kept word 0 alone
pub slot_at : Bound → ℕ → ℕ → Option ℕ
slot_at bound k v = cond (is_kept bound.kept k) (Some 0) (slot_for bound.number v)

slot_at_listed : (bound : Bound) (k v : ℕ) → Contains (slots_at bound k) (slot_at bound k v)
unfolding slot_at
slot_at_listed bound k v = by (is_kept bound.kept k)
  where
    by : (b : Bool)
        → Contains (cond b (Some 0 ∷ []) (slots_tried bound.number)) (cond b (Some 0) (slot_for bound.number v))
    by true = (0, omega arith, refl)
    by false = slot_listed bound.number v

pub slot_at_plain : (bound : Bound) (k v : ℕ) → is_kept bound.kept k ≡ false
    → slot_at bound k v ≡ slot_for bound.number v
unfolding slot_at
slot_at_plain bound k v plain = ap (λ (b : Bool). cond b (Some 0) (slot_for bound.number v)) plain

pub slot_at_small : (bound : Bound) (k v : ℕ) → bound.number < 2 ^ 32 → unwrap_or (slot_at bound k v) NO_MAIL < 2 ^ 32
unfolding slot_at
slot_at_small bound k v small = by (is_kept bound.kept k)
  where
    by : (b : Bool) → unwrap_or (cond b (Some 0) (slot_for bound.number v)) NO_MAIL < 2 ^ 32
    by true = omega arith
    by false = slot_small bound.number v small

-- ---- rows

-- the slots that represent this many values of a function, from the one at k on
pub row_for : Bound → (ℕ → ℕ) → ℕ → ℕ → List (Option ℕ)
row_for bound f k n = map (λ j. slot_at bound j (f j)) (range_with_len k n)

pub row_listed : (bound : Bound) (f : ℕ → ℕ) (k n : ℕ) → Contains (rows_of bound k n) (row_for bound f k n)
unfolding row_for
row_listed bound f k zero = (0, omega arith, refl)
row_listed bound f k (suc n) =
    let slot = slot_at bound k (f k) in
    let rest = row_for bound f (k + 1) n in
    let more : Contains (rows_of bound (suc k) n) rest =
    subst (λ (j : ℕ). Contains (rows_of bound j n) rest) (omega arith) (row_listed bound f (k + 1) n) in
    let at = slot_at_listed bound k (f k) in
    contains_flat (λ slot. map (λ row. slot ∷ row) (rows_of bound (suc k) n)) (slots_at bound k) slot (slot ∷ rest)
    at.0 at.1 at.2
    (contains_map (λ row. slot ∷ row) (rows_of bound (suc k) n) rest more)

pub length-row_for : (bound : Bound) (f : ℕ → ℕ) (n : ℕ) → length (row_for bound f 0 n) ≡ n
unfolding row_for
length-row_for bound f n = length-map-range_with_len (λ j. slot_at bound j (f j)) 0 n

pub at_row_for : (bound : Bound) (f : ℕ → ℕ) (n j : ℕ) → j < n
    → get_or (row_for bound f 0 n) j None ≡ slot_at bound j (f j)
unfolding row_for
at_row_for bound f n j lt =
    get_or-map-range_with_len (λ i. slot_at bound i (f i)) 0 n j j None lt (omega arith)

pub all_lengths : (bound : Bound) (k n : ℕ) → All (λ row. length row ≡ n) (rows_of bound k n)
all_lengths bound k zero = All-cons (λ row. length row ≡ 0) [] [] refl (All-nil (λ row. length row ≡ 0))
all_lengths bound k (suc n) =
    let rows = rows_of bound (suc k) n in
    all_flat (λ row. length row ≡ suc n) (λ slot. map (λ row. slot ∷ row) rows) (slots_at bound k) (λ slot.
    All-map (λ row. length row ≡ suc n) (λ row. slot ∷ row) rows
    (All-weaker (λ row. length row ≡ n) (λ row. suc (length row) ≡ suc n) (λ row e. ap suc e) rows
    (all_lengths bound (suc k) n)))

pub row_length : (bound : Bound) (n : ℕ) (rows : List (List (Option ℕ))) (k : ℕ) → rows ≡ rows_of bound 0 n
    → k < length rows → length (get_or rows k []) ≡ n
row_length bound n rows k is lt =
    subst (λ (all : List (List (Option ℕ))). All (λ row. length row ≡ n) all) (sym is) (all_lengths bound 0 n) k [] lt

-- the slots of kept words, from word k on, are 0
abbrev pub HasZeros : List Bool → ℕ → List (Option ℕ) → Type 0
HasZeros kept k row = (j : ℕ) → j < length row → is_kept kept (k + j) ≡ true → get_or row j None ≡ Some 0

zeros_more : (kept : List Bool) (k : ℕ) (slot : Option ℕ) (row : List (Option ℕ))
    → (is_kept kept k ≡ true → slot ≡ Some 0) → HasZeros kept (suc k) row → HasZeros kept k (slot ∷ row)
zeros_more kept k slot row first rest zero lt e =
    first (ap (is_kept kept) (let same : k ≡ k + 0 = omega arith in same) ∙ e)
zeros_more kept k slot row first rest (suc j) lt e =
    rest j (omega (arith, lt)) (ap (is_kept kept) (let same : suc k + j ≡ k + suc j = omega arith in same) ∙ e)

pub all_zeros : (bound : Bound) (k n : ℕ) → All (HasZeros bound.kept k) (rows_of bound k n)
all_zeros bound k zero =
    All-cons (HasZeros bound.kept k) [] [] (λ j lt e. absurd (omega (arith, lt))) (All-nil (HasZeros bound.kept k))
all_zeros bound k (suc n) = by (all_zeros bound (suc k) n) (is_kept bound.kept k) refl
  where
    rows : List (List (Option ℕ))
    rows = rows_of bound (suc k) n

    longer : All (HasZeros bound.kept (suc k)) rows → (slot : Option ℕ)
        → (is_kept bound.kept k ≡ true → slot ≡ Some 0)
        → All (HasZeros bound.kept k) (map (λ row. slot ∷ row) rows)
    longer shorter slot first =
        All-map (HasZeros bound.kept k) (λ row. slot ∷ row) rows
        (All-weaker (HasZeros bound.kept (suc k)) (λ row. HasZeros bound.kept k (slot ∷ row))
        (λ row zeros. zeros_more bound.kept k slot row first zeros) rows shorter)

    by : All (HasZeros bound.kept (suc k)) rows → (b : Bool) → is_kept bound.kept k ≡ b
        → All (HasZeros bound.kept k) (longer_rows (cond b (Some 0 ∷ []) (slots_tried bound.number)) rows)
    by shorter true e =
        All-append (HasZeros bound.kept k) (map (λ row. Some 0 ∷ row) rows) [] (longer shorter (Some 0) (λ _. refl))
        (All-nil (HasZeros bound.kept k))
    by shorter false e =
        all_flat (HasZeros bound.kept k) (λ slot. map (λ row. slot ∷ row) rows) (slots_tried bound.number)
        (λ slot. longer shorter slot (λ kept. absurd (true≢false (sym kept ∙ e))))

-- one more number is put in front
pub small_more : (rows : List (List (Option ℕ))) (n : ℕ)
    → longer_rows (small_slots (n + 1)) rows ≡ longer_rows (small_slots n) rows ++ map (λ row. Some n ∷ row) rows
small_more rows n =
    ap (λ slots. longer_rows slots rows) (map-range_with_len_more Some 0 n n (omega arith))
    ∙ flat_map-append (λ slot. map (λ row. slot ∷ row) rows) (small_slots n) (Some n ∷ [])
    ∙ ap (λ more. longer_rows (small_slots n) rows ++ more) (append-nil (map (λ row. Some n ∷ row) rows))
