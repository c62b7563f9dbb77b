-- Counts of mail. Two values cannot both be sent by too many: each settled sender sent one value to all.
use Rattle.std.proofs.Common.{◌≡◌, ◌≢◌, ℕ, zero, suc, ◌+◌, ◌<◌, ◌≤◌, ◌==◌, Bool, true, false, not, cond, List, [], ◌∷◌, length, map, get_or, count_by, Contains, slice_get, Some, None, refl, sym, ap, ◌∙◌, subst, arith, inl, inr}
use Rattle.std.specs.Ordering.{nat_cmp}
use Rattle.std.specs.FinMap.{FinMap, empty, get}
use Rattle.std.proofs.lemmas.Bool.{cases_Bool, cases_lt}
use Rattle.std.proofs.lemmas.Bool.Decides.{nat_tests}
use Rattle.std.proofs.lemmas.List.{length-map}
use Rattle.std.proofs.lemmas.List.Sums.{sum_by-cons}
use Rattle.node_env.specs.Env.{AreNumbers}
use Rattle.node_env.proofs.Slots.{get-map_of, get-map_of_past}
use Rattle.clock_nodes.specs.Rule.{is_mail, support}
use Rattle.node_env.specs.Env.{inbox_of}
use Rattle.bench_core.specs.State.{mail_from}

-- one unit, where the test holds
abbrev pub unit_of : Bool → ℕ
unit_of b = cond b 1 0

unit_le : (b : Bool) → unit_of b ≤ 1
unit_le true = omega arith
unit_le false = omega arith

pub count_cons : {X : Type 0} (p : X → Bool) (x : X) (xs : List X) → count_by p (x ∷ xs) ≡ unit_of (p x) + count_by p xs
count_cons p x xs = sum_by-cons (λ y. unit_of (p y)) x xs

-- ---- an inbox, by the rows of its senders

pub get_map : {X Y : Type 0} (f : X → Y) (xs : List X) (j : ℕ) (d : X) (e : Y) → j < length xs
    → get_or (map f xs) j e ≡ f (get_or xs j d)
get_map f [] j d e lt = absurd (omega arith)
get_map f (x ∷ xs) zero d e lt = refl
get_map f (x ∷ xs) (suc j) d e lt = get_map f xs j d e (omega arith)

get_inbox : (i j : ℕ) (rows : List (FinMap nat_cmp ℕ)) → j < length rows
    → get (inbox_of i rows) j ≡ get (mail_from rows j) i
get_inbox i j rows lt = get-map_of (map (λ row. get row i) rows) j ∙ get_map (λ row. get row i) rows j empty None lt

pub inbox_numbers : (n i : ℕ) (rows : List (FinMap nat_cmp ℕ)) → length rows ≡ n
    → ((k : ℕ) → k < n → AreNumbers n (mail_from rows k)) → AreNumbers n (inbox_of i rows)
inbox_numbers n i rows e small j v h =
    elim (cases_lt j (length rows)) [
      | inl lt ↦ let within : j < n = omega (arith, lt, e) in
          (within, (small j within i v (sym (get_inbox i j rows lt) ∙ h)).1)
      | inr past ↦
          let none : get (inbox_of i rows) j ≡ None = get-map_of_past (map (λ row. get row i) rows) j
          (omega (arith, past, length-map rows (λ row. get row i))) in
          let no : None ≡ Some v = sym none ∙ h in absurd cc
    ]

-- how many senders sent v to the receiver
abbrev pub came : ℕ → ℕ → List (FinMap nat_cmp ℕ) → ℕ
came v i rows = count_by (λ row. is_mail v (get row i)) rows

abbrev sum_to : (ℕ → Bool) → ℕ → ℕ
sum_to g zero = 0
sum_to g (suc n) = sum_to g n + unit_of (g n)

sum_front : (g : ℕ → Bool) (n : ℕ) → sum_to g (suc n) ≡ unit_of (g 0) + sum_to (λ j. g (suc j)) n
sum_front g zero = omega arith
sum_front g (suc n) = omega (arith, sum_front g n)

sum_rows : {X : Type 0} (p : X → Bool) (xs : List X) (d : X)
    → sum_to (λ j. p (get_or xs j d)) (length xs) ≡ count_by p xs
sum_rows p [] d = refl
sum_rows p (x ∷ xs) d = sum_front (λ j. p (get_or (x ∷ xs) j d)) (length xs)
    ∙ (ap (λ k. unit_of (p x) + k) (sum_rows p xs d) ∙ sym (count_cons p x xs))

sum_same : (g h : ℕ → Bool) (n : ℕ) → ((j : ℕ) → j < n → g j ≡ h j) → sum_to g n ≡ sum_to h n
sum_same g h zero same = refl
sum_same g h (suc n) same = omega (
  arith,
  sum_same g h n (λ j lt. same j (omega arith)),
  ap unit_of
      (same n (omega arith)),
)

support_sum : (inbox : FinMap nat_cmp ℕ) (v n : ℕ) → support inbox v n ≡ sum_to (λ j. is_mail v (get inbox j)) n
support_sum inbox v zero = refl
support_sum inbox v (suc n) = omega (arith, support_sum inbox v n)

pub support_came : (v i n : ℕ) (rows : List (FinMap nat_cmp ℕ)) → length rows ≡ n
    → support (inbox_of i rows) v n ≡ came v i rows
support_came v i n rows e =
    subst (λ k. support (inbox_of i rows) v k ≡ came v i rows) e
    (support_sum (inbox_of i rows) v (length rows)
    ∙ (sum_same (λ j. is_mail v (get (inbox_of i rows) j)) (λ j. is_mail v (get (mail_from rows j) i)) (length rows)
    (λ j lt. ap (is_mail v) (get_inbox i j rows lt))
    ∙ sum_rows (λ row. is_mail v (get row i)) rows empty))

-- ---- two values

-- one value to each node below n
abbrev pub SentOne : ℕ → FinMap nat_cmp ℕ → Type 0
SentOne n row = (c : ℕ) × ((j : ℕ) → j < n → get row j ≡ Some c)

-- one number is not two
one_value : (c v w : ℕ) → v ≢ w → unit_of (c == v) + unit_of (c == w) ≤ 1
one_value c v w apart = grind (arith, nat_tests)

one_row : (n i j v w : ℕ) (row : FinMap nat_cmp ℕ) → i < n → j < n → v ≢ w → (flag : Bool)
    → (flag ≡ true → SentOne n row)
    → unit_of (is_mail v (get row i)) + unit_of (is_mail w (get row j)) ≤ 1 + unit_of (not flag)
one_row n i j v w row lt lt' apart true one =
    let sent = one refl in
    rw (sent.1 i lt, sent.1 j lt') (omega (arith, one_value sent.0 v w apart))
one_row n i j v w row lt lt' apart false one =
    omega (arith, unit_le (is_mail v (get row i)), unit_le (is_mail w (get row j)))

-- the senders of v to i and those of w to j are no more than the senders and the ones that are not settled
pub two_values : (n i j v w : ℕ) (rows : List (FinMap nat_cmp ℕ)) (flags : List Bool) → length flags ≡ length rows
    → i < n → j < n → v ≢ w
    → ((k : ℕ) → k < length rows → get_or flags k false ≡ true → SentOne n (mail_from rows k))
    → came v i rows + came w j rows ≤ length rows + count_by not flags
two_values n i j v w [] [] e lt lt' apart one = omega arith
two_values n i j v w [] (f ∷ flags) e lt lt' apart one = absurd (omega arith)
two_values n i j v w (r ∷ rows) [] e lt lt' apart one = absurd (omega arith)
two_values n i j v w (r ∷ rows) (f ∷ flags) e lt lt' apart one =
    let here = one_row n i j v w r lt lt' apart f (λ h. one 0 (omega arith) h) in
    let rest = two_values n i j v w rows flags (omega arith) lt lt' apart (λ k l h. one (suc k) (omega arith) h) in
    omega (
      arith,
      here,
      rest,
      count_cons (λ row. is_mail v (get row i)) r rows,
      count_cons
          (λ row. is_mail w (get row j)) r rows,
      count_cons not f flags,
    )

below_unit : (a b : Bool) → (a ≡ true → b ≡ true) → unit_of a ≤ unit_of b
below_unit true b h = rw (h refl) (omega arith)
below_unit false b h = omega arith

-- each node counted in p has sent v to the receiver
pub enough_came : {X : Type 0} (p : X → Bool) (i v : ℕ) (xs : List X) (rows : List (FinMap nat_cmp ℕ))
    → length rows ≡ length xs
    → ((k : ℕ) (d : X) → k < length xs → p (get_or xs k d) ≡ true → is_mail v (get (mail_from rows k) i) ≡ true)
    → count_by p xs ≤ came v i rows
enough_came p i v [] rows e sent = omega arith
enough_came p i v (x ∷ xs) [] e sent = absurd (omega arith)
enough_came p i v (x ∷ xs) (r ∷ rows) e sent =
    let rest = enough_came p i v xs rows (omega arith) (λ k d l h. sent (suc k) d (omega arith) h) in
    let here = below_unit (p x) (is_mail v (get r i)) (λ h. sent 0 x (omega arith) h) in
    omega (arith, here, rest, count_cons (λ row. is_mail v (get row i)) r rows, count_cons p x xs)

-- where some pass, there is one that passes
pub some_passes : {X : Type 0} (p : X → Bool) (xs : List X) → 0 < count_by p xs → (x : X) × Contains xs x × (p x ≡ true)
some_passes p [] h = absurd (omega arith)
some_passes p (x ∷ xs) h =
    elim (cases_Bool (p x)) [
      | inl e ↦ (x, (0, omega arith, refl), e)
      | inr e ↦
          let found = some_passes p xs (omega (arith, h, count_cons p x xs, ap unit_of e)) in
          (found.0, (suc found.1.0, omega (arith, found.1.1), found.1.2), found.2)
    ]

-- one that passes is counted
pub passes_at : {X : Type 0} (p : X → Bool) (xs : List X) (k : ℕ) (x : X) → slice_get xs k ≡ Some x → p x ≡ true
    → 1 ≤ count_by p xs
passes_at p [] k x at e = absurd (let no : None ≡ Some x = at in cc)
passes_at p (y ∷ xs) zero x at e =
    let same : y ≡ x = cc in
    omega (arith, count_cons p y xs, ap unit_of (ap p same ∙ e))
passes_at p (y ∷ xs) (suc k) x at e = omega (arith, count_cons p y xs, passes_at p xs k x at e)

-- and so are two
pub pass_twice : {X : Type 0} (p : X → Bool) (xs : List X) (k l : ℕ) (x y : X) → k < l → slice_get xs k ≡ Some x
    → slice_get xs l ≡ Some y → p x ≡ true → p y ≡ true → 2 ≤ count_by p xs
pass_twice p [] k l x y lt at at' e e' = absurd (let no : None ≡ Some x = at in cc)
pass_twice p (z ∷ xs) k zero x y lt at at' e e' = absurd (omega arith)
pass_twice p (z ∷ xs) zero (suc l) x y lt at at' e e' =
    let same : z ≡ x = cc in
    omega (arith, count_cons p z xs, ap unit_of (ap p same ∙ e), passes_at p xs l y at' e')
pass_twice p (z ∷ xs) (suc k) (suc l) x y lt at at' e e' = omega
    (arith, count_cons p z xs, pass_twice p xs k l x y (omega arith) at at' e e')
