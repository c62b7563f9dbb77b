-- What the map of a row of slots holds, after each way to write them.
use Rattle.std.specs.Prelude.{◌≡◌, ◌≢◌, ℕ, zero, suc, ◌+◌, ◌<◌, ◌≤◌, Bool, true, false, cond, List, [], ◌∷◌, length, Option, Some, None, refl, replicate, ◌==◌, nat_lt}
use Rattle.std.specs.Ordering.{nat_cmp, eq_by_cmp}
use Rattle.std.specs.Cmp.{nat_cmp_total, unsigned_tied}
use Rattle.std.specs.FinMap.{FinMap, empty, get, insert, remove, from_entries, find, get-empty, get-insert, get-remove, get-from_entries, same_map, nat_cmp-IsAntisymmetric}
use Rattle.std.proofs.Common.{sym, ◌∙◌, ap, arith, get_or, set}
use Rattle.std.proofs.lemmas.Grind.{get_or-set_at}
use Rattle.std.proofs.lemmas.List.{get_or-set_other, get_or_past}
use Rattle.std.proofs.lemmas.Bool.Decides.{nat_tests}
use Rattle.node_env.specs.Slots.{entries_from, map_of}

same_key : (j k : ℕ) → j ≡ k → eq_by_cmp nat_cmp j k ≡ true
same_key j k e = unsigned_tied j k ∙ grind (arith, nat_tests)

other_key : (j k : ℕ) → j ≢ k → eq_by_cmp nat_cmp j k ≡ false
other_key j k e = unsigned_tied j k ∙ grind (arith, nat_tests)

find_before : {A : Type 0} (slots : List (Option A)) (k j : ℕ) → j < k → find nat_cmp j (entries_from k slots) ≡ None
find_before [] k j h = refl
find_before (None ∷ slots) k j h = find_before slots (suc k) j (omega arith)
find_before (Some x ∷ slots) k j h =
    rw (other_key j k (λ e. omega arith)) (find_before slots (suc k) j (omega arith))

find_entries : {A : Type 0} (slots : List (Option A)) (k q j : ℕ) → j ≡ k + q
    → find nat_cmp j (entries_from k slots) ≡ get_or slots q None
find_entries [] k q j e = refl
find_entries (None ∷ slots) k zero j e = find_before slots (suc k) j (omega arith)
find_entries (None ∷ slots) k (suc q) j e = find_entries slots (suc k) q j (omega arith)
find_entries (Some x ∷ slots) k zero j e = rw (same_key j k (omega arith)) refl
find_entries (Some x ∷ slots) k (suc q) j e =
    rw (other_key j k (λ h. omega arith)) (find_entries slots (suc k) q j (omega arith))

pub get-map_of : {A : Type 0} (slots : List (Option A)) (q : ℕ) → get (map_of slots) q ≡ get_or slots q None
unfolding map_of
get-map_of slots q = get-from_entries nat_cmp_total _ q ∙ find_entries slots 0 q q (omega arith)

same_by_get : {A : Type 0} (m n : FinMap nat_cmp A) → ((q : ℕ) → get m q ≡ get n q) → m ≡ n
same_by_get m n h = same_map nat_cmp_total nat_cmp-IsAntisymmetric m n h

-- a write to a slot, by whether the place is the one that is looked up
get_written : {A : Type 0} (slots : List (Option A)) (i q : ℕ) (x : A) (b : Bool) → i < length slots
    → eq_by_cmp nat_cmp q i ≡ b → (q == i) ≡ b → get_or (set slots i (Some x)) q None ≡ cond b (Some x)
    (get_or slots q None)
get_written slots i q x true h e t = get_or-set_at slots i q (Some x) None (grind (arith, nat_tests)) h
get_written slots i q x false h e t = get_or-set_other slots i q (Some x) None (λ is. grind (arith, nat_tests))

pub map_of-set : {A : Type 0} (slots : List (Option A)) (i : ℕ) (x : A) → i < length slots
    → map_of (set slots i (Some x)) ≡ insert (map_of slots) i x
map_of-set slots i x h = same_by_get _ _ (λ q.
    get-map_of (set slots i (Some x)) q
    ∙ get_written slots i q x (eq_by_cmp nat_cmp q i) h refl (sym (unsigned_tied q i))
    ∙ sym (get-insert nat_cmp_total (map_of slots) i x q
    ∙ ap (cond (eq_by_cmp nat_cmp q i) (Some x)) (get-map_of slots q)))

get_cleared : {A : Type 0} (slots : List (Option A)) (i q : ℕ) (b : Bool) → i < length slots
    → eq_by_cmp nat_cmp q i ≡ b → (q == i) ≡ b → get_or (set slots i None) q None ≡ cond b None (get_or slots q None)
get_cleared slots i q true h e t = get_or-set_at slots i q None None (grind (arith, nat_tests)) h
get_cleared slots i q false h e t = get_or-set_other slots i q None None (λ is. grind (arith, nat_tests))

pub map_of-clear : {A : Type 0} (slots : List (Option A)) (i : ℕ) → i < length slots
    → map_of (set slots i None) ≡ remove (map_of slots) i
map_of-clear slots i h = same_by_get _ _ (λ q.
    get-map_of (set slots i None) q
    ∙ get_cleared slots i q (eq_by_cmp nat_cmp q i) h refl (sym (unsigned_tied q i))
    ∙ sym (get-remove nat_cmp_total (map_of slots) i q ∙ ap (cond (eq_by_cmp nat_cmp q i) None) (get-map_of slots q)))

none_there : {A : Type 0} (n k : ℕ) → entries_from k (replicate {A = Option A} n None) ≡ []
none_there zero k = refl
none_there (suc n) k = none_there n (suc k)

pub map_of-replicate : {A : Type 0} (n : ℕ) → map_of (replicate {A = Option A} n None) ≡ empty
unfolding map_of
map_of-replicate n = ap from_entries (none_there n 0)

-- slots that are all empty hold nothing
pub map_of-empty : {A : Type 0} (slots : List (Option A)) → ((k : ℕ) → k < length slots → get_or slots k None ≡ None)
    → map_of slots ≡ empty
map_of-empty slots h = same_by_get _ _ (λ q. get-map_of slots q ∙ none_at slots q (nat_lt q (length slots)) refl h
    ∙ sym (get-empty nat_cmp q))
  where
    none_at : {A : Type 0} (slots : List (Option A)) (q : ℕ) (b : Bool) → nat_lt q (length slots) ≡ b
        → ((k : ℕ) → k < length slots → get_or slots k None ≡ None) → get_or slots q None ≡ None
    none_at slots q true t h = h q (grind (arith, nat_tests))
    none_at slots q false t h = get_or_past slots q None (grind (arith, nat_tests))

pub get-map_of_past : {A : Type 0} (slots : List (Option A)) (q : ℕ) → length slots ≤ q → get (map_of slots) q ≡ None
get-map_of_past slots q h = get-map_of slots q ∙ get_or_past slots q None h

pub ruleset slots = (get-map_of, get-map_of_past, map_of-set, map_of-clear, map_of-replicate, map_of-empty)
