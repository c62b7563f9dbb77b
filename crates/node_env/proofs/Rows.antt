-- Rows of words, one after another, as the finite maps of the numbers in them.
use Rattle.std.specs.Prelude.{◌≡◌, ◌≢◌, ℕ, zero, suc, ◌+◌, ◌*◌, ◌<◌, ◌≤◌, ◌^◌, ◌==◌, Bool, true, false, if◌then◌else◌, All, List, [], ◌∷◌, length, map, take, drop, Option, Some, None, refl, replicate, nat_lt, slice_set}
use Rattle.std.specs.Ordering.{nat_cmp}
use Rattle.std.specs.FinMap.{FinMap, empty, get, insert}
use Rattle.std.proofs.Common.{sym, ◌∙◌, ap, subst, arith, get_or, length-drop}
use Rattle.std.specs.List.{range_with_len}
use Rattle.std.proofs.lemmas.List.{ext_get_or, get_or-take, get_or-drop, get_or_past, get_or_default, get_or-replicate, get_or-set_other, length-take-le, length-map, length-replicate, length-set, map-set, get_or-map}
use Rattle.std.proofs.lemmas.List.FromFn.{fill_by_all, get_or-map-range_with_len, length-map-range_with_len}
use Rattle.std.proofs.lemmas.Grind.{get_or-set_at}
use Rattle.std.proofs.lemmas.List.Elements.{All-map}
use Rattle.std.proofs.lemmas.Bool.Decides.{nat_tests}
use Rattle.std.proofs.Math.Nat.{mul-le-mul_right}
use Rattle.node_env.specs.declared.word.TheConstants.{EMPTY}
use Rattle.node_env.specs.Env.{AreNumbers, inbox_of}
use Rattle.node_env.specs.Slots.{map_of}
use Rattle.node_env.specs.inner.Slots.{IsSlotWord, word_slot, numbers_of, slot_word_at, words_row, rows_of}
use Rattle.node_env.proofs.Slots.{get-map_of, map_of-replicate, map_of-set}

-- the slot of a word at a place is what the map holds there
pub get-numbers_of : (words : List ℕ) (q d : ℕ) → q < length words
    → get (numbers_of words) q ≡ word_slot (get_or words q d)
get-numbers_of words q d h = get-map_of (map word_slot words) q ∙ at words q h
  where
    at : (words : List ℕ) (q : ℕ) → q < length words → get_or (map word_slot words) q None ≡ word_slot (get_or words q d)
    at [] q h = absurd (omega arith)
    at (w ∷ ws) zero h = refl
    at (w ∷ ws) (suc q) h = at ws q (omega arith)

pub get-numbers_of_past : (words : List ℕ) (q : ℕ) → length words ≤ q → get (numbers_of words) q ≡ None
get-numbers_of_past words q h = get-map_of (map word_slot words) q
    ∙ get_or_past (map word_slot words) q None (rw length-map h)

-- an empty row
map-replicate : (n : ℕ) → map word_slot (replicate n EMPTY) ≡ replicate n None
map-replicate zero = refl
map-replicate (suc n) = ap (λ xs. None ∷ xs) (map-replicate n)

pub numbers_of-empty : (n : ℕ) → numbers_of (replicate n EMPTY) ≡ empty
numbers_of-empty n = rw (map-replicate n) (map_of-replicate n)

pub length-rows_of : (n : ℕ) (words : List ℕ) → length (rows_of n words) ≡ n
unfolding rows_of
length-rows_of n words = length-map-range_with_len (words_row n words) 0 n

-- a sender's row, and a receiver's word there
get-rows_of_row : (n s : ℕ) (words : List ℕ) → s < n → get_or (rows_of n words) s empty ≡ words_row n words s
unfolding rows_of
get-rows_of_row n s words low = get_or-map-range_with_len (words_row n words) 0 n s s empty low (omega arith)

within_square : (n s r : ℕ) → s < n → r < n → r * n + s < n * n
within_square n s r low inner = let line : suc r * n ≤ n * n = mul-le-mul_right n inner in omega arith

get-row_of : (n s r : ℕ) (words : List ℕ) → r < n → get (words_row n words s) r ≡ word_slot (slot_word_at n words s r)
get-row_of n s r words inner =
    get-numbers_of (map (slot_word_at n words s) (range_with_len 0 n)) r EMPTY
    (rw (length-map-range_with_len (slot_word_at n words s) 0 n) inner)
    ∙ ap word_slot (get_or-map-range_with_len (slot_word_at n words s) 0 n r r EMPTY inner (omega arith))

pub get-rows_of : (n s r d : ℕ) (words : List ℕ) → s < n → r < n → length words ≡ n * n
    → get (get_or (rows_of n words) s empty) r ≡ word_slot (get_or words (r * n + s) d)
get-rows_of n s r d words low inner whole =
    ap (λ row. get row r) (get-rows_of_row n s words low) ∙ get-row_of n s r words inner
    ∙ ap word_slot (get_or_default words (r * n + s) EMPTY d (omega (arith, within_square n s r low inner)))

-- nothing was sent
empty_row : (n s : ℕ) → s < n → words_row n (replicate (n * n) EMPTY) s ≡ empty
empty_row n s low =
    ap numbers_of (sym (fill_by_all (slot_word_at n (replicate (n * n) EMPTY) s) (replicate n EMPTY) n EMPTY
    (length-replicate n EMPTY) (λ r inner. get_or-replicate n r EMPTY EMPTY inner
    ∙ sym (get_or-replicate (n * n) (r * n + s) EMPTY EMPTY (within_square n s r low inner)))))
    ∙ numbers_of-empty n

pub rows_of-empty : (n : ℕ) → rows_of n (replicate (n * n) EMPTY) ≡ replicate n empty
unfolding rows_of
rows_of-empty n = sym (fill_by_all (words_row n (replicate (n * n) EMPTY)) (replicate n empty) n empty
    (length-replicate n empty) (λ s low. get_or-replicate n s empty empty low ∙ sym (empty_row n s low)))

-- after a sender's row was written up to a receiver: its words are there, and others are as they were
pub record IsWritten (n s k : ℕ) (old row new : List ℕ) : Type 0 where
  pub there : (r : ℕ) → r < k → get_or new (r * n + s) EMPTY ≡ get_or row r EMPTY
  pub kept : (t r : ℕ) → t < n → t ≢ s → get_or new (r * n + t) EMPTY ≡ get_or old (r * n + t) EMPTY

-- two places in different columns
other_place : (n r t k s : ℕ) → t < n → s < n → t ≢ s → r * n + t ≢ k * n + s
other_place n r t k s low inner differ e = by (nat_lt r k) (nat_lt k r) refl refl
  where
    by : (b c : Bool) → nat_lt r k ≡ b → nat_lt k r ≡ c → ⊥
    by true c before after = let line : suc r * n ≤ k * n = mul-le-mul_right n (grind (arith, nat_tests)) in omega arith
    by false true before after =
        let line : suc k * n ≤ r * n = mul-le-mul_right n (grind (arith, nat_tests)) in omega arith
    by false false before after =
        let same : r ≡ k = grind (arith, nat_tests) in
        let lines : r * n ≡ k * n = ap (λ q. q * n) same in
        differ (omega arith)

pub written_none : (n s : ℕ) (old row : List ℕ) → IsWritten n s 0 old row old
written_none n s old row = record { there = λ r low. absurd (omega arith); kept = λ t r low differ. refl }

-- one more word
pub written_more : (n s k : ℕ) (old row new : List ℕ) → s < n → k < n → length new ≡ n * n → k < length row
    → IsWritten n s k old row new → IsWritten n s (k + 1) old row (slice_set new (k * n + s) (get_or row k 0))
written_more n s k old row new inner line whole long before = record {
  there = λ r low. at r low (nat_lt r k) refl;
  kept = λ t r low differ. get_or-set_other new (k * n + s) (r * n + t) (get_or row k 0) EMPTY
      (other_place n r t k s low inner differ) ∙ before.kept t r low differ;
}
  where
    at : (r : ℕ) → r < k + 1 → (b : Bool) → nat_lt r k ≡ b
        → get_or (slice_set new (k * n + s) (get_or row k 0)) (r * n + s) EMPTY ≡ get_or row r EMPTY
    at r low true t =
        let below : r < k = grind (arith, nat_tests) in
        let lines : suc r * n ≤ k * n = mul-le-mul_right n below in
        get_or-set_other new (k * n + s) (r * n + s) (get_or row k 0) EMPTY (λ e. omega arith) ∙ before.there r below
    at r low false t =
        let same : r ≡ k = grind (arith, nat_tests) in
        get_or-set_at new (k * n + s) (r * n + s) (get_or row k 0) EMPTY (ap (λ q. q * n + s) same)
        (omega (arith, within_square n s k inner line))
        ∙ get_or_default row k 0 EMPTY long ∙ ap (λ q. get_or row q EMPTY) (sym same)

-- the whole row
written_row : (n s : ℕ) (old row new : List ℕ) → length row ≡ n → IsWritten n s n old row new
    → numbers_of row ≡ words_row n new s
written_row n s old row new whole done = ap numbers_of (fill_by_all (slot_word_at n new s) row n EMPTY whole
    (λ r low. sym (done.there r low)))

kept_row : (n s t : ℕ) (old row new : List ℕ) → t < n → t ≢ s → IsWritten n s n old row new
    → words_row n old t ≡ words_row n new t
kept_row n s t old row new low differ done =
    ap numbers_of (fill_by_all (slot_word_at n new t) (map (slot_word_at n old t) (range_with_len 0 n)) n EMPTY
    (length-map-range_with_len (slot_word_at n old t) 0 n)
    (λ r inner. get_or-map-range_with_len (slot_word_at n old t) 0 n r r EMPTY inner (omega arith)
    ∙ sym (done.kept t r low differ)))

pub rows_of-written : (n s : ℕ) (old row new : List ℕ) → s < n → length row ≡ n → IsWritten n s n old row new
    → rows_of n new ≡ slice_set (rows_of n old) s (numbers_of row)
unfolding rows_of
rows_of-written n s old row new inner whole done =
    sym (fill_by_all (words_row n new) (slice_set (rows_of n old) s (numbers_of row)) n empty
    (length-set (rows_of n old) s (numbers_of row) ∙ length-rows_of n old)
    (λ t low. at t low (t == s) refl))
  where
    at : (t : ℕ) → t < n → (b : Bool) → (t == s) ≡ b
        → get_or (slice_set (rows_of n old) s (numbers_of row)) t empty ≡ words_row n new t
    at t low true e =
        let same : t ≡ s = grind (arith, nat_tests) in
        get_or-set_at (rows_of n old) s t (numbers_of row) empty same (omega (arith, length-rows_of n old))
        ∙ written_row n s old row new whole done ∙ ap (words_row n new) (sym same)
    at t low false e =
        let differ : t ≢ s = (λ is. grind (arith, nat_tests)) in
        get_or-set_other (rows_of n old) s t (numbers_of row) empty differ ∙ get-rows_of_row n t old low
        ∙ kept_row n s t old row new low differ done

-- the numbers of a row
pub numbers-words : (n : ℕ) (words : List ℕ) → length words ≤ n → AreNumbers n (numbers_of words)
numbers-words n words few j v e = held (nat_lt j (length words)) refl
  where
    word_fits : (w v : ℕ) (b : Bool) → nat_lt w EMPTY ≡ b → (if b then Some w else None) ≡ Some v → v < 2 ^ 32
    word_fits w v true t e = let same : w ≡ v = cc in grind (arith, nat_tests)
    word_fits w v false t e = cc

    held : (b : Bool) → nat_lt j (length words) ≡ b → (j < n) × (v < 2 ^ 32)
    held true t =
        let low : j < length words = grind (arith, nat_tests) in
        let word : word_slot (get_or words j 0) ≡ Some v = sym (get-numbers_of words j 0 low) ∙ e in
        (omega arith, word_fits (get_or words j 0) v (nat_lt (get_or words j 0) EMPTY) refl word)
    held false t = let past : None ≡ Some v = sym (get-numbers_of_past words j (grind (arith, nat_tests))) ∙ e in cc

pub rows-numbers : (n : ℕ) (words : List ℕ) → All (AreNumbers n) (rows_of n words)
unfolding rows_of
rows-numbers n words = All-map (AreNumbers n) (words_row n words) (range_with_len 0 n)
    (λ s d low. numbers-words n (map (slot_word_at n words (get_or (range_with_len 0 n) s d)) (range_with_len 0 n))
    (omega (arith, length-map-range_with_len (slot_word_at n words (get_or (range_with_len 0 n) s d)) 0 n)))

-- the words to a receiver are its inbox
pub inbox_words : (n r : ℕ) (words : List ℕ) → r < n → length words ≡ n * n
    → numbers_of (take n (drop (r * n) words)) ≡ inbox_of r (rows_of n words)
inbox_words n r words inner whole =
    ap map_of (ext_get_or None (map word_slot line) (map (λ row. get row r) (rows_of n words))
    (length-map line word_slot ∙ long ∙ sym (length-map (rows_of n words) (λ (row : FinMap nat_cmp ℕ). get row r)
    ∙ length-rows_of n words)) (λ s low. at s (omega (arith, length-map line word_slot, long))))
  where
    line : List ℕ
    line = take n (drop (r * n) words)

    lines : suc r * n ≤ n * n
    lines = mul-le-mul_right n inner

    long : length line ≡ n
    long = length-take-le n (drop (r * n) words) (omega (arith, length-drop (r * n) words, lines))

    at : (s : ℕ) → s < n → get_or (map word_slot line) s None ≡ get_or (map (λ row. get row r) (rows_of n words)) s None
    at s low =
        get_or-map word_slot line s 0 None (omega (arith, long))
        ∙ ap word_slot (get_or-take n (drop (r * n) words) s 0 low ∙ get_or-drop (r * n) words s 0)
        ∙ sym (get_or-map (λ (row : FinMap nat_cmp ℕ). get row r) (rows_of n words) s empty None
        (omega (arith, length-rows_of n words))
        ∙ get-rows_of n s r 0 words low inner whole)

-- words that stand for the same slots are the same
same_word : (w v : ℕ) (b c : Bool) → nat_lt w EMPTY ≡ b → nat_lt v EMPTY ≡ c → IsSlotWord w → IsSlotWord v
    → (if b then Some w else None) ≡ (if c then Some v else None) → w ≡ v
same_word w v true true s t low high e = cc
same_word w v true false s t low high e = cc
same_word w v false true s t low high e = cc
same_word w v false false s t low high e = grind (arith, nat_tests)

pub same_words : (xs ys : List ℕ) → length xs ≡ length ys → All IsSlotWord xs → All IsSlotWord ys
    → numbers_of xs ≡ numbers_of ys → xs ≡ ys
same_words xs ys long left right e = ext_get_or 0 xs ys long (λ i low.
    same_word (get_or xs i 0) (get_or ys i 0) (nat_lt (get_or xs i 0) EMPTY) (nat_lt (get_or ys i 0) EMPTY) refl refl
    (left i 0 low) (right i 0 (omega arith))
    (sym (get-numbers_of xs i 0 low) ∙ ap (λ m. get m i) e ∙ get-numbers_of ys i 0 (omega arith)))

-- a number that is written
pub numbers_of-set : (words : List ℕ) (i v : ℕ) → i < length words → v < 2 ^ 32
    → numbers_of (slice_set words i v) ≡ insert (numbers_of words) i v
numbers_of-set words i v low small =
    let number : word_slot v ≡ Some v = some_number v (nat_lt v EMPTY) refl small in
    rw (map-set word_slot words i v, number) (map_of-set {A = ℕ} (map word_slot words) i v (rw length-map low))
  where
    some_number : (v : ℕ) (b : Bool) → nat_lt v EMPTY ≡ b → v < 2 ^ 32 → (if b then Some v else None) ≡ Some v
    some_number v true t small = refl
    some_number v false t small = absurd (grind (arith, nat_tests))

pub length-square : (n : ℕ) (words : List ℕ) (rows : List (FinMap nat_cmp ℕ)) → rows_of n words ≡ rows
    → length rows ≡ n
length-square n words rows e = subst (λ rows. length rows ≡ n) e (length-rows_of n words)

pub ruleset words = (get-numbers_of, get-numbers_of_past, numbers_of-empty)

-- an inbox has at each place what that sender sent
pub inbox_slot : (inbox : List (Option ℕ)) (rows : List (FinMap nat_cmp ℕ)) (sender receiver : ℕ)
    → sender < length rows → map_of inbox ≡ inbox_of receiver rows
    → get_or inbox sender None ≡ get (get_or rows sender empty) receiver
inbox_slot inbox rows sender receiver low e =
    sym (get-map_of inbox sender) ∙ ap (λ m. get m sender) e ∙ get-map_of (map (λ row. get row receiver) rows) sender
    ∙ get_or-map (λ (row : FinMap nat_cmp ℕ). get row receiver) rows sender empty None low
