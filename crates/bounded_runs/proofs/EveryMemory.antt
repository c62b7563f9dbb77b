-- Each memory is alike one of those that are tried.
use Rattle.std.proofs.Common.{◌≡◌, ℕ, zero, suc, ◌+◌, ◌*◌, ◌/◌, ◌%◌, ◌^◌, ◌<◌, Bool, List, [], ◌∷◌, ◌++◌, length, get_or, map, All, Contains, Option, None, unwrap_or, sym, ap, ◌∙◌, subst, arith}
use Rattle.std.specs.Int.{w32, to_le_bytes}
use Rattle.std.proofs.lemmas.List.{get_or_default}
use Rattle.std.proofs.lemmas.List.Elements.{All-nil, All-cons, All-map, All-weaker}
use Rattle.std.proofs.lemmas.Nat.{from_le_bytes-to_le_bytes_4, mod_below}
use Rattle.node_env.specs.declared.env.TheConstants.{NO_MAIL}
use Rattle.bounded_runs.specs.Bounded.{AlikeFrom, AreAlikeMemories, Bound, HoldsZero, is_kept, memory_word}
use Rattle.bounded_runs.specs.inner.Inputs.{rows_of, word_bytes, memory_with}
use Rattle.bounded_runs.proofs.AllRows.{HasZeros, all_flat, all_lengths, all_zeros, at_row_for, contains_map, length-row_for, row_for, row_listed, slot_alike, slot_at_plain, slot_at_small}

length-memory_with : (row : List (Option ℕ)) → length (memory_with row) ≡ 4 * length row
length-memory_with [] = omega arith
length-memory_with (slot ∷ row) = let rest = length-memory_with row in omega (arith, rest)

-- what follows four bytes
past_four : (a b c d : ℕ) (rest : List ℕ) (i j : ℕ) → i ≡ suc (suc (suc (suc j)))
    → get_or (a ∷ b ∷ c ∷ d ∷ rest) i 0 ≡ get_or rest j 0
past_four a b c d rest i j e = ap (λ (n : ℕ). get_or (a ∷ b ∷ c ∷ d ∷ rest) n 0) e

word_first : (n : ℕ) (rest : List ℕ) → n < 2 ^ 32 → memory_word (to_le_bytes w32 n ++ rest) 0 ≡ n
word_first n rest lt = omega (arith, from_le_bytes-to_le_bytes_4 n lt)

word_next : (n k : ℕ) (rest : List ℕ) → memory_word (to_le_bytes w32 n ++ rest) (suc k) ≡ memory_word rest k
word_next n k rest =
    let at = past_four (n % 256) (n / 256 % 256) (n / 65536 % 256) (n / 16777216 % 256) rest in
    let first = at (4 * suc k) (4 * k) (omega arith) in
    let second = at (4 * suc k + 1) (4 * k + 1) (omega arith) in
    let third = at (4 * suc k + 2) (4 * k + 2) (omega arith) in
    let fourth = at (4 * suc k + 3) (4 * k + 3) (omega arith) in
    omega (arith, first, second, third, fourth)

word_of_image : (row : List (Option ℕ)) (k : ℕ) → k < length row
    → unwrap_or (get_or row k None) NO_MAIL < 2 ^ 32
    → memory_word (memory_with row) k ≡ unwrap_or (get_or row k None) NO_MAIL
word_of_image [] k lt small = absurd (omega (arith, lt))
word_of_image (slot ∷ row) zero lt small =
    word_first (unwrap_or slot NO_MAIL) (memory_with row) small
word_of_image (slot ∷ row) (suc k) lt small =
    word_next (unwrap_or slot NO_MAIL) k (memory_with row)
    ∙ word_of_image row k (omega (arith, lt)) small

word_is_bytes : (slot : Option ℕ) → All (λ byte. byte < 256) (word_bytes slot)
word_is_bytes slot =
    let n = unwrap_or slot NO_MAIL in
    let P = λ (byte : ℕ). byte < 256 in
    All-cons P (n % 256) (n / 256 % 256 ∷ n / 65536 % 256 ∷ n / 16777216 % 256 ∷ []) (mod_below n 256 (omega arith))
    (All-cons P (n / 256 % 256) (n / 65536 % 256 ∷ n / 16777216 % 256 ∷ []) (mod_below (n / 256) 256 (omega arith))
    (All-cons P (n / 65536 % 256) (n / 16777216 % 256 ∷ []) (mod_below (n / 65536) 256 (omega arith))
    (All-cons P (n / 16777216 % 256) [] (mod_below (n / 16777216) 256 (omega arith)) (All-nil P))))

image_bytes : (row : List (Option ℕ)) → All (λ byte. byte < 256) (memory_with row)
image_bytes row = all_flat (λ byte. byte < 256) word_bytes row word_is_bytes

-- the memory of the words that represent those of a memory
image_alike : (bound : Bound) (n : ℕ) (m : List ℕ) → bound.number < 2 ^ 32 → length m ≡ 4 * n
    → AreAlikeMemories bound (memory_with (row_for bound (memory_word m) 0 n)) m
image_alike bound n m small size =
    let row = row_for bound (memory_word m) 0 n in
    let count = length-row_for bound (memory_word m) n in
    let bytes = length-memory_with row in
    record {
      size = omega (arith, size, count, bytes);
      words = λ k lt seen.
          let within : k < n = omega (arith, lt, count, bytes) in
          let at = at_row_for bound (memory_word m) n k within in
          let is = word_of_image row k (omega (arith, within, count))
          (subst (λ (slot : Option ℕ). unwrap_or slot NO_MAIL < 2 ^ 32) (sym at)
          (slot_at_small bound k (memory_word m k) small))
          ∙ ap (λ (slot : Option ℕ). unwrap_or slot NO_MAIL) (at ∙ slot_at_plain bound k (memory_word m k) seen) in
          subst (λ (word : ℕ). AlikeFrom bound.number word (memory_word m k)) (sym is)
          (slot_alike bound.number (memory_word m k) small);
    }

whole_words : (memory : ℕ) → memory % 4 ≡ 0 → 4 * (memory / 4) ≡ memory
whole_words memory e = omega arith

pub each_memory : (bound : Bound) (memory : ℕ) (images : List (List ℕ)) → bound.number < 2 ^ 32 → memory % 4 ≡ 0
    → images ≡ map memory_with (rows_of bound 0 (memory / 4)) → (m : List ℕ) → length m ≡ memory
    → (n : ℕ) × (n < length images) × AreAlikeMemories bound (get_or images n []) m
each_memory bound memory images small even is m size =
    let row = row_for bound (memory_word m) 0 (memory / 4) in
    let listed : Contains images (memory_with row) =
    subst (λ (all : List (List ℕ)). Contains all (memory_with row)) (sym is)
    (contains_map memory_with (rows_of bound 0 (memory / 4)) row (row_listed bound (memory_word m) 0 (memory / 4))) in (
      listed.0,
      listed.1,
      subst (λ (image : List ℕ). AreAlikeMemories bound image m)
          (sym (get_or_default images listed.0 [] (memory_with row) listed.1 ∙ listed.2))
          (image_alike bound (memory / 4) m small (size ∙ sym (whole_words memory even))),
    )

pub sized_memories : (bound : Bound) (memory : ℕ) (images : List (List ℕ)) → memory % 4 ≡ 0
    → images ≡ map memory_with (rows_of bound 0 (memory / 4)) → All (λ image. length image ≡ memory) images
sized_memories bound memory images even is = subst (λ (all : List (List ℕ)). All (λ image. length image ≡ memory) all)
    (sym is) (All-map (λ image. length image ≡ memory) memory_with (rows_of bound 0 (memory / 4))
    (All-weaker (λ row. length row ≡ memory / 4) (λ row. length (memory_with row) ≡ memory)
    (λ row e. length-memory_with row ∙ (ap (λ (n : ℕ). 4 * n) e ∙ whole_words memory even))
    (rows_of bound 0 (memory / 4)) (all_lengths bound 0 (memory / 4))))

pub memory_bytes : (bound : Bound) (n : ℕ) (images : List (List ℕ)) → images ≡ map memory_with (rows_of bound 0 n)
    → All (All (λ byte. byte < 256)) images
memory_bytes bound n images is = subst (λ (all : List (List ℕ)). All (All (λ byte. byte < 256)) all) (sym is)
    (All-map (All (λ byte. byte < 256)) memory_with (rows_of bound 0 n)
    (λ k d lt. image_bytes (get_or (rows_of bound 0 n) k d)))

-- the memory of a row whose kept words are 0
image_zero : (kept : List Bool) (row : List (Option ℕ)) → HasZeros kept 0 row → HoldsZero kept (memory_with row)
image_zero kept row zeros k lt e =
    let bytes = length-memory_with row in
    let within : k < length row = omega (arith, lt, bytes) in
    let is = zeros k within (ap (is_kept kept) (let same : 0 + k ≡ k = omega arith in same) ∙ e) in
    let small : unwrap_or (get_or row k None) NO_MAIL < 2 ^ 32 =
    subst (λ (slot : Option ℕ). unwrap_or slot NO_MAIL < 2 ^ 32) (sym is) (omega arith) in
    word_of_image row k within small ∙ ap (λ (slot : Option ℕ). unwrap_or slot NO_MAIL) is

pub memory_zeros : (bound : Bound) (n : ℕ) (images : List (List ℕ)) → images ≡ map memory_with (rows_of bound 0 n)
    → All (HoldsZero bound.kept) images
memory_zeros bound n images is = subst (λ (all : List (List ℕ)). All (HoldsZero bound.kept) all) (sym is)
    (All-map (HoldsZero bound.kept) memory_with (rows_of bound 0 n)
    (All-weaker (HasZeros bound.kept 0) (λ row. HoldsZero bound.kept (memory_with row))
    (λ row zeros. image_zero bound.kept row zeros) (rows_of bound 0 n) (all_zeros bound 0 n)))
