-- Sets of stack bytes, through each change of their words.
use Rattle.std.proofs.Common.{◌≡◌, ◌≢◌, ℕ, zero, suc, ◌/◌, ◌%◌, ◌*◌, ◌^◌, ◌<◌, ◌≤◌, min, true, false, not, ◌&&◌, ◌||◌, ◌==◌, List, [], ◌∷◌, length, slice_index_or, slice_set, replicate, bit_and, bit_or, refl, sym, ap, ◌∙◌, subst, inl, inr, arith, w64}
use Rattle.std.specs.Int.{bit_at, bit_not}
use Rattle.std.proofs.lemmas.Nat.Bits.{bit_at_and, bit_at_clear_same, bit_at_clear_other, bit_at_set_same, bit_at_set_other, bit_at-zero, bit_at-lt, shr_and_one}
use Rattle.std.proofs.lemmas.List.{get_or-set_same, get_or-set_other, get_or_past}
use Rattle.std.proofs.lemmas.Bool.{cases_eq, cases_lt}
use borrow.Author.Tests.{ne_eqb, eq-eqb}
use Rattle.bpf_verify.specs.inner.Marks.{is_marked}

zero_at : (n place : ℕ) → slice_index_or (replicate n zero) place zero ≡ zero
zero_at zero place = refl
zero_at (suc n) zero = refl
zero_at (suc n) (suc place) = zero_at n place

pub none_marked : (byte : ℕ) → is_marked (0 ∷ 0 ∷ 0 ∷ 0 ∷ 0 ∷ 0 ∷ 0 ∷ 0 ∷ []) byte ≡ false
unfolding is_marked
none_marked byte = ap (λ n. bit_at n (byte % 64) == 1) (zero_at 8 (byte / 64))
    ∙ ap (λ n. n == 1) (bit_at-zero (byte % 64))

pub found_marked : (words : List ℕ) (byte : ℕ) →
    (bit_and (slice_index_or words (byte / 64) 0 / 2 ^ (byte % 64)) 1 == 1) ≡ is_marked words byte
unfolding is_marked
found_marked words byte = ap (λ n. n == 1) (shr_and_one (slice_index_or words (byte / 64) 0) (byte % 64))

-- the words after a byte is added
abbrev pub with_byte : List ℕ → ℕ → List ℕ
with_byte words byte = slice_set words (byte / 64)
    (bit_or (slice_index_or words (byte / 64) 0) (1 * 2 ^ (byte % 64) % 2 ^ 64))

added_same : (words : List ℕ) (byte : ℕ) → byte / 64 < length words → is_marked (with_byte words byte) byte ≡ true
unfolding is_marked
added_same words byte h =
    rw (
      get_or-set_same words (byte / 64) (bit_or (slice_index_or words (byte / 64) 0) (1 * 2 ^ (byte % 64) % 2 ^ 64))
          0 h,
      bit_at_set_same w64 (slice_index_or words (byte / 64) 0) (byte % 64) (omega arith),
    ) refl

added_other : (words : List ℕ) (byte other : ℕ) → byte / 64 < length words → other ≢ byte
    → is_marked (with_byte words byte) other ≡ is_marked words other
unfolding is_marked
added_other words byte other h apart =
    let word = bit_or (slice_index_or words (byte / 64) 0) (1 * 2 ^ (byte % 64) % 2 ^ 64) in
    elim (cases_eq (other / 64) (byte / 64)) [
      | inl e ↦
          let same : slice_index_or (slice_set words (byte / 64) word) (other / 64) 0 ≡ word = ap
          (λ k. slice_index_or (slice_set words (byte / 64) word) k 0) e
          ∙ get_or-set_same words (byte / 64) word 0 h in
          let bits : bit_at word (other % 64) ≡ bit_at (slice_index_or words (byte / 64) 0) (other % 64) =
          bit_at_set_other w64 (slice_index_or words (byte / 64) 0) (byte % 64) (omega arith) (other % 64)
          (λ f. apart (omega arith)) in
          ap (λ n. bit_at n (other % 64) == 1) same ∙ ap (λ n. n == 1) bits
          ∙ ap (λ k. bit_at (slice_index_or words k 0) (other % 64) == 1) (sym e)
      | inr n ↦ ap (λ n. bit_at n (other % 64) == 1) (get_or-set_other words (byte / 64) (other / 64) word 0 n)
    ]

pub added_marked : (words : List ℕ) (byte other : ℕ) → byte / 64 < length words
    → is_marked (with_byte words byte) other ≡ ((other == byte) || is_marked words other)
added_marked words byte other h =
    elim (cases_eq other byte) [
      | inl e ↦ rw (eq-eqb other byte e) (subst (λ k. is_marked (with_byte words byte) k ≡ true) (sym e)
          (added_same words byte h))
      | inr n ↦ rw (ne_eqb other byte n) (added_other words byte other h n)
    ]

-- the words after a byte is taken out
abbrev pub without_byte : List ℕ → ℕ → List ℕ
without_byte words byte = slice_set words (byte / 64)
    (bit_and (slice_index_or words (byte / 64) 0) (bit_not w64 (1 * 2 ^ (byte % 64) % 2 ^ 64)))

taken_same : (words : List ℕ) (byte : ℕ) → byte / 64 < length words → is_marked (without_byte words byte) byte ≡ false
unfolding is_marked
taken_same words byte h =
    rw (
      get_or-set_same words (byte / 64)
          (bit_and (slice_index_or words (byte / 64) 0) (bit_not w64 (1 * 2 ^ (byte % 64) % 2 ^ 64))) 0 h,
      bit_at_clear_same w64 (slice_index_or words (byte / 64) 0) (byte % 64) (omega arith),
    ) refl

taken_other : (words : List ℕ) (byte other : ℕ) → byte / 64 < length words → other ≢ byte
    → is_marked (without_byte words byte) other ≡ is_marked words other
unfolding is_marked
taken_other words byte other h apart =
    let word = bit_and (slice_index_or words (byte / 64) 0) (bit_not w64 (1 * 2 ^ (byte % 64) % 2 ^ 64)) in
    elim (cases_eq (other / 64) (byte / 64)) [
      | inl e ↦
          let same : slice_index_or (slice_set words (byte / 64) word) (other / 64) 0 ≡ word = ap
          (λ k. slice_index_or (slice_set words (byte / 64) word) k 0) e
          ∙ get_or-set_same words (byte / 64) word 0 h in
          let bits : bit_at word (other % 64) ≡ bit_at (slice_index_or words (byte / 64) 0) (other % 64) =
          bit_at_clear_other w64 (slice_index_or words (byte / 64) 0) (byte % 64) (omega arith) (other % 64)
          (omega arith) (λ f. apart (omega arith)) in
          ap (λ n. bit_at n (other % 64) == 1) same ∙ ap (λ n. n == 1) bits
          ∙ ap (λ k. bit_at (slice_index_or words k 0) (other % 64) == 1) (sym e)
      | inr n ↦ ap (λ n. bit_at n (other % 64) == 1) (get_or-set_other words (byte / 64) (other / 64) word 0 n)
    ]

pub taken_marked : (words : List ℕ) (byte other : ℕ) → byte / 64 < length words
    → is_marked (without_byte words byte) other ≡ (not (other == byte) && is_marked words other)
taken_marked words byte other h =
    elim (cases_eq other byte) [
      | inl e ↦ rw (eq-eqb other byte e) (subst (λ k. is_marked (without_byte words byte) k ≡ false) (sym e)
          (taken_same words byte h))
      | inr n ↦ rw (ne_eqb other byte n) (taken_other words byte other h n)
    ]

-- two bits, each 0 or 1
both_bits : (a b : ℕ) → a < 2 → b < 2 → (min a b == 1) ≡ ((a == 1) && (b == 1))
both_bits zero zero h k = refl
both_bits zero (suc zero) h k = refl
both_bits zero (suc (suc b)) h k = absurd (omega arith)
both_bits (suc zero) zero h k = refl
both_bits (suc zero) (suc zero) h k = refl
both_bits (suc zero) (suc (suc b)) h k = absurd (omega arith)
both_bits (suc (suc a)) b h k = absurd (omega arith)

pub common_marked : (words others both : List ℕ) (count : ℕ) → length words ≤ count
    → ((k : ℕ) → k < count → slice_index_or both k 0 ≡ bit_and (slice_index_or words k 0) (slice_index_or others k 0))
    → ((k : ℕ) → count ≤ k → slice_index_or both k 0 ≡ slice_index_or words k 0)
    → (byte : ℕ) → is_marked both byte ≡ (is_marked words byte && is_marked others byte)
unfolding is_marked
common_marked words others both count few done left byte =
    let a = slice_index_or words (byte / 64) 0 in
    let b = slice_index_or others (byte / 64) 0 in
    elim (cases_lt (byte / 64) count) [
      | inl h ↦
          ap (λ n. bit_at n (byte % 64) == 1) (done (byte / 64) h) ∙ ap (λ n. n == 1) (bit_at_and a b (byte % 64))
          ∙ both_bits (bit_at a (byte % 64)) (bit_at b (byte % 64)) (bit_at-lt a (byte % 64)) (bit_at-lt b (byte % 64))
      | inr h ↦
          let past : a ≡ 0 = get_or_past words (byte / 64) 0 (omega arith) in
          let clear : (bit_at a (byte % 64) == 1) ≡ false = ap (λ n. bit_at n (byte % 64) == 1) past
          ∙ ap (λ n. n == 1) (bit_at-zero (byte % 64)) in
          ap (λ n. bit_at n (byte % 64) == 1) (left (byte / 64) h) ∙ clear
          ∙ ap (λ t. t && (bit_at b (byte % 64) == 1)) (sym clear)
    ]
