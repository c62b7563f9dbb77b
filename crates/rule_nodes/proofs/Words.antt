-- The words of a memory, as the machine loads and stores them.
use Rattle.std.proofs.Common.{◌≡◌, ℕ, suc, ◌+◌, ◌*◌, ◌/◌, ◌%◌, ◌^◌, ◌<◌, ◌≤◌, List, length, All, Some, Ok, slice_get, slice_set, slice_index, refl, ap, ◌∙◌, arith}
use Rattle.std.proofs.Math.ListN.{length-set}
use Rattle.std.proofs.lemmas.Option.{slice_get-get_or}
use Rattle.std.proofs.lemmas.List.Elements.{All-get_or, All-set}
use Rattle.bpf_machine.specs.Step.{number_at, with_number}
use Rattle.rule_meaning.specs.Meaning.{word_at, with_memory_word}

found : (m : List ℕ) (i j : ℕ) → i ≡ j → j < length m → slice_get m i ≡ Some (slice_index m j)
found m i j e lt = ap (slice_get m) e ∙ slice_get-get_or m j 0 lt

pub word_loaded : (k : ℕ) (m : List ℕ) → 4 * k + 4 ≤ length m → number_at (slice_get m) (4 * k) 4 ≡ Ok (word_at k m)
word_loaded k m le =
    let b = 4 * k in
    let e0 : slice_get m b ≡ Some (slice_index m b) = found m b b refl (omega arith) in
    let e1 : slice_get m (suc b) ≡ Some (slice_index m (b + 1)) = found m (suc b) (b + 1) (omega arith) (omega arith) in
    let e2 : slice_get m (suc (suc b)) ≡ Some (slice_index m (b + 2)) = found m (suc (suc b)) (b + 2)
    (omega arith) (omega arith) in
    let e3 : slice_get m (suc (suc (suc b))) ≡ Some (slice_index m (b + 3)) = found m (suc (suc (suc b))) (b + 3)
    (omega arith) (omega arith) in
    rw (e0, e1, e2, e3) (ap Ok (omega arith))

pub word_small : (k : ℕ) (m : List ℕ) → 4 * k + 4 ≤ length m → All (λ byte. byte < 256) m → word_at k m < 2 ^ 32
word_small k m le all =
    let P = λ (byte : ℕ). byte < 256 in
    let b0 : slice_index m (4 * k) < 256 = All-get_or P m (4 * k) 0 (omega arith) all in
    let b1 : slice_index m (4 * k + 1) < 256 = All-get_or P m (4 * k + 1) 0 (omega arith) all in
    let b2 : slice_index m (4 * k + 2) < 256 = All-get_or P m (4 * k + 2) 0 (omega arith) all in
    let b3 : slice_index m (4 * k + 3) < 256 = All-get_or P m (4 * k + 3) 0 (omega arith) all in
    omega arith

pub word_stored : (k v : ℕ) (m : List ℕ) → with_number slice_set m (4 * k) 4 v ≡ with_memory_word k v m
word_stored k v m =
    let p1 : suc (4 * k) ≡ 4 * k + 1 = omega arith in
    let p2 : suc (suc (4 * k)) ≡ 4 * k + 2 = omega arith in
    let p3 : suc (suc (suc (4 * k))) ≡ 4 * k + 3 = omega arith in
    let d3 : v / 256 / 256 / 256 ≡ v / 16777216 = omega arith in
    let d2 : v / 256 / 256 ≡ v / 65536 = omega arith in
    rw (p3, p2, p1, d3, d2) refl

-- of a number that is stored only the low 32 bits count
pub word_low : (k raw v : ℕ) (m : List ℕ) → raw % 2 ^ 32 ≡ v → with_memory_word k raw m ≡ with_memory_word k v m
word_low k raw v m h =
    let e0 : raw % 256 ≡ v % 256 = omega (arith, h) in
    let e1 : raw / 256 % 256 ≡ v / 256 % 256 = omega (arith, h) in
    let e2 : raw / 65536 % 256 ≡ v / 65536 % 256 = omega (arith, h) in
    let e3 : raw / 16777216 % 256 ≡ v / 16777216 % 256 = omega (arith, h) in
    rw (e0, e1, e2, e3) refl

pub word_length : (k v : ℕ) (m : List ℕ) → length (with_memory_word k v m) ≡ length m
word_length k v m =
    let m0 = slice_set m (4 * k) (v % 256) in
    let m1 = slice_set m0 (4 * k + 1) (v / 256 % 256) in
    let m2 = slice_set m1 (4 * k + 2) (v / 65536 % 256) in
    length-set m2 (4 * k + 3) (v / 16777216 % 256) ∙ length-set m1 (4 * k + 2) (v / 65536 % 256)
    ∙ length-set m0 (4 * k + 1) (v / 256 % 256) ∙ length-set m (4 * k) (v % 256)

pub word_bytes : (k v : ℕ) (m : List ℕ) → All (λ byte. byte < 256) m → All (λ byte. byte < 256) (with_memory_word k v m)
word_bytes k v m all =
    let P = λ (byte : ℕ). byte < 256 in
    let m0 = slice_set m (4 * k) (v % 256) in
    let m1 = slice_set m0 (4 * k + 1) (v / 256 % 256) in
    let m2 = slice_set m1 (4 * k + 2) (v / 65536 % 256) in
    All-set P m2 (4 * k + 3) (v / 16777216 % 256) (omega arith)
    (All-set P m1 (4 * k + 2) (v / 65536 % 256) (omega arith)
    (All-set P m0 (4 * k + 1) (v / 256 % 256) (omega arith) (All-set P m (4 * k) (v % 256) (omega arith) all)))
