-- Numbers read and put byte by byte.
use Rattle.std.proofs.Common.{◌≡◌, ℕ, suc, ◌+◌, ◌-◌, ◌*◌, ◌/◌, ◌%◌, ◌^◌, ◌<◌, ◌≤◌, List, length, get_or, Option, Some, Ok, refl, ap, ◌∙◌, arith, lit<}
use Rattle.std.proofs.Math.Nat.{pow-suc, pow-le-pow_right}
use Rattle.std.specs.Prelude.{slice_get}
use Rattle.std.proofs.lemmas.Option.{slice_get-get_or}
use Rattle.bpf_machine.specs.Step.{number_at, with_number}

load_cell : (bytes : ℕ → Option ℕ) (k n m v b : ℕ) → m ≡ suc n → number_at bytes (suc k) n ≡ Ok v → bytes k ≡ Some b
    → number_at bytes k m ≡ Ok (b + 256 * v)
load_cell bytes k n m v b e h g = rw (e, g, h) refl

-- one byte below a number that is read
pub load_more : (bytes : List ℕ) (first count i v : ℕ) → 0 < i → i ≤ count → first + count ≤ length bytes
    → number_at (slice_get bytes) (first + i) (count - i) ≡ Ok v
    → number_at (slice_get bytes) (first + (i - 1)) (count - (i - 1)) ≡ Ok (v * 256 + get_or bytes (first + (i - 1)) 0)
load_more bytes first count i v low high inside h =
    let above : first + i ≡ suc (first + (i - 1)) = omega arith in
    let h' : number_at (slice_get bytes) (suc (first + (i - 1))) (count - i) ≡ Ok v = rw above at h in
    load_cell (slice_get bytes) (first + (i - 1)) (count - i) (count - (i - 1)) v (get_or bytes (first + (i - 1)) 0)
    (omega arith) h'
    (slice_get-get_or bytes (first + (i - 1)) 0 (omega arith)) ∙ ap Ok (omega arith)

-- a number of at most seven bytes
pub few_bytes : (n v : ℕ) → n ≤ 7 → v < 256 ^ n → v < 72057594037927936
few_bytes n v h s = omega (arith, pow-le-pow_right {n = 256} (lit< tt) h)

-- one more byte
pub more_small : (n m v b : ℕ) → m ≡ suc n → v < 256 ^ n → b < 256 → v * 256 + b < 256 ^ m
more_small n m v b e s t = rw (e, pow-suc 256 n) (omega arith)

-- one byte is put, and the rest is put after it
pub store_more : {S : Type 0} (set : S → ℕ → ℕ → S) (bytes : S) (first count i n : ℕ) → i < count
    → with_number set (set bytes (first + i) (n % 256)) (first + (i + 1)) (count - (i + 1))
    (n / 256) ≡ with_number set bytes (first + i) (count - i) n
store_more set bytes first count i n h =
    let one : count - i ≡ suc (count - (i + 1)) = omega arith in
    let next : first + (i + 1) ≡ suc (first + i) = omega arith in
    rw (one, next) refl

pub store_none : {S : Type 0} (set : S → ℕ → ℕ → S) (bytes : S) (k n : ℕ) → with_number set bytes k 0 n ≡ bytes
store_none set bytes k n = refl

pub ruleset loads = (load_more, few_bytes, more_small)

pub ruleset stores = (store_more, store_none)
