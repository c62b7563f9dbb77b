-- Each result of arithmetic is in the range that the table gives.
use Rattle.std.proofs.Common.{◌≡◌, ℕ, ◌+◌, ◌-◌, ◌*◌, ◌/◌, ◌%◌, ◌^◌, ◌<◌, ◌≤◌, Bool, true, false, cond, min, max, refl, ap, arith, ltb, leb, eqb}
use Rattle.std.specs.Prelude.{◌&&◌, bit_and, bit_or, bit_xor, ℤ, pos}
use Rattle.std.specs.Int.{leading_zeros, w64, int_div_euclid}
use borrow.Author.Tests.{ltb-true, ltb-false, leb-true, eqb-true}
use Rattle.std.proofs.Math.Nat.{mod-lt, mod-le, mod-eq_of_lt, div-le_self, div-mul-le_self, add-mod_right}
use Rattle.std.proofs.lemmas.Nat.{pow_pos, mul-le, and_le_l, and_le_r, le_or_l, le_or_r, or_lt, xor_lt, shr_le, leading_length, le-div, one_shl}
use Rattle.bpf_insn.specs.declared.forms.Width.{Width}
use Rattle.bpf_insn.specs.declared.forms.Width.TheVariants.{W32, W64}
use Rattle.bpf_insn.specs.declared.forms.AluOp.{AluOp}
use Rattle.bpf_insn.specs.declared.forms.AluOp.TheVariants.{Add, Sub, Mul, Div, Sdiv, Or, And, Lsh, Rsh, Mod, Smod, Xor, Mov, Arsh}
use Rattle.bpf_insn.specs.Arithmetic.{bits_of, signed_value, unsigned_value, plain_result, alu_result}
use Rattle.value_range.specs.Span.{Span, span, full_of, is_single, Contains}
use Rattle.value_range.specs.Results.{fitting, ones_of, shifted_right, table, narrowed, alu_of}

-- a fact of a choice, from the fact at each side
pub by_test : {A : Type 0} (P : A → Type 0) (b : Bool) {x y : A} → (b ≡ true → P x) → (b ≡ false → P y) → P (cond b x y)
by_test P true f g = f refl
by_test P false f g = g refl

pub and_true : (a b : Bool) → (a && b) ≡ true → (a ≡ true) × (b ≡ true)
and_true true b h = (refl, h)
and_true false b h = cc

-- the one member of a single range
pub the_member : (a : Span) (x : ℕ) → is_single a ≡ true → Contains a x → x ≡ a.lo
the_member a x t p = let e : a.lo ≡ a.hi = eqb-true a.lo a.hi t in let l = p.low in let h = p.high in omega arith

in_full : (bits n : ℕ) → n < 2 ^ bits → Contains (full_of bits) n
in_full bits n h = record { low = omega arith; high = omega arith }

low_in_full : (bits n : ℕ) → Contains (full_of bits) (n % 2 ^ bits)
low_in_full bits n = in_full bits (n % 2 ^ bits) (mod-lt n (pow_pos bits))

-- a number that fits is its low bits
low_kept : (bits n : ℕ) (a : Span) → n < 2 ^ bits → Contains a n → Contains a (n % 2 ^ bits)
low_kept bits n a small h = rw (mod-eq_of_lt small) h

in_fitting : (bits l h n : ℕ) → l ≤ n → n ≤ h → Contains (fitting bits l h) (n % 2 ^ bits)
in_fitting bits l h n p q =
    by_test (λ (a : Span). Contains a (n % 2 ^ bits)) (ltb h (2 ^ bits))
    (λ t. let lt : h < 2 ^ bits = ltb-true h (2 ^ bits) t in
    low_kept bits n (span l h) (omega arith) (record { low = p; high = q }))
    (λ _. low_in_full bits n)

-- the low bits of a member
low_in_narrowed : (width : Width) (x : ℕ) (a : Span) → Contains a x
    → Contains (narrowed width a) (x % 2 ^ bits_of width)
low_in_narrowed width x a h =
    by_test (λ (s : Span). Contains s (x % 2 ^ bits_of width)) (ltb a.hi (2 ^ bits_of width))
    (λ t. let lt : a.hi < 2 ^ bits_of width = ltb-true a.hi (2 ^ bits_of width) t in let le : x ≤ a.hi = h.high in
    low_kept (bits_of width) x a (omega arith) h)
    (λ _. low_in_full (bits_of width) x)

pub narrowed_below : (width : Width) (a : Span) → (narrowed width a).hi < 2 ^ bits_of width
narrowed_below width a =
    by_test (λ (s : Span). s.hi < 2 ^ bits_of width) (ltb a.hi (2 ^ bits_of width))
    (λ t. ltb-true a.hi (2 ^ bits_of width) t)
    (λ _. let p : 0 < 2 ^ bits_of width = pow_pos (bits_of width) in omega arith)

-- ---- divisions

-- by any number: 0, or the dividend, by 0
abbrev quotient : ℕ → ℕ → ℕ
quotient x y = cond (eqb y 0) 0 (x / y)

abbrev remainder : ℕ → ℕ → ℕ
remainder x y = cond (eqb y 0) x (x % y)

quotient_up : (x y : ℕ) → 0 < y → quotient x y ≡ x / y
quotient_up x y h = by_test (λ n. n ≡ x / y) (eqb y 0) (λ t. let e : y ≡ 0 = eqb-true y 0 t in absurd (omega arith))
    (λ _. refl)

remainder_up : (x y : ℕ) → 0 < y → remainder x y ≡ x % y
remainder_up x y h = by_test (λ n. n ≡ x % y) (eqb y 0) (λ t. let e : y ≡ 0 = eqb-true y 0 t in absurd (omega arith))
    (λ _. refl)

quotient_le : (x y : ℕ) → quotient x y ≤ x
quotient_le x y = by_test (λ n. n ≤ x) (eqb y 0) (λ _. omega arith) (λ _. div-le_self x y)

remainder_le : (x y : ℕ) → remainder x y ≤ x
remainder_le x y = by_test (λ n. n ≤ x) (eqb y 0) (λ _. omega arith) (λ _. mod-le x y)

-- quotients keep the order of what is divided, and turn that of the divisors
pub div_mono : (x u y z : ℕ) → x ≤ u → 0 < y → y ≤ z → x / z ≤ u / y
div_mono x u y z h p k =
    let less_by : (x / z) * y ≤ (x / z) * z = mul-le (x / z) y (x / z) z (omega arith) k in
    let whole : (x / z) * z ≤ x = div-mul-le_self x z in
    le-div (x / z) u y p (omega arith)

-- ---- bits

-- the length of n
pub ones_length : (n : ℕ) → n < 2 ^ 64 → (m : ℕ) × (ones_of n ≡ 2 ^ m - 1) × (n < 2 ^ m) × (2 ^ m ≤ 2 * n + 1)
ones_length n h = let r = leading_length 64 n h in
    (r.0, (let e : 64 - leading_zeros w64 n ≡ r.0 = omega arith in rw e refl), r.2, r.3)

pub below_64 : (width : Width) (n : ℕ) → n < 2 ^ bits_of width → n < 2 ^ 64
below_64 W32 n h = omega arith
below_64 W64 n h = h

or_bound : (x y n : ℕ) → n < 2 ^ 64 → x ≤ n → y ≤ n → bit_or x y ≤ ones_of n
or_bound x y n h p q = let r = ones_length n h in
    let b : bit_or x y < 2 ^ r.0 = or_lt r.0 x y (omega arith) (omega arith) in rw (r.1) (omega arith)

xor_bound : (x y n : ℕ) → n < 2 ^ 64 → x ≤ n → y ≤ n → bit_xor x y ≤ ones_of n
xor_bound x y n h p q = let r = ones_length n h in
    let b : bit_xor x y < 2 ^ r.0 = xor_lt r.0 x y (omega arith) (omega arith) in rw (r.1) (omega arith)

-- ---- shifts to the right

in_shifted : (bits x y : ℕ) (a b : Span) → Contains a x → Contains b y
    → Contains (shifted_right bits a b) (x / 2 ^ (y % bits))
in_shifted bits x y a b p q =
    by_test (λ (s : Span). Contains s (x / 2 ^ (y % bits))) (is_single b)
    (λ t. let d = 2 ^ (b.lo % bits) in let some : 0 < d = pow_pos (b.lo % bits) in
    rw (the_member b y t q) (record {
      low = div_mono a.lo x d d p.low some (omega arith);
      high = div_mono x a.hi d d p.high some (omega arith);
    }))
    (λ _. let h = p.high in let le = shr_le x (y % bits) in record { low = omega arith; high = omega arith })

-- a number without the sign bit
pub signed_small : (bits n : ℕ) → n < 2 ^ (bits - 1) → signed_value bits n ≡ pos n
signed_small bits n h =
    by_test (λ (z : ℤ). z ≡ pos n) (ltb n (2 ^ (bits - 1)))
    (λ _. refl)
    (λ t. let le : 2 ^ (bits - 1) ≤ n = ltb-false n (2 ^ (bits - 1)) t in absurd (omega arith))

arsh_small : (width : Width) (x y : ℕ) → x < 2 ^ (bits_of width - 1)
    → plain_result Arsh width x y ≡ x / 2 ^ (y % bits_of width) % 2 ^ bits_of width
arsh_small width x y h = ap (λ z. unsigned_value (bits_of width) (int_div_euclid z (pos (2 ^ (y % bits_of width)))))
    (signed_small (bits_of width) x h)

-- ---- the table

-- of numbers that fit the width
in_table : (op : AluOp) (width : Width) (x y : ℕ) (a b : Span) → a.hi < 2 ^ bits_of width → b.hi < 2 ^ bits_of width
    → Contains a x → Contains b y → Contains (table op (bits_of width) a b)
    (plain_result op width x y % 2 ^ bits_of width)
in_table Add width x y a b u v p q =
    let pl = p.low in let ph = p.high in let ql = q.low in let qh = q.high in
    in_fitting (bits_of width) (a.lo + b.lo) (a.hi + b.hi) (x + y) (omega arith) (omega arith)
in_table Sub width x y a b u v p q =
    let pl = p.low in let ph = p.high in let ql = q.low in let qh = q.high in
    by_test (λ (s : Span). Contains s ((x + (2 ^ bits_of width - y)) % 2 ^ bits_of width)) (leb b.hi a.lo)
    (λ t. let le : b.hi ≤ a.lo = leb-true b.hi a.lo t in
    let e : x + (2 ^ bits_of width - y) ≡ (x - y) + 2 ^ bits_of width = omega arith in
    rw (e, add-mod_right) (low_kept (bits_of width) (x - y) (span (a.lo - b.hi) (a.hi - b.lo)) (omega arith)
    (record { low = omega arith; high = omega arith })))
    (λ _. low_in_full (bits_of width) (x + (2 ^ bits_of width - y)))
in_table Mul width x y a b u v p q =
    in_fitting (bits_of width) (a.lo * b.lo) (a.hi * b.hi) (x * y) (mul-le a.lo b.lo x y p.low q.low)
    (mul-le x y a.hi b.hi p.high q.high)
in_table Div width x y a b u v p q =
    let pl = p.low in let ph = p.high in let ql = q.low in let qh = q.high in let le = quotient_le x y in
    low_kept (bits_of width) (quotient x y) (table Div (bits_of width) a b) (omega arith)
    (by_test (λ (s : Span). Contains s (quotient x y)) (leb 1 b.lo)
    (λ t. let one : 1 ≤ b.lo = leb-true 1 b.lo t in
    rw (quotient_up x y (omega arith)) (record {
      low = div_mono a.lo x y b.hi pl (omega arith) qh;
      high = div_mono x a.hi b.lo y ph (omega arith) ql;
    }))
    (λ _. record { low = omega arith; high = omega arith }))
in_table Mod width x y a b u v p q =
    let pl = p.low in let ph = p.high in let ql = q.low in let qh = q.high in let le = remainder_le x y in
    low_kept (bits_of width) (remainder x y) (table Mod (bits_of width) a b) (omega arith)
    (by_test (λ (s : Span). Contains s (remainder x y)) (leb 1 b.lo)
    (λ t. let one : 1 ≤ b.lo = leb-true 1 b.lo t in let some : 0 < y = omega arith in
    let lt : remainder x y < y = rw (remainder_up x y some) (mod-lt x some) in
    record { low = omega arith; high = omega arith })
    (λ _. record { low = omega arith; high = omega arith }))
in_table And width x y a b u v p q =
    let ph = p.high in let qh = q.high in let l = and_le_l x y in let r = and_le_r x y in
    low_kept (bits_of width) (bit_and x y) (span 0 (min a.hi b.hi)) (omega arith)
    (record { low = omega arith; high = omega arith })
in_table Or width x y a b u v p q =
    let pl = p.low in let ph = p.high in let ql = q.low in let qh = q.high in let l = le_or_l x y in
    let r = le_or_r x y in
    let m : max a.hi b.hi < 2 ^ bits_of width = omega arith in
    low_kept (bits_of width) (bit_or x y) (span (max a.lo b.lo) (ones_of (max a.hi b.hi)))
    (or_lt (bits_of width) x y (omega arith) (omega arith))
    (record {
      low = omega arith;
      high = or_bound x y (max a.hi b.hi) (below_64 width (max a.hi b.hi) m) (omega arith)
          (omega arith);
    })
in_table Xor width x y a b u v p q =
    let ph = p.high in let qh = q.high in
    let m : max a.hi b.hi < 2 ^ bits_of width = omega arith in
    low_kept (bits_of width) (bit_xor x y) (span 0 (ones_of (max a.hi b.hi)))
    (xor_lt (bits_of width) x y (omega arith) (omega arith))
    (record {
      low = omega arith;
      high = xor_bound x y (max a.hi b.hi) (below_64 width (max a.hi b.hi) m) (omega arith)
          (omega arith);
    })
in_table Lsh width x y a b u v p q =
    by_test (λ (s : Span). Contains s ((x * 2 ^ (y % bits_of width)) % 2 ^ bits_of width)) (is_single b)
    (λ t. let d = 2 ^ (b.lo % bits_of width) in
    rw (the_member b y t q) (in_fitting (bits_of width) (a.lo * d) (a.hi * d) (x * d)
    (mul-le a.lo d x d p.low (omega arith)) (mul-le x d a.hi d p.high (omega arith))))
    (λ _. low_in_full (bits_of width) (x * 2 ^ (y % bits_of width)))
in_table Rsh width x y a b u v p q =
    let h = p.high in let le = shr_le x (y % bits_of width) in
    low_kept (bits_of width) (x / 2 ^ (y % bits_of width)) (shifted_right (bits_of width) a b) (omega arith)
    (in_shifted (bits_of width) x y a b p q)
in_table Arsh width x y a b u v p q =
    by_test (λ (s : Span). Contains s (plain_result Arsh width x y % 2 ^ bits_of width))
    (ltb a.hi (2 ^ (bits_of width - 1)))
    (λ t. let lt : a.hi < 2 ^ (bits_of width - 1) = ltb-true a.hi (2 ^ (bits_of width - 1)) t in
    let h = p.high in let le = shr_le x (y % bits_of width) in let shifted = x / 2 ^ (y % bits_of width) in
    rw (arsh_small width x y (omega arith))
    (low_kept (bits_of width) (shifted % 2 ^ bits_of width) (shifted_right (bits_of width) a b)
    (mod-lt shifted (pow_pos (bits_of width)))
    (low_kept (bits_of width) shifted (shifted_right (bits_of width) a b) (omega arith)
    (in_shifted (bits_of width) x y a b p q))))
    (λ _. low_in_full (bits_of width) (plain_result Arsh width x y))
in_table Mov width x y a b u v p q = let h = q.high in low_kept (bits_of width) y b (omega arith) q
in_table Sdiv width x y a b u v p q = low_in_full (bits_of width) (plain_result Sdiv width x y)
in_table Smod width x y a b u v p q = low_in_full (bits_of width) (plain_result Smod width x y)

-- of all members
pub in_alu : (op : AluOp) (width : Width) (a b : Span) (x y : ℕ) → Contains a x → Contains b y
    → Contains (alu_of op width a b) (alu_result op width x y)
in_alu op width a b x y p q =
    by_test (λ (s : Span). Contains s (alu_result op width x y)) (is_single a && is_single b)
    (λ t. let s = and_true (is_single a) (is_single b) t in
    rw (the_member a x s.0 p, the_member b y s.1 q) (record { low = omega arith; high = omega arith }))
    (λ _. in_table op width (x % 2 ^ bits_of width) (y % 2 ^ bits_of width) (narrowed width a) (narrowed width b)
    (narrowed_below width a) (narrowed_below width b) (low_in_narrowed width x a p) (low_in_narrowed width y b q))

-- ---- what the code needs

ones_cover : (n : ℕ) → n < 2 ^ 64 → n ≤ ones_of n
ones_cover n h = let r = ones_length n h in rw (r.1) (let p : n < 2 ^ r.0 = r.2 in omega arith)

pub ones_cover_shifted : (n : ℕ) → n < 2 ^ 64 → n ≤ 1 * 2 ^ (64 - leading_zeros w64 n) % 2 ^ 128 - 1
ones_cover_shifted n h = rw (one_shl (64 - leading_zeros w64 n) 128 (omega arith)) (ones_cover n h)
