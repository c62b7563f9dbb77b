-- A condition keeps each pair of members that it holds of.
use Rattle.std.proofs.Common.{◌≡◌, ◌≢◌, ℕ, ◌-◌, ◌^◌, ◌<◌, ◌≤◌, Bool, true, false, cond, min, max, refl, sym, arith, ltb, leb, eqb}
use Rattle.std.specs.Prelude.{◌&&◌, Option, Some, None, IsSomeAnd, ℤ, pos, negsuc, int_lt, int_le}
use borrow.Author.Tests.{ltb-true, ltb-false, leb-true, leb-false, eqb-true, eqb-false, not-true, not-false, le-leb, lt-ltb}
use Rattle.std.proofs.Math.Nat.{mod-eq_of_lt}
use Rattle.bpf_insn.specs.declared.forms.Width.{Width}
use Rattle.bpf_insn.specs.declared.forms.Cond.{Cond}
use Rattle.bpf_insn.specs.declared.forms.Cond.TheVariants.{Eq, Gt, Ge, Set, Ne, Sgt, Sge, Lt, Le, Slt, Sle}
use Rattle.bpf_insn.specs.Arithmetic.{bits_of, signed_value, compares, holds}
use Rattle.value_range.specs.Span.{Span, is_single, meet_of, Contains}
use Rattle.value_range.specs.Conditions.{less, at_most, turned, both, without, signed, refined, on_way, decided, branch_of}
use Rattle.value_range.proofs.InTable.{by_test, and_true, the_member, signed_small}

-- both numbers are in the pair
abbrev pub Keeps : ℕ → ℕ → Option (Span × Span) → Type 0
Keeps x y r = IsSomeAnd r (λ p. Contains p.0 x × Contains p.1 y)

in_meet : (x : ℕ) (a b : Span) → Contains a x → Contains b x → IsSomeAnd (meet_of a b) (λ m. Contains m x)
in_meet x a b p q =
    let pl = p.low in let ph = p.high in let ql = q.low in let qh = q.high in
    by_test (λ o. IsSomeAnd o (λ (m : Span). Contains m x)) (leb (max a.lo b.lo) (min a.hi b.hi))
    (λ t. record { low = omega arith; high = omega arith })
    (λ t. absurd (let f : min a.hi b.hi < max a.lo b.lo = leb-false (max a.lo b.lo) (min a.hi b.hi) t in omega arith))

in_less : (x y : ℕ) (a b : Span) → Contains a x → Contains b y → x < y → Keeps x y (less a b)
in_less x y a b p q h =
    let pl = p.low in let ph = p.high in let ql = q.low in let qh = q.high in
    by_test (Keeps x y) (ltb a.lo b.hi)
    (λ t. (record { low = omega arith; high = omega arith }, record { low = omega arith; high = omega arith }))
    (λ t. absurd (let f : b.hi ≤ a.lo = ltb-false a.lo b.hi t in omega arith))

in_at_most : (x y : ℕ) (a b : Span) → Contains a x → Contains b y → x ≤ y → Keeps x y (at_most a b)
in_at_most x y a b p q h =
    let pl = p.low in let ph = p.high in let ql = q.low in let qh = q.high in
    by_test (Keeps x y) (leb a.lo b.hi)
    (λ t. (record { low = omega arith; high = omega arith }, record { low = omega arith; high = omega arith }))
    (λ t. absurd (let f : b.hi < a.lo = leb-false a.lo b.hi t in omega arith))

in_turned : (x y : ℕ) (r : Option (Span × Span)) → Keeps x y r → Keeps y x (turned r)
in_turned x y None h = h
in_turned x y (Some p) h = (h.1, h.0)

in_both : (x : ℕ) (r : Option Span) → IsSomeAnd r (λ m. Contains m x) → Keeps x x (both r)
in_both x None h = h
in_both x (Some m) h = (h, h)

in_without : (x y : ℕ) (a b : Span) → Contains a x → Contains b y → (x ≡ y → ⊥) → Contains (without a b) x
in_without x y a b p q h =
    let pl = p.low in let ph = p.high in
    let P : Span → Type 0 = λ s. Contains s x in
    by_test P (is_single b)
    (λ t. let e : y ≡ b.lo = the_member b y t q in
    by_test P (eqb a.lo b.lo)
    (λ u. let f : a.lo ≡ b.lo = eqb-true a.lo b.lo u in let g : x ≢ y = h in
    record { low = omega arith; high = omega arith })
    (λ _. by_test P (eqb a.hi b.lo)
    (λ u. let f : a.hi ≡ b.lo = eqb-true a.hi b.lo u in let g : x ≢ y = h in
    record { low = omega arith; high = omega arith })
    (λ _. p)))
    (λ _. p)

-- a signed condition, from the unsigned one of numbers without the sign bit
in_signed : (bits x y : ℕ) (a b : Span) (pair : Option (Span × Span)) → Contains a x → Contains b y
    → (signed_value bits x ≡ pos x → signed_value bits y ≡ pos y → Keeps x y pair) → Keeps x y (signed bits a b pair)
in_signed bits x y a b pair p q h =
    by_test (Keeps x y) (ltb a.hi (2 ^ (bits - 1)) && ltb b.hi (2 ^ (bits - 1)))
    (λ t. let s = and_true (ltb a.hi (2 ^ (bits - 1))) (ltb b.hi (2 ^ (bits - 1))) t in
    let i : a.hi < 2 ^ (bits - 1) = ltb-true a.hi (2 ^ (bits - 1)) s.0 in
    let j : b.hi < 2 ^ (bits - 1) = ltb-true b.hi (2 ^ (bits - 1)) s.1 in
    let k = p.high in let l = q.high in
    h (signed_small bits x (omega arith)) (signed_small bits y (omega arith)))
    (λ _. (p, q))

-- the pair where the condition holds
in_refined : (cond : Cond) (bits x y : ℕ) (a b : Span) → Contains a x → Contains b y → compares cond bits x y ≡ true
    → Keeps x y (refined cond bits a b)
in_refined Eq bits x y a b p q h = let e : x ≡ y = eqb-true x y h in
    rw (← e) (in_both x (meet_of a b) (in_meet x a b p (rw e q)))
in_refined Ne bits x y a b p q h = let n : x ≡ y → ⊥ = eqb-false x y (not-true (eqb x y) h) in
    (in_without x y a b p q n, in_without y x b a q p (λ e. n (sym e)))
in_refined Set bits x y a b p q h = (p, q)
in_refined Lt bits x y a b p q h = in_less x y a b p q (ltb-true x y h)
in_refined Le bits x y a b p q h = in_at_most x y a b p q (leb-true x y h)
in_refined Gt bits x y a b p q h = in_turned y x (less b a) (in_less y x b a q p (ltb-true y x h))
in_refined Ge bits x y a b p q h = in_turned y x (at_most b a) (in_at_most y x b a q p (leb-true y x h))
in_refined Slt bits x y a b p q h = in_signed bits x y a b (less a b) p q
    (λ e f. in_less x y a b p q (ltb-true x y (rw (e, f) at h)))
in_refined Sle bits x y a b p q h = in_signed bits x y a b (at_most a b) p q
    (λ e f. in_at_most x y a b p q (leb-true x y (rw (e, f) at h)))
in_refined Sgt bits x y a b p q h =
    in_signed bits x y a b (turned (less b a)) p q
    (λ e f. in_turned y x (less b a) (in_less y x b a q p (ltb-true y x (rw (e, f) at h))))
in_refined Sge bits x y a b p q h =
    in_signed bits x y a b (turned (at_most b a)) p q
    (λ e f. in_turned y x (at_most b a) (in_at_most y x b a q p (leb-true y x (rw (e, f) at h))))

not_less : (a b : ℤ) → int_lt a b ≡ false → int_le b a ≡ true
not_less (pos a) (pos b) h = le-leb b a (ltb-false a b h)
not_less (pos a) (negsuc b) h = refl
not_less (negsuc a) (pos b) h = cc
not_less (negsuc a) (negsuc b) h = le-leb a b (ltb-false b a h)

not_at_most : (a b : ℤ) → int_le a b ≡ false → int_lt b a ≡ true
not_at_most (pos a) (pos b) h = lt-ltb b a (leb-false a b h)
not_at_most (pos a) (negsuc b) h = refl
not_at_most (negsuc a) (pos b) h = cc
not_at_most (negsuc a) (negsuc b) h = lt-ltb a b (leb-false b a h)

-- the pair on a way
in_way : (taken : Bool) (cond : Cond) (bits x y : ℕ) (a b : Span) → Contains a x → Contains b y
    → compares cond bits x y ≡ taken
    → Keeps x y (refined (on_way taken cond) bits a b)
in_way true cond bits x y a b p q h = in_refined cond bits x y a b p q h
in_way false Eq bits x y a b p q h = in_refined Ne bits x y a b p q (rw h refl)
in_way false Ne bits x y a b p q h = in_refined Eq bits x y a b p q (not-false (eqb x y) h)
in_way false Set bits x y a b p q h = (p, q)
in_way false Lt bits x y a b p q h = in_refined Ge bits x y a b p q (le-leb y x (ltb-false x y h))
in_way false Le bits x y a b p q h = in_refined Gt bits x y a b p q (lt-ltb y x (leb-false x y h))
in_way false Gt bits x y a b p q h = in_refined Le bits x y a b p q (le-leb x y (ltb-false y x h))
in_way false Ge bits x y a b p q h = in_refined Lt bits x y a b p q (lt-ltb x y (leb-false y x h))
in_way false Slt bits x y a b p q h = in_refined Sge bits x y a b p q
    (not_less (signed_value bits x) (signed_value bits y) h)
in_way false Sle bits x y a b p q h = in_refined Sgt bits x y a b p q
    (not_at_most (signed_value bits x) (signed_value bits y) h)
in_way false Sgt bits x y a b p q h = in_refined Sle bits x y a b p q
    (not_less (signed_value bits y) (signed_value bits x) h)
in_way false Sge bits x y a b p q h = in_refined Slt bits x y a b p q
    (not_at_most (signed_value bits y) (signed_value bits x) h)

in_decided : (cond : Cond) (width : Width) (a b : Span) (taken : Bool) (x y : ℕ) → Contains a x → Contains b y
    → holds cond width a.lo b.lo ≡ taken
    → Keeps x y (decided cond width a b taken)
in_decided cond width a b true x y p q h = rw h (p, q)
in_decided cond width a b false x y p q h = rw h (p, q)

-- of all members that the condition falls so for
pub in_branch : (cond : Cond) (width : Width) (a b : Span) (taken : Bool) (x y : ℕ) → Contains a x → Contains b y
    → holds cond width x y ≡ taken
    → Keeps x y (branch_of cond width a b taken)
in_branch cond width a b taken x y p q h =
    by_test (Keeps x y) (is_single a && is_single b)
    (λ t. let s = and_true (is_single a) (is_single b) t in
    in_decided cond width a b taken x y p q (rw (the_member a x s.0 p, the_member b y s.1 q) at h))
    (λ _. by_test (Keeps x y) (ltb a.hi (2 ^ bits_of width) && ltb b.hi (2 ^ bits_of width))
    (λ t. let s = and_true (ltb a.hi (2 ^ bits_of width)) (ltb b.hi (2 ^ bits_of width)) t in
    let i : a.hi < 2 ^ bits_of width = ltb-true a.hi (2 ^ bits_of width) s.0 in
    let j : b.hi < 2 ^ bits_of width = ltb-true b.hi (2 ^ bits_of width) s.1 in
    let k = p.high in let l = q.high in
    let m : x < 2 ^ bits_of width = omega arith in
    let n : y < 2 ^ bits_of width = omega arith in
    in_way taken cond (bits_of width) x y a b p q (rw (mod-eq_of_lt m, mod-eq_of_lt n) at h))
    (λ _. (p, q)))
