-- Of smaller ranges a condition leaves less.
use Rattle.std.proofs.Common.{◌≡◌, ◌≢◌, ℕ, ◌+◌, ◌-◌, ◌^◌, ◌<◌, ◌≤◌, Bool, true, false, cond, min, max, sym, ◌∙◌, arith, ltb, leb, eqb}
use Rattle.std.specs.Prelude.{◌&&◌, Option, Some, None, IsSomeAnd}
use borrow.Author.Tests.{ltb-true, ltb-false, leb-true, leb-false, eqb-true, eqb-false, eq-eqb, both_ways, lt-ltb}
use Rattle.bpf_insn.specs.declared.forms.Width.{Width}
use Rattle.bpf_insn.specs.declared.forms.Cond.{Cond}
use Rattle.bpf_insn.specs.declared.forms.Cond.TheVariants.{Eq, Gt, Ge, Set, Ne, Sgt, Sge, Lt, Le, Slt, Sle}
use Rattle.bpf_insn.specs.Arithmetic.{bits_of, holds}
use Rattle.value_range.specs.Span.{Span, span, is_single, meet_of, Contains, HasMembers, IsInside}
use Rattle.value_range.specs.Conditions.{less, at_most, turned, both, without, refined, on_way, decided, branch_of, ArePairsInside, IsOptionInside}
use Rattle.value_range.proofs.InTable.{by_test, and_true}
use Rattle.value_range.proofs.InBranch.{in_branch}
use Rattle.value_range.proofs.Growing.{by_tests, both_true, single_inside, single_below, up}

less_grows : (a b c d : Span) → IsInside a c → IsInside b d → ArePairsInside (less a b) (less c d)
less_grows a b c d i j =
    let x = i.low in let y = i.high in let z = j.low in let t = j.high in
    by_tests ArePairsInside (ltb a.lo b.hi) (ltb c.lo d.hi)
    (λ f g. (record { low = omega arith; high = omega arith }, record { low = omega arith; high = omega arith }))
    (λ f g. let k : a.lo < b.hi = ltb-true a.lo b.hi f in let l : d.hi ≤ c.lo = ltb-false c.lo d.hi g in
    absurd (omega arith))
    (λ f g. tt)
    (λ f g. tt)

at_most_grows : (a b c d : Span) → IsInside a c → IsInside b d → ArePairsInside (at_most a b) (at_most c d)
at_most_grows a b c d i j =
    let x = i.low in let y = i.high in let z = j.low in let t = j.high in
    by_tests ArePairsInside (leb a.lo b.hi) (leb c.lo d.hi)
    (λ f g. (record { low = omega arith; high = omega arith }, record { low = omega arith; high = omega arith }))
    (λ f g. let k : a.lo ≤ b.hi = leb-true a.lo b.hi f in let l : d.hi < c.lo = leb-false c.lo d.hi g in
    absurd (omega arith))
    (λ f g. tt)
    (λ f g. tt)

turned_grows : (p q : Option (Span × Span)) → ArePairsInside p q → ArePairsInside (turned p) (turned q)
turned_grows None q h = tt
turned_grows (Some p) None h = absurd h
turned_grows (Some p) (Some q) h = (h.1, h.0)

pub meet_grows : (a b c d : Span) → IsInside a c → IsInside b d → IsOptionInside (meet_of a b) (meet_of c d)
meet_grows a b c d i j =
    let x = i.low in let y = i.high in let z = j.low in let t = j.high in
    by_tests IsOptionInside (leb (max a.lo b.lo) (min a.hi b.hi)) (leb (max c.lo d.lo) (min c.hi d.hi))
    (λ f g. record { low = omega arith; high = omega arith })
    (λ f g. let k : max a.lo b.lo ≤ min a.hi b.hi = leb-true (max a.lo b.lo) (min a.hi b.hi) f in
    let l : min c.hi d.hi < max c.lo d.lo = leb-false (max c.lo d.lo) (min c.hi d.hi) g in absurd (omega arith))
    (λ f g. tt)
    (λ f g. tt)

both_grow : (m n : Option Span) → IsOptionInside m n → ArePairsInside (both m) (both n)
both_grow None n h = tt
both_grow (Some m) None h = absurd h
both_grow (Some m) (Some n) h = (h, h)

inside_self : (a : Span) → IsInside a a
inside_self a = record { low = omega arith; high = omega arith }

inside_trans : (a b c : Span) → IsInside a b → IsInside b c → IsInside a c
inside_trans a b c i j = let x = i.low in let y = i.high in let z = j.low in let t = j.high in
    record { low = omega arith; high = omega arith }

-- at most one end goes
without_inside : (a b : Span) → IsInside (without a b) a
without_inside a b =
    let P : Span → Type 0 = λ s. IsInside s a in
    by_test P (is_single b)
    (λ _. by_test P (eqb a.lo b.lo) (λ _. record { low = omega arith; high = omega arith })
    (λ _. by_test P (eqb a.hi b.lo) (λ _. record { low = omega arith; high = omega arith }) (λ _. inside_self a)))
    (λ _. inside_self a)

-- c without v, where that is an end
abbrev pub without_number : Span → ℕ → Span
without_number c v = cond (eqb c.lo v) (span (c.lo + 1) c.hi) (cond (eqb c.hi v) (span c.lo (c.hi - 1)) c)

-- where b is the single number of d
without_at : (a b c d : Span) → HasMembers a → IsInside a c → b.lo ≡ d.lo → b.hi ≡ d.lo
    → ((is_single a && is_single b) ≡ true → ⊥)
    → IsInside (without a b) (without_number c d.lo)
without_at a b c d p i e f n =
    let x = i.low in let y = i.high in let o = p.ordered in
    let s : is_single b ≡ true = eq-eqb b.lo b.hi (e ∙ sym f) in
    by_test (λ s. IsInside (without a b) s) (eqb c.lo d.lo)
    (λ g. let k : c.lo ≡ d.lo = eqb-true c.lo d.lo g in
    by_test (λ s. IsInside s (span (c.lo + 1) c.hi)) (is_single b)
    (λ _. by_test (λ s. IsInside s (span (c.lo + 1) c.hi)) (eqb a.lo b.lo)
    (λ u. let l : a.lo ≡ b.lo = eqb-true a.lo b.lo u in record { low = omega arith; high = omega arith })
    (λ u. let l : a.lo ≢ b.lo = eqb-false a.lo b.lo u in
    by_test (λ s. IsInside s (span (c.lo + 1) c.hi)) (eqb a.hi b.lo)
    (λ w. let q : a.hi ≡ b.lo = eqb-true a.hi b.lo w in record { low = omega arith; high = omega arith })
    (λ w. record { low = omega arith; high = omega arith })))
    (λ u. absurd (both_ways (is_single b) u s)))
    (λ g. by_test (λ s. IsInside (without a b) s) (eqb c.hi d.lo)
    (λ h. let k : c.hi ≡ d.lo = eqb-true c.hi d.lo h in
    by_test (λ s. IsInside s (span c.lo (c.hi - 1))) (is_single b)
    (λ _. by_test (λ s. IsInside s (span c.lo (c.hi - 1))) (eqb a.lo b.lo)
    (λ u. let l : a.lo ≡ b.lo = eqb-true a.lo b.lo u in
    absurd (n (both_true (is_single a) (is_single b) (eq-eqb a.lo a.hi (omega arith)) s)))
    (λ u. by_test (λ s. IsInside s (span c.lo (c.hi - 1))) (eqb a.hi b.lo)
    (λ w. let q : a.hi ≡ b.lo = eqb-true a.hi b.lo w in record { low = omega arith; high = omega arith })
    (λ w. let q : a.hi ≢ b.lo = eqb-false a.hi b.lo w in record { low = omega arith; high = omega arith })))
    (λ u. absurd (both_ways (is_single b) u s)))
    (λ _. inside_trans (without a b) a c (without_inside a b) i))

without_grows : (a b c d : Span) → HasMembers a → HasMembers b → IsInside a c → IsInside b d
    → ((is_single a && is_single b) ≡ true → ⊥)
    → IsInside (without a b) (without c d)
without_grows a b c d p q i j n =
    by_test (λ s. IsInside (without a b) s) (is_single d)
    (λ t. let e = single_inside b d q j t in without_at a b c d p i e.0 e.1 n)
    (λ _. inside_trans (without a b) a c (without_inside a b) i)

-- a pair where both ranges end below n, else the ranges themselves
abbrev guarded : ℕ → Span → Span → Option (Span × Span) → Option (Span × Span)
guarded n a b pair = cond (ltb a.hi n && ltb b.hi n) pair (Some (a, b))

guarded_inside : (n : ℕ) (a b c d : Span) (p : Option (Span × Span)) → IsInside a c → IsInside b d
    → ArePairsInside p (Some (c, d))
    → ArePairsInside (guarded n a b p) (Some (c, d))
guarded_inside n a b c d p i j h = by_test (λ o. ArePairsInside o (Some (c, d))) (ltb a.hi n && ltb b.hi n) (λ _. h)
    (λ _. (i, j))

guarded_grows : (n : ℕ) (a b c d : Span) (p q : Option (Span × Span)) → IsInside a c → IsInside b d
    → ArePairsInside p q → ArePairsInside p (Some (c, d))
    → ArePairsInside (guarded n a b p) (guarded n c d q)
guarded_grows n a b c d p q i j h k =
    by_tests ArePairsInside (ltb a.hi n && ltb b.hi n) (ltb c.hi n && ltb d.hi n)
    (λ f g. h)
    (λ f g. k)
    (λ f g. absurd (let e = and_true (ltb c.hi n) (ltb d.hi n) g in
    let s : c.hi < n = ltb-true c.hi n e.0 in let t : d.hi < n = ltb-true d.hi n e.1 in
    let x = i.high in let y = j.high in
    both_ways (ltb a.hi n && ltb b.hi n) f (both_true (ltb a.hi n) (ltb b.hi n) (lt-ltb a.hi n (omega arith))
    (lt-ltb b.hi n (omega arith)))))
    (λ f g. (i, j))

less_inside : (a b c d : Span) → IsInside a c → IsInside b d → ArePairsInside (less a b) (Some (c, d))
less_inside a b c d i j =
    let x = i.low in let y = i.high in let z = j.low in let t = j.high in
    by_test (λ o. ArePairsInside o (Some (c, d))) (ltb a.lo b.hi)
    (λ _. (record { low = omega arith; high = omega arith }, record { low = omega arith; high = omega arith }))
    (λ _. tt)

at_most_inside : (a b c d : Span) → IsInside a c → IsInside b d → ArePairsInside (at_most a b) (Some (c, d))
at_most_inside a b c d i j =
    let x = i.low in let y = i.high in let z = j.low in let t = j.high in
    by_test (λ o. ArePairsInside o (Some (c, d))) (leb a.lo b.hi)
    (λ _. (record { low = omega arith; high = omega arith }, record { low = omega arith; high = omega arith }))
    (λ _. tt)

meet_inside : (a b c d : Span) → IsInside a c → IsInside b d → ArePairsInside (both (meet_of a b)) (Some (c, d))
meet_inside a b c d i j =
    let x = i.low in let y = i.high in let z = j.low in let t = j.high in
    by_test (λ o. ArePairsInside (both o) (Some (c, d))) (leb (max a.lo b.lo) (min a.hi b.hi))
    (λ _. (record { low = omega arith; high = omega arith }, record { low = omega arith; high = omega arith }))
    (λ _. tt)

greater_inside : (a b c d : Span) → IsInside a c → IsInside b d → ArePairsInside (turned (less b a)) (Some (c, d))
greater_inside a b c d i j = turned_grows (less b a) (Some (d, c)) (less_inside b a d c j i)

at_least_inside : (a b c d : Span) → IsInside a c → IsInside b d → ArePairsInside (turned (at_most b a)) (Some (c, d))
at_least_inside a b c d i j = turned_grows (at_most b a) (Some (d, c)) (at_most_inside b a d c j i)

-- a condition only takes away
refined_inside : (cond : Cond) (bits : ℕ) (a b c d : Span) → IsInside a c → IsInside b d
    → ArePairsInside (refined cond bits a b) (Some (c, d))
refined_inside Eq bits a b c d i j = meet_inside a b c d i j
refined_inside Ne bits a b c d i j = (
  inside_trans (without a b) a c (without_inside a b) i,
  inside_trans
      (without b a) b d (without_inside b a) j,
)
refined_inside Set bits a b c d i j = (i, j)
refined_inside Lt bits a b c d i j = less_inside a b c d i j
refined_inside Le bits a b c d i j = at_most_inside a b c d i j
refined_inside Gt bits a b c d i j = greater_inside a b c d i j
refined_inside Ge bits a b c d i j = at_least_inside a b c d i j
refined_inside Slt bits a b c d i j = guarded_inside (2 ^ (bits - 1)) a b c d (less a b) i j (less_inside a b c d i j)
refined_inside Sle bits a b c d i j = guarded_inside (2 ^ (bits - 1)) a b c d (at_most a b) i j
    (at_most_inside a b c d i j)
refined_inside Sgt bits a b c d i j = guarded_inside (2 ^ (bits - 1)) a b c d (turned (less b a)) i j
    (greater_inside a b c d i j)
refined_inside Sge bits a b c d i j = guarded_inside (2 ^ (bits - 1)) a b c d (turned (at_most b a)) i j
    (at_least_inside a b c d i j)

swapped : (a b : Bool) → (b && a) ≡ true → (a && b) ≡ true
swapped a b e = let p = and_true b a e in both_true a b p.1 p.0

greater_grows : (a b c d : Span) → IsInside a c → IsInside b d → ArePairsInside (turned (less b a)) (turned (less d c))
greater_grows a b c d i j = turned_grows (less b a) (less d c) (less_grows b a d c j i)

at_least_grows : (a b c d : Span) → IsInside a c → IsInside b d
    → ArePairsInside (turned (at_most b a)) (turned (at_most d c))
at_least_grows a b c d i j = turned_grows (at_most b a) (at_most d c) (at_most_grows b a d c j i)

refined_grows : (cond : Cond) (bits : ℕ) (a b c d : Span) → HasMembers a → HasMembers b → IsInside a c → IsInside b d
    → ((is_single a && is_single b) ≡ true → ⊥)
    → ArePairsInside (refined cond bits a b) (refined cond bits c d)
refined_grows Eq bits a b c d p q i j n = both_grow (meet_of a b) (meet_of c d) (meet_grows a b c d i j)
refined_grows Ne bits a b c d p q i j n = (
  without_grows a b c d p q i j n,
  without_grows b a d c q p j i
      (λ e. n (swapped (is_single a) (is_single b) e)),
)
refined_grows Set bits a b c d p q i j n = (i, j)
refined_grows Lt bits a b c d p q i j n = less_grows a b c d i j
refined_grows Le bits a b c d p q i j n = at_most_grows a b c d i j
refined_grows Gt bits a b c d p q i j n = greater_grows a b c d i j
refined_grows Ge bits a b c d p q i j n = at_least_grows a b c d i j
refined_grows Slt bits a b c d p q i j n =
    guarded_grows (2 ^ (bits - 1)) a b c d (less a b) (less c d) i j (less_grows a b c d i j) (less_inside a b c d i j)
refined_grows Sle bits a b c d p q i j n =
    guarded_grows (2 ^ (bits - 1)) a b c d (at_most a b) (at_most c d) i j (at_most_grows a b c d i j)
    (at_most_inside a b c d i j)
refined_grows Sgt bits a b c d p q i j n =
    guarded_grows (2 ^ (bits - 1)) a b c d (turned (less b a)) (turned (less d c)) i j (greater_grows a b c d i j)
    (greater_inside a b c d i j)
refined_grows Sge bits a b c d p q i j n =
    guarded_grows (2 ^ (bits - 1)) a b c d (turned (at_most b a)) (turned (at_most d c)) i j
    (at_least_grows a b c d i j) (at_least_inside a b c d i j)

-- two single ranges are inside what holds their members
pair_of : (a b : Span) (o : Option (Span × Span)) → (is_single a ≡ true) × (is_single b ≡ true)
    → IsSomeAnd o (λ p. Contains p.0 a.lo × Contains p.1 b.lo)
    → ArePairsInside (Some (a, b)) o
pair_of a b None s h = absurd h
pair_of a b (Some p) s h =
    let e : a.lo ≡ a.hi = eqb-true a.lo a.hi s.0 in let f : b.lo ≡ b.hi = eqb-true b.lo b.hi s.1 in
    let x = h.0.low in let y = h.0.high in let z = h.1.low in let t = h.1.high in
    (record { low = omega arith; high = omega arith }, record { low = omega arith; high = omega arith })

decided_grows : (cond : Cond) (width : Width) (a b : Span) (taken : Bool) (o : Option (Span × Span))
    → (holds cond width a.lo b.lo ≡ taken → ArePairsInside (Some (a, b)) o)
    → ArePairsInside (decided cond width a b taken) o
decided_grows cond width a b true o h = by_test (λ r. ArePairsInside r o) (holds cond width a.lo b.lo) h (λ _. tt)
decided_grows cond width a b false o h = by_test (λ r. ArePairsInside r o) (holds cond width a.lo b.lo) (λ _. tt) h

pub branch_grows : (cond : Cond) (width : Width) (a b c d : Span) (taken : Bool) → HasMembers a → HasMembers b
    → IsInside a c → IsInside b d
    → ArePairsInside (branch_of cond width a b taken) (branch_of cond width c d taken)
branch_grows cond width a b c d taken p q i j =
    let pair = guarded (2 ^ bits_of width) a b (refined (on_way taken cond) (bits_of width) a b) in
    by_test (λ o. ArePairsInside o (branch_of cond width c d taken)) (is_single a && is_single b)
    (λ s. decided_grows cond width a b taken (branch_of cond width c d taken) (λ h.
    pair_of a b (branch_of cond width c d taken) (and_true (is_single a) (is_single b) s)
    (in_branch cond width c d taken a.lo b.lo (record { low = i.low; high = up a c p i })
    (record { low = j.low; high = up b d q j }) h)))
    (λ s. let n : (is_single a && is_single b) ≡ true → ⊥ = λ e. both_ways (is_single a && is_single b) s e in
    by_test (λ o. ArePairsInside pair o) (is_single c && is_single d)
    (λ t. absurd (let e = and_true (is_single c) (is_single d) t in
    n (both_true (is_single a) (is_single b) (single_below a c p i e.0) (single_below b d q j e.1))))
    (λ _. guarded_grows (2 ^ bits_of width) a b c d (refined (on_way taken cond) (bits_of width) a b)
    (refined (on_way taken cond) (bits_of width) c d) i j
    (refined_grows (on_way taken cond) (bits_of width) a b c d p q i j n)
    (refined_inside (on_way taken cond) (bits_of width) a b c d i j)))
