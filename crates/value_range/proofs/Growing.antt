-- Of smaller ranges the table gives a smaller range.
use Rattle.std.proofs.Common.{◌≡◌, ℕ, suc, ◌+◌, ◌-◌, ◌*◌, ◌%◌, ◌^◌, ◌<◌, ◌≤◌, Bool, true, false, cond, max, refl, sym, ◌∙◌, arith, ltb, leb, inl, inr}
use Rattle.std.specs.Prelude.{◌&&◌}
use borrow.Author.Tests.{ltb-true, ltb-false, leb-true, leb-false, eqb-true, eq-eqb, both_ways}
use Rattle.std.proofs.Math.Nat.{div-le_self, pow-suc, pow-le-pow_right}
use Rattle.std.proofs.lemmas.Bool.{cases_lt}
use Rattle.std.proofs.lemmas.Nat.{pow_pos, mul-le, shr_le}
use Rattle.bpf_insn.specs.declared.forms.Width.{Width}
use Rattle.bpf_insn.specs.declared.forms.AluOp.{AluOp}
use Rattle.bpf_insn.specs.declared.forms.AluOp.TheVariants.{Add, Sub, Mul, Div, Sdiv, Or, And, Lsh, Rsh, Mod, Smod, Xor, Mov, Arsh}
use Rattle.bpf_insn.specs.declared.forms.MovsxKind.{MovsxKind}
use Rattle.bpf_insn.specs.declared.forms.Order.{Order}
use Rattle.bpf_insn.specs.declared.forms.SwapBits.{SwapBits}
use Rattle.bpf_insn.specs.Arithmetic.{bits_of, neg_result, movsx_result, movsx_width, swap_result, swap_bit_count}
use Rattle.bpf_insn.proofs.ResultLaws.{neg_fits, movsx_fits, swap_fits}
use Rattle.value_range.specs.Span.{Span, span, just, full_of, is_single, hull_of, HasMembers, IsInside}
use Rattle.value_range.specs.Results.{fitting, ones_of, shifted_right, table, narrowed, alu_of, neg_of, movsx_of, swap_of}
use Rattle.value_range.proofs.InTable.{by_test, and_true, in_alu, div_mono, narrowed_below, ones_length, below_64}

-- a fact of two choices
pub by_tests : {A B : Type 0} (P : A → B → Type 0) (b c : Bool) {x y : A} {u v : B} → (b ≡ true → c ≡ true → P x u)
    → (b ≡ true → c ≡ false → P x v)
    → (b ≡ false → c ≡ true → P y u) → (b ≡ false → c ≡ false → P y v) → P (cond b x y) (cond c u v)
by_tests P true true f g h k = f refl refl
by_tests P true false f g h k = g refl refl
by_tests P false true f g h k = h refl refl
by_tests P false false f g h k = k refl refl

pub both_true : (a b : Bool) → a ≡ true → b ≡ true → (a && b) ≡ true
both_true a b e f = rw (e, f) refl

-- a single range has nothing smaller
pub single_inside : (a c : Span) → HasMembers a → IsInside a c → is_single c ≡ true → (a.lo ≡ c.lo) × (a.hi ≡ c.lo)
single_inside a c p i t = let e : c.lo ≡ c.hi = eqb-true c.lo c.hi t in let l = i.low in let h = i.high in
    let o = p.ordered in (omega arith, omega arith)

pub single_below : (a c : Span) → HasMembers a → IsInside a c → is_single c ≡ true → is_single a ≡ true
single_below a c p i t = let e = single_inside a c p i t in eq-eqb a.lo a.hi (e.0 ∙ sym e.1)

pub up : (a c : Span) → HasMembers a → IsInside a c → a.lo ≤ c.hi
up a c p i = let x = p.ordered in let y = i.high in omega arith

inside_full : (bits : ℕ) (a : Span) → a.hi < 2 ^ bits → IsInside a (full_of bits)
inside_full bits a h = record { low = omega arith; high = omega arith }

fitting_grows : (bits l h m k : ℕ) → m ≤ l → h ≤ k → IsInside (fitting bits l h) (fitting bits m k)
fitting_grows bits l h m k p q =
    by_tests IsInside (ltb h (2 ^ bits)) (ltb k (2 ^ bits))
    (λ s t. record { low = p; high = q })
    (λ s t. inside_full bits (span l h) (ltb-true h (2 ^ bits) s))
    (λ s t. absurd (let x : 2 ^ bits ≤ h = ltb-false h (2 ^ bits) s in
    let y : k < 2 ^ bits = ltb-true k (2 ^ bits) t in omega arith))
    (λ s t. record { low = omega arith; high = omega arith })

narrowed_grows : (width : Width) (a c : Span) → IsInside a c → IsInside (narrowed width a) (narrowed width c)
narrowed_grows width a c i =
    let n = 2 ^ bits_of width in let low = i.low in let high = i.high in
    by_tests IsInside (ltb a.hi n) (ltb c.hi n)
    (λ s t. i)
    (λ s t. inside_full (bits_of width) a (ltb-true a.hi n s))
    (λ s t. absurd (let x : n ≤ a.hi = ltb-false a.hi n s in let y : c.hi < n = ltb-true c.hi n t in omega arith))
    (λ s t. record { low = omega arith; high = omega arith })

narrowed_members : (width : Width) (a : Span) → HasMembers a → HasMembers (narrowed width a)
narrowed_members width a p = by_test HasMembers (ltb a.hi (2 ^ bits_of width)) (λ _. p)
    (λ _. record { ordered = omega arith })

ones_grow : (n m : ℕ) → m < 2 ^ 64 → n ≤ m → ones_of n ≤ ones_of m
ones_grow n m h p =
    let a = ones_length n (omega arith) in let b = ones_length m h in
    let c = a.2 in let d = a.3 in let e = b.2 in
    elim (cases_lt b.0 a.0) [
      | inl l ↦ absurd (let q : 2 ^ suc b.0 ≤ 2 ^ a.0 = pow-le-pow_right {n = 2} (omega arith) l in
          let r : 2 ^ suc b.0 ≡ 2 ^ b.0 * 2 = pow-suc 2 b.0 in omega arith)
      | inr l ↦ (let q : 2 ^ a.0 ≤ 2 ^ b.0 = pow-le-pow_right {n = 2} (omega arith) l in rw (a.1, b.1) (omega arith))
    ]

shifted_below : (bits : ℕ) (a b : Span) → (shifted_right bits a b).hi ≤ a.hi
shifted_below bits a b = by_test (λ (s : Span). s.hi ≤ a.hi) (is_single b) (λ _. shr_le a.hi (b.lo % bits))
    (λ _. omega arith)

shifted_grows : (bits : ℕ) (a b c d : Span) → HasMembers b → IsInside a c → IsInside b d
    → IsInside (shifted_right bits a b) (shifted_right bits c d)
shifted_grows bits a b c d q i j =
    let y = i.high in
    by_tests IsInside (is_single b) (is_single d)
    (λ f g. let e = single_inside b d q j g in let factor = 2 ^ (d.lo % bits) in
    let some : 0 < factor = pow_pos (d.lo % bits) in
    rw (e.0) (record {
      low = div_mono c.lo a.lo factor factor i.low some (omega arith);
      high = div_mono a.hi c.hi factor factor i.high some (omega arith);
    }))
    (λ f g. let k = shr_le a.hi (b.lo % bits) in record { low = omega arith; high = omega arith })
    (λ f g. absurd (both_ways (is_single b) f (single_below b d q j g)))
    (λ f g. record { low = omega arith; high = omega arith })

table_grows : (op : AluOp) (width : Width) (a b c d : Span) → HasMembers a → HasMembers b → c.hi < 2 ^ bits_of width
    → d.hi < 2 ^ bits_of width
    → IsInside a c → IsInside b d → IsInside (table op (bits_of width) a b) (table op (bits_of width) c d)
table_grows Add width a b c d p q u v i j =
    let x = i.low in let y = i.high in let z = j.low in let t = j.high in
    fitting_grows (bits_of width) (a.lo + b.lo) (a.hi + b.hi) (c.lo + d.lo) (c.hi + d.hi) (omega arith) (omega arith)
table_grows Sub width a b c d p q u v i j =
    let x = i.low in let y = i.high in let z = j.low in let t = j.high in let o = p.ordered in
    by_tests IsInside (leb b.hi a.lo) (leb d.hi c.lo)
    (λ f g. record { low = omega arith; high = omega arith })
    (λ f g. inside_full (bits_of width) (span (a.lo - b.hi) (a.hi - b.lo)) (omega arith))
    (λ f g. absurd (let k : a.lo < b.hi = leb-false b.hi a.lo f in let l : d.hi ≤ c.lo = leb-true d.hi c.lo g in
    omega arith))
    (λ f g. record { low = omega arith; high = omega arith })
table_grows Mul width a b c d p q u v i j =
    fitting_grows (bits_of width) (a.lo * b.lo) (a.hi * b.hi) (c.lo * d.lo) (c.hi * d.hi)
    (mul-le c.lo d.lo a.lo b.lo i.low j.low) (mul-le a.hi b.hi c.hi d.hi i.high j.high)
table_grows Div width a b c d p q u v i j =
    let x = i.low in let y = i.high in let z = j.low in let t = j.high in let o = q.ordered in
    by_tests IsInside (leb 1 b.lo) (leb 1 d.lo)
    (λ f g. let k : 1 ≤ b.lo = leb-true 1 b.lo f in let l : 1 ≤ d.lo = leb-true 1 d.lo g in
    record {
      low = div_mono c.lo a.lo b.hi d.hi x (omega arith) t;
      high = div_mono a.hi c.hi d.lo b.lo y (omega arith) z;
    })
    (λ f g. let k = div-le_self a.hi b.lo in record { low = omega arith; high = omega arith })
    (λ f g. absurd (let k : b.lo < 1 = leb-false 1 b.lo f in let l : 1 ≤ d.lo = leb-true 1 d.lo g in omega arith))
    (λ f g. record { low = omega arith; high = omega arith })
table_grows Mod width a b c d p q u v i j =
    let x = i.low in let y = i.high in let z = j.low in let t = j.high in
    by_tests IsInside (leb 1 b.lo) (leb 1 d.lo)
    (λ f g. record { low = omega arith; high = omega arith })
    (λ f g. record { low = omega arith; high = omega arith })
    (λ f g. absurd (let k : b.lo < 1 = leb-false 1 b.lo f in let l : 1 ≤ d.lo = leb-true 1 d.lo g in omega arith))
    (λ f g. record { low = omega arith; high = omega arith })
table_grows And width a b c d p q u v i j = let y = i.high in let t = j.high in
    record { low = omega arith; high = omega arith }
table_grows Or width a b c d p q u v i j =
    let x = i.low in let y = i.high in let z = j.low in let t = j.high in
    let m : max c.hi d.hi < 2 ^ bits_of width = omega arith in
    record {
      low = omega arith;
      high = ones_grow (max a.hi b.hi) (max c.hi d.hi) (below_64 width (max c.hi d.hi) m)
          (omega arith);
    }
table_grows Xor width a b c d p q u v i j =
    let y = i.high in let t = j.high in
    let m : max c.hi d.hi < 2 ^ bits_of width = omega arith in
    record {
      low = omega arith;
      high = ones_grow (max a.hi b.hi) (max c.hi d.hi) (below_64 width (max c.hi d.hi) m)
          (omega arith);
    }
table_grows Lsh width a b c d p q u v i j =
    by_tests IsInside (is_single b) (is_single d)
    (λ f g. let e = single_inside b d q j g in let factor = 2 ^ (d.lo % bits_of width) in
    rw (e.0) (fitting_grows (bits_of width) (a.lo * factor) (a.hi * factor) (c.lo * factor) (c.hi * factor)
    (mul-le c.lo factor a.lo factor i.low (omega arith)) (mul-le a.hi factor c.hi factor i.high (omega arith))))
    (λ f g. let factor = 2 ^ (b.lo % bits_of width) in
    by_test (λ x. IsInside x (full_of (bits_of width))) (ltb (a.hi * factor) (2 ^ bits_of width))
    (λ t. inside_full (bits_of width) (span (a.lo * factor) (a.hi * factor))
    (ltb-true (a.hi * factor) (2 ^ bits_of width) t))
    (λ _. record { low = omega arith; high = omega arith }))
    (λ f g. absurd (both_ways (is_single b) f (single_below b d q j g)))
    (λ f g. record { low = omega arith; high = omega arith })
table_grows Rsh width a b c d p q u v i j = shifted_grows (bits_of width) a b c d q i j
table_grows Arsh width a b c d p q u v i j =
    let y = i.high in let half = 2 ^ (bits_of width - 1) in
    by_tests IsInside (ltb a.hi half) (ltb c.hi half)
    (λ f g. shifted_grows (bits_of width) a b c d q i j)
    (λ f g. let k = shifted_below (bits_of width) a b in
    inside_full (bits_of width) (shifted_right (bits_of width) a b) (omega arith))
    (λ f g. absurd (let k : half ≤ a.hi = ltb-false a.hi half f in let l : c.hi < half = ltb-true c.hi half g in
    omega arith))
    (λ f g. record { low = omega arith; high = omega arith })
table_grows Mov width a b c d p q u v i j = j
table_grows Sdiv width a b c d p q u v i j = record { low = omega arith; high = omega arith }
table_grows Smod width a b c d p q u v i j = record { low = omega arith; high = omega arith }

pub alu_grows : (op : AluOp) (width : Width) (a b c d : Span) → HasMembers a → HasMembers b → IsInside a c
    → IsInside b d
    → IsInside (alu_of op width a b) (alu_of op width c d)
alu_grows op width a b c d p q i j =
    by_test (λ x. IsInside x (alu_of op width c d)) (is_single a && is_single b)
    (λ t. let n = in_alu op width c d a.lo b.lo (record { low = i.low; high = up a c p i })
    (record { low = j.low; high = up b d q j }) in record { low = n.low; high = n.high })
    (λ t. by_test (λ x. IsInside (table op (bits_of width) (narrowed width a) (narrowed width b)) x)
    (is_single c && is_single d)
    (λ s. absurd (let e = and_true (is_single c) (is_single d) s in
    both_ways (is_single a && is_single b) t (both_true (is_single a) (is_single b) (single_below a c p i e.0)
    (single_below b d q j e.1))))
    (λ s. table_grows op width (narrowed width a) (narrowed width b) (narrowed width c) (narrowed width d)
    (narrowed_members width a p) (narrowed_members width b q)
    (narrowed_below width c) (narrowed_below width d) (narrowed_grows width a c i) (narrowed_grows width b d j)))

-- the result of one number, or every number of so many bits
result_grows : (result : ℕ → ℕ) (bits : ℕ) (a c : Span) → ((x : ℕ) → result x < 2 ^ bits) → HasMembers a → IsInside a c
    → IsInside (cond (is_single a) (just (result a.lo)) (full_of bits))
    (cond (is_single c) (just (result c.lo)) (full_of bits))
result_grows result bits a c fits p i =
    by_tests IsInside (is_single a) (is_single c)
    (λ f g. let e = single_inside a c p i g in rw (e.0) (record { low = omega arith; high = omega arith }))
    (λ f g. inside_full bits (just (result a.lo)) (fits a.lo))
    (λ f g. absurd (both_ways (is_single a) f (single_below a c p i g)))
    (λ f g. record { low = omega arith; high = omega arith })

pub neg_grows : (width : Width) (a c : Span) → HasMembers a → IsInside a c → IsInside (neg_of width a) (neg_of width c)
neg_grows width a c p i = result_grows (neg_result width) (bits_of width) a c (neg_fits width) p i

pub movsx_grows : (kind : MovsxKind) (a c : Span) → HasMembers a → IsInside a c
    → IsInside (movsx_of kind a) (movsx_of kind c)
movsx_grows kind a c p i = result_grows (movsx_result kind) (bits_of (movsx_width kind)) a c (movsx_fits kind) p i

pub swap_grows : (order : Order) (bits : SwapBits) (a c : Span) → HasMembers a → IsInside a c
    → IsInside (swap_of order bits a) (swap_of order bits c)
swap_grows order bits a c p i = result_grows (swap_result order bits) (swap_bit_count bits) a c
    (swap_fits order bits) p i

pub hull_grows : (a b c d : Span) → IsInside a c → IsInside b d → IsInside (hull_of a b) (hull_of c d)
hull_grows a b c d i j = let x = i.low in let y = i.high in let z = j.low in let t = j.high in
    record { low = omega arith; high = omega arith }
