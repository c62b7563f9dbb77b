-- What is given of ranges that have members has members.
use Rattle.std.proofs.Common.{◌≡◌, ◌≢◌, ℕ, ◌-◌, ◌^◌, ◌<◌, ◌≤◌, Bool, true, false, cond, min, max, arith, ltb, leb, eqb}
use Rattle.std.specs.Prelude.{◌&&◌, Option, Some, None}
use borrow.Author.Tests.{ltb-true, leb-true, eq-eqb, both_ways}
use Rattle.bpf_insn.specs.declared.forms.Width.{Width}
use Rattle.bpf_insn.specs.declared.forms.AluOp.{AluOp}
use Rattle.bpf_insn.specs.declared.forms.MovsxKind.{MovsxKind}
use Rattle.bpf_insn.specs.declared.forms.Order.{Order}
use Rattle.bpf_insn.specs.declared.forms.SwapBits.{SwapBits}
use Rattle.bpf_insn.specs.declared.forms.Cond.{Cond}
use Rattle.bpf_insn.specs.declared.forms.Cond.TheVariants.{Eq, Gt, Ge, Set, Ne, Sgt, Sge, Lt, Le, Slt, Sle}
use Rattle.bpf_insn.specs.Arithmetic.{bits_of, neg_result, movsx_result, movsx_width, swap_result, swap_bit_count, holds}
use Rattle.value_range.specs.Span.{Span, just, full_of, is_single, hull_of, meet_of, Contains, HasMembers}
use Rattle.value_range.specs.Results.{alu_of, neg_of, movsx_of, swap_of}
use Rattle.value_range.specs.Conditions.{less, at_most, turned, both, without, signed, refined, on_way, decided, branch_of}
use Rattle.value_range.proofs.InTable.{by_test, in_alu}
use Rattle.value_range.proofs.Growing.{both_true}

-- ---- arithmetic and byte swaps

pub alu_members : (op : AluOp) (width : Width) (a b : Span) → HasMembers a → HasMembers b
    → HasMembers (alu_of op width a b)
alu_members op width a b p q =
    let x = p.ordered in let y = q.ordered in
    let least : Contains a a.lo = record { low = omega arith; high = omega arith } in
    let other : Contains b b.lo = record { low = omega arith; high = omega arith } in
    let r = in_alu op width a b a.lo b.lo least other in
    record { ordered = omega (arith, r.low, r.high) }

-- one number, or every number of so many bits
one_or_full : (b : Bool) (n bits : ℕ) → HasMembers (cond b (just n) (full_of bits))
one_or_full true n bits = record { ordered = omega arith }
one_or_full false n bits = record { ordered = omega arith }

pub neg_members : (width : Width) (a : Span) → HasMembers (neg_of width a)
neg_members width a = one_or_full (is_single a) (neg_result width a.lo) (bits_of width)

pub movsx_members : (kind : MovsxKind) (a : Span) → HasMembers (movsx_of kind a)
movsx_members kind a = one_or_full (is_single a) (movsx_result kind a.lo) (bits_of (movsx_width kind))

pub swap_members : (order : Order) (bits : SwapBits) (a : Span) → HasMembers (swap_of order bits a)
swap_members order bits a = one_or_full (is_single a) (swap_result order bits a.lo) (swap_bit_count bits)

pub hull_members : (a b : Span) → HasMembers a → HasMembers b → HasMembers (hull_of a b)
hull_members a b p q = let x = p.ordered in let y = q.ordered in record { ordered = omega arith }

-- ---- conditions

abbrev pub HasMembersIfSome : Option Span → Type 0
HasMembersIfSome None = Unit {0}
HasMembersIfSome (Some m) = HasMembers m

abbrev pub HaveMembers : Option (Span × Span) → Type 0
HaveMembers None = Unit {0}
HaveMembers (Some pair) = HasMembers pair.0 × HasMembers pair.1

pub meet_members : (a b : Span) → HasMembersIfSome (meet_of a b)
meet_members a b =
    by_test HasMembersIfSome (leb (max a.lo b.lo) (min a.hi b.hi))
    (λ f. let k : max a.lo b.lo ≤ min a.hi b.hi = leb-true (max a.lo b.lo) (min a.hi b.hi) f in record { ordered = k })
    (λ _. tt)

both_members : (o : Option Span) → HasMembersIfSome o → HaveMembers (both o)
both_members None h = tt
both_members (Some m) h = (h, h)

turned_members : (o : Option (Span × Span)) → HaveMembers o → HaveMembers (turned o)
turned_members None h = tt
turned_members (Some pair) h = (h.1, h.0)

less_members : (a b : Span) → HasMembers a → HasMembers b → HaveMembers (less a b)
less_members a b p q =
    let x = p.ordered in let y = q.ordered in
    by_test HaveMembers (ltb a.lo b.hi)
    (λ f. let k : a.lo < b.hi = ltb-true a.lo b.hi f in
    (record { ordered = omega arith }, record { ordered = omega arith }))
    (λ _. tt)

at_most_members : (a b : Span) → HasMembers a → HasMembers b → HaveMembers (at_most a b)
at_most_members a b p q =
    let x = p.ordered in let y = q.ordered in
    by_test HaveMembers (leb a.lo b.hi)
    (λ f. let k : a.lo ≤ b.hi = leb-true a.lo b.hi f in
    (record { ordered = omega arith }, record { ordered = omega arith }))
    (λ _. tt)

-- a range of more than one number keeps one where another is taken out
without_members : (a b : Span) → HasMembers a → ((is_single a && is_single b) ≡ true → ⊥) → HasMembers (without a b)
without_members a b p n =
    let x = p.ordered in
    by_test HasMembers (is_single b)
    (λ s. let apart : a.lo ≢ a.hi = λ e. n (both_true (is_single a) (is_single b) (eq-eqb a.lo a.hi e) s) in
    by_test HasMembers (eqb a.lo b.lo)
    (λ _. record { ordered = omega arith })
    (λ _. by_test HasMembers (eqb a.hi b.lo) (λ _. record { ordered = omega arith }) (λ _. p)))
    (λ _. p)

signed_members : (bits : ℕ) (a b : Span) (pair : Option (Span × Span)) → HasMembers a → HasMembers b → HaveMembers pair
    → HaveMembers (signed bits a b pair)
signed_members bits a b pair p q h =
    by_test HaveMembers (ltb a.hi (2 ^ (bits - 1)) && ltb b.hi (2 ^ (bits - 1))) (λ _. h) (λ _. (p, q))

refined_members : (test : Cond) (bits : ℕ) (a b : Span) → HasMembers a → HasMembers b
    → ((is_single a && is_single b) ≡ true → ⊥)
    → ((is_single b && is_single a) ≡ true → ⊥) → HaveMembers (refined test bits a b)
refined_members Eq bits a b p q n m = both_members (meet_of a b) (meet_members a b)
refined_members Ne bits a b p q n m = (without_members a b p n, without_members b a q m)
refined_members Set bits a b p q n m = (p, q)
refined_members Lt bits a b p q n m = less_members a b p q
refined_members Le bits a b p q n m = at_most_members a b p q
refined_members Gt bits a b p q n m = turned_members (less b a) (less_members b a q p)
refined_members Ge bits a b p q n m = turned_members (at_most b a) (at_most_members b a q p)
refined_members Slt bits a b p q n m = signed_members bits a b (less a b) p q (less_members a b p q)
refined_members Sle bits a b p q n m = signed_members bits a b (at_most a b) p q (at_most_members a b p q)
refined_members Sgt bits a b p q n m =
    signed_members bits a b (turned (less b a)) p q (turned_members (less b a) (less_members b a q p))
refined_members Sge bits a b p q n m =
    signed_members bits a b (turned (at_most b a)) p q (turned_members (at_most b a) (at_most_members b a q p))

decided_members : (test : Cond) (width : Width) (a b : Span) (taken : Bool) → HasMembers a → HasMembers b
    → HaveMembers (decided test width a b taken)
decided_members test width a b true p q = by_test HaveMembers (holds test width a.lo b.lo) (λ _. (p, q)) (λ _. tt)
decided_members test width a b false p q = by_test HaveMembers (holds test width a.lo b.lo) (λ _. tt) (λ _. (p, q))

swapped : (b c : Bool) → (b && c) ≡ true → (c && b) ≡ true
swapped true true e = e
swapped true false e = absurd cc
swapped false c e = absurd cc

pub branch_members : (test : Cond) (width : Width) (a b : Span) (taken : Bool) → HasMembers a → HasMembers b
    → HaveMembers (branch_of test width a b taken)
branch_members test width a b taken p q =
    by_test HaveMembers (is_single a && is_single b)
    (λ _. decided_members test width a b taken p q)
    (λ s. let n : (is_single a && is_single b) ≡ true → ⊥ = λ e. both_ways (is_single a && is_single b) s e in
    by_test HaveMembers (ltb a.hi (2 ^ bits_of width) && ltb b.hi (2 ^ bits_of width))
    (λ _. refined_members (on_way taken test) (bits_of width) a b p q n
    (λ e. n (swapped (is_single b) (is_single a) e)))
    (λ _. (p, q)))
