-- Numbers of 32 bits: what the machine's operations and conditions are on them.
use Rattle.std.proofs.Common.{◌≡◌, ℕ, zero, suc, ◌-◌, ◌/◌, ◌%◌, ◌^◌, ◌<◌, ◌==◌, nat_lt, nat_le, Bool, true, false, not, negsuc, refl, sym, ap, ◌∙◌, arith, inl, inr}
use Rattle.std.proofs.Math.Nat.{mod-eq_of_lt}
use Rattle.std.specs.Int.{w32, w64, cast_signed, cast_unsigned}
use Rattle.std.proofs.lemmas.Bool.{cases_lt, cases_eq, eq-eqb, ne_eqb, lt-ltb, le-ltb, le-leb, lt-leb}
use Rattle.std.proofs.lemmas.Int.{to_z_pos}
use Rattle.bpf_insn.specs.declared.forms.Width.TheVariants.{W32}
use Rattle.bpf_insn.specs.declared.forms.AluOp.TheVariants.{Mov}
use Rattle.bpf_insn.specs.Arithmetic.{alu_result, holds}
use Rattle.rule_syntax.specs.declared.syntax.Operation.{Operation}
use Rattle.rule_syntax.specs.declared.syntax.Operation.TheVariants.{Sum, Difference, Product, Quotient, Remainder}
use Rattle.rule_syntax.specs.declared.syntax.Comparison.{Comparison}
use Rattle.rule_syntax.specs.declared.syntax.Comparison.TheVariants.{Equal, NotEqual, Less, AtMost, Greater, AtLeast}
use Rattle.rule_syntax.specs.declared.syntax.Operator.{Operator}
use Rattle.rule_syntax.specs.declared.syntax.Operator.TheVariants.{Compute, Compare}
use Rattle.rule_meaning.specs.Meaning.{apply, compare, bit_of, truth, apply_operator}
use Rattle.rule_nodes.specs.Code.{alu_op_of, cond_of, opposite, mirror, jump_on}

pub low : (v : ℕ) → v < 2 ^ 32 → v % 2 ^ 32 ≡ v
low v h = mod-eq_of_lt h

-- a move of 32 bits
pub moved : (v : ℕ) → v < 2 ^ 32 → alu_result Mov W32 0 v ≡ v
moved v h = let e = low v h in rw (e, e) refl

-- 32 bits that are read as signed and extended are the number again
pub said : (v : ℕ) → v < 2 ^ 32 → alu_result Mov W32 0 (cast_unsigned w64 (cast_signed w32 v)) ≡ v
said v small =
    elim (cases_lt v (2 ^ 31)) [
      | inl less ↦ rw (to_z_pos w32 v less) (omega (arith, small))
      | inr above ↦
          let below : cast_signed w32 v ≡ negsuc (2 ^ 32 - suc v) = rw (le-ltb v (2 ^ 31) above) refl in
          rw below (omega (arith, small, above))
    ]

-- the low 32 bits of an immediate
pub imm_low : (v : ℕ) → v < 2 ^ 32 → cast_unsigned w64 (cast_signed w32 v) % 2 ^ 32 ≡ v
imm_low v small =
    elim (cases_lt v (2 ^ 31)) [
      | inl less ↦ rw (to_z_pos w32 v less) (omega (arith, small))
      | inr above ↦
          let below : cast_signed w32 v ≡ negsuc (2 ^ 32 - suc v) = rw (le-ltb v (2 ^ 31) above) refl in
          rw below (omega (arith, small, above))
    ]

-- ---- arithmetic

quotient_small : (a b : ℕ) → a < 2 ^ 32 → a / suc b < 2 ^ 32
quotient_small a b h = grind arith

rest_small : (a b : ℕ) → a < 2 ^ 32 → a % suc b < 2 ^ 32
rest_small a b h = grind arith

pub apply_small : (op : Operation) (a b : ℕ) → a < 2 ^ 32 → b < 2 ^ 32 → apply op a b < 2 ^ 32
apply_small Sum a b f g = omega arith
apply_small Difference a b f g = omega arith
apply_small Product a b f g = omega arith
apply_small Quotient a zero f g = omega arith
apply_small Quotient a (suc b) f g = rw (ne_eqb (suc b) 0 (λ e. omega arith)) (quotient_small a b f)
apply_small Remainder a zero f g = f
apply_small Remainder a (suc b) f g = rw (ne_eqb (suc b) 0 (λ e. omega arith)) (rest_small a b f)

-- of the right number only the low 32 bits count
pub results : (op : Operation) (a b raw : ℕ) → a < 2 ^ 32 → b < 2 ^ 32 → raw % 2 ^ 32 ≡ b
    → alu_result (alu_op_of op) W32 a raw ≡ apply op a b
results Sum a b raw f g h = let e = low a f in rw (e, h) refl
results Difference a b raw f g h = let e = low a f in rw (e, h) refl
results Product a b raw f g h = let e = low a f in rw (e, h) refl
results Quotient a b raw f g h =
    let e = low a f in
    let k : apply Quotient a b % 2 ^ 32 ≡ apply Quotient a b = low (apply Quotient a b)
    (apply_small Quotient a b f g) in
    rw (e, h) k
results Remainder a b raw f g h =
    let e = low a f in
    let k : apply Remainder a b % 2 ^ 32 ≡ apply Remainder a b = low (apply Remainder a b)
    (apply_small Remainder a b f g) in
    rw (e, h) k

-- ---- conditions

pub compared_low : (r : Comparison) (a b raw : ℕ) → a < 2 ^ 32 → raw % 2 ^ 32 ≡ b
    → holds (cond_of r) W32 a raw ≡ compare r a b
compared_low Equal a b raw f h = let e = low a f in rw (e, h) refl
compared_low NotEqual a b raw f h = let e = low a f in rw (e, h) refl
compared_low Less a b raw f h = let e = low a f in rw (e, h) refl
compared_low AtMost a b raw f h = let e = low a f in rw (e, h) refl
compared_low Greater a b raw f h = let e = low a f in rw (e, h) refl
compared_low AtLeast a b raw f h = let e = low a f in rw (e, h) refl

pub compared : (r : Comparison) (a b : ℕ) → a < 2 ^ 32 → b < 2 ^ 32 → holds (cond_of r) W32 a b ≡ compare r a b
compared r a b f g = compared_low r a b b f (low b g)

same_sides : (a b : ℕ) → (b == a) ≡ (a == b)
same_sides a b = elim (cases_eq a b) [
  | inl e ↦ eq-eqb b a (sym e) ∙ sym (eq-eqb a b e)
  | inr h ↦ ne_eqb b a (λ e. h (sym e)) ∙ sym (ne_eqb a b h)
]

pub mirrored : (r : Comparison) (a b : ℕ) → compare (mirror r) b a ≡ compare r a b
mirrored Equal a b = same_sides a b
mirrored NotEqual a b = ap not (same_sides a b)
mirrored Less a b = refl
mirrored AtMost a b = refl
mirrored Greater a b = refl
mirrored AtLeast a b = refl

pub not_not : (b : Bool) → b ≡ not (not b)
not_not true = refl
not_not false = refl

le_not_lt : (a b : ℕ) → nat_le b a ≡ not (nat_lt a b)
le_not_lt a b = elim (cases_lt a b) [
  | inl h ↦ lt-leb b a h ∙ sym (ap not (lt-ltb a b h))
  | inr h ↦ le-leb b a h ∙ sym (ap not (le-ltb a b h))
]

pub opposed : (r : Comparison) (a b : ℕ) → compare (opposite r) a b ≡ not (compare r a b)
opposed Equal a b = refl
opposed NotEqual a b = not_not (a == b)
opposed Less a b = le_not_lt a b
opposed AtMost a b = not_not (nat_lt b a) ∙ sym (ap not (le_not_lt b a))
opposed Greater a b = le_not_lt b a
opposed AtLeast a b = not_not (nat_lt a b) ∙ sym (ap not (le_not_lt a b))

-- ---- truth

-- whether a jump for `when` is taken at a number
abbrev pub taken : Bool → ℕ → Bool
taken true v = truth v
taken false v = not (truth v)

pub truth_of : (b : Bool) → truth (bit_of b) ≡ b
truth_of true = refl
truth_of false = refl

pub number_small : (b : Bool) → bit_of b < 2 ^ 32
number_small true = omega arith
number_small false = omega arith

pub operate_small : (o : Operator) (a b : ℕ) → a < 2 ^ 32 → b < 2 ^ 32 → apply_operator o a b < 2 ^ 32
operate_small (Compute op) a b f g = apply_small op a b f g
operate_small (Compare r) a b f g = number_small (compare r a b)

pub jump_compared : (when : Bool) (r : Comparison) (a b raw : ℕ) → a < 2 ^ 32 → raw % 2 ^ 32 ≡ b
    → holds (cond_of (jump_on when r)) W32 a raw ≡ taken when (bit_of (compare r a b))
jump_compared true r a b raw f h = compared_low r a b raw f h ∙ sym (truth_of (compare r a b))
jump_compared false r a b raw f h =
    compared_low (opposite r) a b raw f h ∙ opposed r a b ∙ sym (ap not (truth_of (compare r a b)))

pub jump_by_zero : (when : Bool) (v : ℕ) → v < 2 ^ 32 → holds (cond_of (jump_on when NotEqual)) W32 v 0 ≡ taken when v
jump_by_zero true v f = compared NotEqual v 0 f (omega arith)
jump_by_zero false v f = compared Equal v 0 f (omega arith) ∙ not_not (v == 0)
