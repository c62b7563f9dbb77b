-- Each range of a state that the rules give has members.
use Rattle.std.proofs.Common.{◌≡◌, ℕ, suc, ◌+◌, ◌-◌, ◌*◌, ◌%◌, ◌<◌, ◌==◌, Bool, true, false, ◌||◌, ◌&&◌, Option, Some, None, refl, sym, ap, ◌∙◌, inl, inr, arith}
use Rattle.std.specs.Prelude.{ℤ, pos, negsuc, ◌+ℤ◌, nat_le, nat_lt, if◌then◌else◌}
use Rattle.std.proofs.lemmas.Bool.{cases_eq, eqb-true, eq-eqb, ne_eqb, and_parts, le-ltb, ltb-true}
use Rattle.std.proofs.lemmas.Bool.Decides.{nat_tests}
use Rattle.std.proofs.lemmas.Option.{same_Some, cond_some}
use Rattle.node_env.specs.Env.{Extent}
use Rattle.node_env.specs.Helpers.{helper_of}
use Rattle.node_env.specs.declared.region.Region.TheVariants.{Mem, Stack}
use Rattle.node_env.specs.declared.helper.Helper.{Helper}
use Rattle.node_env.specs.declared.helper.Helper.TheVariants.{Id, Recv, Send, Coin}
use Rattle.node_env.specs.Dwords.{dword_of, is_aligned}
use Rattle.bpf_insn.specs.declared.forms.Reg.{Reg}
use Rattle.bpf_insn.specs.declared.forms.Width.{Width}
use Rattle.bpf_insn.specs.declared.forms.Width.TheVariants.{W32, W64}
use Rattle.bpf_insn.specs.declared.forms.AluOp.{AluOp}
use Rattle.bpf_insn.specs.declared.forms.AluOp.TheVariants.{Add, Sub, Mul, Div, Sdiv, Or, And, Lsh, Rsh, Mod, Smod, Xor, Mov, Arsh}
use Rattle.bpf_insn.specs.declared.forms.Cond.{Cond}
use Rattle.bpf_insn.specs.declared.forms.Operand.{Operand}
use Rattle.bpf_insn.specs.declared.forms.Operand.TheVariants as operand
use Rattle.bpf_insn.specs.declared.forms.Insn.{Insn}
use Rattle.bpf_insn.specs.declared.forms.Insn.TheVariants as i
use Rattle.bpf_insn.specs.declared.edges.Way.{Way}
use Rattle.bpf_insn.specs.Registers.{register_number}
use Rattle.bpf_insn.specs.Edges.{moved}
use Rattle.bpf_insn.specs.Operands.{access_bytes}
use Rattle.value_range.specs.Span.{Span, span, full_of, is_single, meet_of, HasMembers}
use Rattle.value_range.specs.Results.{alu_of, neg_of, movsx_of, swap_of}
use Rattle.value_range.specs.Conditions.{branch_of}
use Rattle.value_range.proofs.Members.{HasMembersIfSome, HaveMembers, alu_members, neg_members, movsx_members, swap_members, hull_members, meet_members, branch_members}
use Rattle.bpf_verify.specs.declared.abstract_value.AbstractValue.{AbstractValue}
use Rattle.bpf_verify.specs.declared.abstract_value.AbstractValue.TheVariants.{Unset, Number, Pointer}
use Rattle.bpf_verify.specs.States.{AbstractState, kind_of, IsProperKind, IsProper, joined_kind, joined_state, stack_base, entry_state, is_number_kind, is_pointer_kind}
use Rattle.bpf_verify.specs.Rules.{operand_kind, is_whole, takes_dword}
use Rattle.bpf_verify.specs.Outcomes.{with_kind, sum_kind, difference_kind, of_number_kind, of_number_kinds, alu_kind, put_kind, of_bytes, or_full, entry_at, lowest_place, loaded_kind, is_between, with_written, entry_written, with_entry, with_cleared, stored_at, is_taken, with_meet, refined_by, branch_outcome, answer_kind, call_outcome, outcome}
use Rattle.bpf_verify.specs.inner.Walk.{IsProperRow}

-- ---- arithmetic

one_proper : (result : Span → Span) → ((a : Span) → HasMembers a → HasMembers (result a)) → (k : AbstractValue) → IsProperKind k
    → IsProperKind (of_number_kind result k)
one_proper result gives Unset p = tt
one_proper result gives (Number a) p = gives a p
one_proper result gives (Pointer region a) p = tt

both_proper : (op : AluOp) (width : Width) (k l : AbstractValue) → IsProperKind k → IsProperKind l
    → IsProperKind (of_number_kinds (alu_of op width) k l)
both_proper op width Unset l p q = tt
both_proper op width (Number a) Unset p q = tt
both_proper op width (Number a) (Number b) p q = alu_members op width a b p q
both_proper op width (Number a) (Pointer region b) p q = tt
both_proper op width (Pointer region a) l p q = tt

sum_proper : (k l : AbstractValue) → IsProperKind k → IsProperKind l → IsProperKind (sum_kind k l)
sum_proper Unset l p q = tt
sum_proper (Number a) Unset p q = tt
sum_proper (Number a) (Number b) p q = alu_members Add W64 a b p q
sum_proper (Number a) (Pointer region b) p q = alu_members Add W64 a b p q
sum_proper (Pointer region a) Unset p q = tt
sum_proper (Pointer region a) (Number b) p q = alu_members Add W64 a b p q
sum_proper (Pointer region a) (Pointer other b) p q = tt

difference_proper : (k l : AbstractValue) → IsProperKind k → IsProperKind l → IsProperKind (difference_kind k l)
difference_proper Unset l p q = tt
difference_proper (Number a) Unset p q = tt
difference_proper (Number a) (Number b) p q = alu_members Sub W64 a b p q
difference_proper (Number a) (Pointer region b) p q = tt
difference_proper (Pointer region a) Unset p q = tt
difference_proper (Pointer region a) (Number b) p q = alu_members Sub W64 a b p q
difference_proper (Pointer region a) (Pointer other b) p q = tt

alu_proper : (op : AluOp) (width : Width) (k l : AbstractValue) → IsProperKind k → IsProperKind l
    → IsProperKind (alu_kind op width k l)
alu_proper Mov W64 k l p q = q
alu_proper Mov W32 k l p q = one_proper (λ n. alu_of Mov W32 n n) (λ a m. alu_members Mov W32 a a m m) l q
alu_proper Add W64 k l p q = sum_proper k l p q
alu_proper Sub W64 k l p q = difference_proper k l p q
alu_proper Add W32 k l p q = both_proper Add W32 k l p q
alu_proper Sub W32 k l p q = both_proper Sub W32 k l p q
alu_proper Mul width k l p q = both_proper Mul width k l p q
alu_proper Div width k l p q = both_proper Div width k l p q
alu_proper Sdiv width k l p q = both_proper Sdiv width k l p q
alu_proper Or width k l p q = both_proper Or width k l p q
alu_proper And width k l p q = both_proper And width k l p q
alu_proper Lsh width k l p q = both_proper Lsh width k l p q
alu_proper Rsh width k l p q = both_proper Rsh width k l p q
alu_proper Mod width k l p q = both_proper Mod width k l p q
alu_proper Smod width k l p q = both_proper Smod width k l p q
alu_proper Xor width k l p q = both_proper Xor width k l p q
alu_proper Arsh width k l p q = both_proper Arsh width k l p q

-- ---- states

with_proper : (A : AbstractState) (register : Reg) (k : AbstractValue) → IsProper A → IsProperKind k
    → IsProper (with_kind A register k)
with_proper A register k p q =
    record {
      kinds = λ number. by (number == register_number register) (A.kinds number) (p.kinds number);
      entries = p.entries;
      spelled = p.spelled;
      apart = p.apart;
    }
  where
    by : (b : Bool) (l : AbstractValue) → IsProperKind l → IsProperKind (if b then k else l)
    by true l h = q
    by false l h = h

bytes_proper : (count : ℕ) (a : Span) → HasMembers a → HasMembers (of_bytes count a)
bytes_proper count a p = record { ordered = omega (arith, p.ordered) }

or_full_proper : (k : AbstractValue) (count : ℕ) → IsProperKind k → IsProperKind (or_full k count)
or_full_proper Unset count p = record { ordered = omega arith }
or_full_proper (Number a) count p = bytes_proper count a p
or_full_proper (Pointer region a) count p = p

entry_at_proper : (A : AbstractState) (first : Option ℕ) (count : ℕ) → IsProper A
    → IsProperKind (entry_at A first count)
entry_at_proper A None count p = record { ordered = omega arith }
entry_at_proper A (Some first) count p = or_full_proper (A.entries (dword_of first)) count (p.entries (dword_of first))

loaded_proper : (A : AbstractState) (k : AbstractValue) (off : ℤ) (count : ℕ) → IsProper A
    → IsProperKind (loaded_kind A k off count)
loaded_proper A k off count p = by (takes_dword k off count)
  where
    by : (b : Bool)
        → IsProperKind (if b then entry_at A (lowest_place k off) count else Number (full_of (8 * count)))
    by true = entry_at_proper A (lowest_place k off) count p
    by false = record { ordered = omega arith }

-- ---- stores

-- a place that eight divides, moved inside its region
pub aligned_place : (lo first : ℕ) (off : ℤ) → moved lo off ≡ Some first → is_aligned (pos lo +ℤ off) ≡ true
    → first % 8 ≡ 0
aligned_place lo first off e aligned = eqb-true (first % 8) 0 (ap is_aligned (sym (sum_of lo first off e)) ∙ aligned)
  where
    sum_of : (lo first : ℕ) (off : ℤ) → moved lo off ≡ Some first → pos lo +ℤ off ≡ pos first
    sum_of lo first (pos n) e = ap pos (same_Some (lo + n) first e)
    sum_of lo first (negsuc n) e =
        let x = cond_some (nat_lt n lo) (lo - suc n) first e in
        rw (le-ltb lo (suc n) (let a : n < lo = ltb-true n lo x.0 in omega (arith, a))) (ap pos x.1)

-- a byte of the double word that begins at a place, and a byte of another
pub in_entry : (first byte : ℕ) → first % 8 ≡ 0 → dword_of byte ≡ dword_of first
    → is_between first (first + 8) byte ≡ true
in_entry first byte aligned same = grind (arith, nat_tests, aligned, same)

pub beside_entry : (first byte : ℕ) → first % 8 ≡ 0 → (dword_of byte ≡ dword_of first → ⊥)
    → is_between first (first + 8) byte ≡ false
beside_entry first byte aligned other = grind (arith, nat_tests, aligned, other)

pub pointer_or : (k : AbstractValue) → is_number_kind k ≡ true → is_pointer_kind k ≡ true → ⊥
pointer_or Unset e f = absurd cc
pointer_or (Number a) e f = absurd cc
pointer_or (Pointer region a) e f = absurd cc

and_false : (b c : Bool) → c ≡ false → (b && c) ≡ false
and_false true c e = e
and_false false c e = refl

or_true : (b c : Bool) → c ≡ true → (b || c) ≡ true
or_true true c e = refl
or_true false c e = e

-- what the double word at a place is once it holds a value, and what the others are
module _ (A : AbstractState) (first : ℕ) (v : AbstractValue) (aligned : first % 8 ≡ 0) (p : IsProper A)
    (q : IsProperKind v) where
  entry_kind : (dword : ℕ) → IsProperKind (put_kind A.entries (dword_of first) v dword)
  entry_kind dword = by (dword == dword_of first) (p.entries dword)
    where
      by : (b : Bool) → IsProperKind (A.entries dword) → IsProperKind (if b then v else A.entries dword)
      by true h = q
      by false h = h

  now_spelled : (k : AbstractValue) (byte : ℕ) → is_number_kind k ≡ true → is_between first (first + 8) byte ≡ true
      → entry_written k A.written first byte ≡ true
  now_spelled Unset byte e b = absurd cc
  now_spelled (Number a) byte e b = rw b refl
  now_spelled (Pointer region a) byte e b = absurd cc

  still_spelled : (k : AbstractValue) (byte : ℕ) → A.written byte ≡ true → is_between first (first + 8) byte ≡ false
      → entry_written k A.written first byte ≡ true
  still_spelled Unset byte e b = rw (b, e) refl
  still_spelled (Number a) byte e b = rw (b, e) refl
  still_spelled (Pointer region a) byte e b = rw (b, e) refl

  now_apart : (k : AbstractValue) (byte : ℕ) → is_pointer_kind k ≡ true → is_between first (first + 8) byte ≡ true
      → entry_written k A.written first byte ≡ false
  now_apart Unset byte e b = absurd cc
  now_apart (Number a) byte e b = absurd cc
  now_apart (Pointer region a) byte e b = rw b refl

  still_apart : (k : AbstractValue) (byte : ℕ) → A.written byte ≡ false → is_between first (first + 8) byte ≡ false
      → entry_written k A.written first byte ≡ false
  still_apart Unset byte e b = rw (b, e) refl
  still_apart (Number a) byte e b = rw (b, e) refl
  still_apart (Pointer region a) byte e b = rw (b, e) refl

  entry_spelled : (byte : ℕ) → is_number_kind (put_kind A.entries (dword_of first) v (dword_of byte)) ≡ true
      → entry_written v A.written first byte ≡ true
  entry_spelled byte e =
      elim (cases_eq (dword_of byte) (dword_of first)) [
        | inl same ↦ now_spelled v byte (rw (eq-eqb (dword_of byte) (dword_of first) same) at e)
            (in_entry first byte aligned same)
        | inr other ↦ still_spelled v byte
            (p.spelled byte (rw (ne_eqb (dword_of byte) (dword_of first) other) at e))
            (beside_entry first byte aligned other)
      ]

  entry_apart : (byte : ℕ) → is_pointer_kind (put_kind A.entries (dword_of first) v (dword_of byte)) ≡ true
      → entry_written v A.written first byte ≡ false
  entry_apart byte e =
      elim (cases_eq (dword_of byte) (dword_of first)) [
        | inl same ↦ now_apart v byte (rw (eq-eqb (dword_of byte) (dword_of first) same) at e)
            (in_entry first byte aligned same)
        | inr other ↦ still_apart v byte
            (p.apart byte (rw (ne_eqb (dword_of byte) (dword_of first) other) at e))
            (beside_entry first byte aligned other)
      ]

  pub entry_proper_there : IsProper (with_entry A (Some first) v)
  entry_proper_there = record {
    kinds = p.kinds;
    entries = entry_kind;
    spelled = entry_spelled;
    apart = entry_apart;
  }

-- what is left of what was known of a double word
cleared_kind : (b : Bool) (k : AbstractValue) → IsProperKind k → IsProperKind (if b then Unset else k)
cleared_kind true k p = tt
cleared_kind false k p = p

cleared_number : (b : Bool) (k : AbstractValue) → is_number_kind (if b then Unset else k) ≡ true → is_number_kind k ≡ true
cleared_number true k e = absurd cc
cleared_number false k e = e

cleared_pointer : (b : Bool) (k : AbstractValue) → is_pointer_kind (if b then Unset else k) ≡ true
    → (b ≡ false) × (is_pointer_kind k ≡ true)
cleared_pointer true k e = absurd cc
cleared_pointer false k e = (refl, e)

-- a byte that is taken lies in a double word that is cleared
pub in_cleared : (first end byte : ℕ) → is_between (dword_of first) (dword_of (end + 7)) (dword_of byte) ≡ false
    → is_between first end byte ≡ false
in_cleared first end byte e = grind (arith, nat_tests, e)

pub with_cleared_proper : (A : AbstractState) (first last : Option ℕ) (count : ℕ) → IsProper A
    → IsProper (with_cleared A first last count)
with_cleared_proper A None last count p = p
with_cleared_proper A (Some first) None count p = p
with_cleared_proper A (Some first) (Some last) count p =
    let gone : ℕ → Bool = λ dword. is_between (dword_of first) (dword_of (last + count + 7)) dword in
    record {
      kinds = p.kinds;
      entries = λ dword. cleared_kind (gone dword) (A.entries dword) (p.entries dword);
      spelled = λ byte e. p.spelled byte (cleared_number (gone (dword_of byte)) (A.entries (dword_of byte)) e);
      apart = λ byte e. p.apart byte (cleared_pointer (gone (dword_of byte)) (A.entries (dword_of byte)) e).1;
    }

-- a store to one place clears the double words of its bytes, and writes them
cleared_written_proper : (A : AbstractState) (first last : Option ℕ) (count : ℕ) → first ≡ last → IsProper A
    → IsProper (with_written (with_cleared A first last count) first count)
cleared_written_proper A None last count same p = p
cleared_written_proper A (Some first) None count same p = absurd cc
cleared_written_proper A (Some first) (Some last) count same p =
    let is : first ≡ last = same_Some first last same in
    let gone : ℕ → Bool = λ dword. is_between (dword_of first) (dword_of (last + count + 7)) dword in
    record {
      kinds = p.kinds;
      entries = λ dword. cleared_kind (gone dword) (A.entries dword) (p.entries dword);
      spelled = λ byte e. or_true (is_between first (first + count) byte) (A.written byte)
          (p.spelled byte (cleared_number (gone (dword_of byte)) (A.entries (dword_of byte)) e));
      apart = λ byte e.
          let left = cleared_pointer (gone (dword_of byte)) (A.entries (dword_of byte)) e in
          let beside : is_between first (first + count) byte ≡ false =
          ap (λ n. is_between first (n + count) byte) is ∙ in_cleared first (last + count) byte left.0 in
          rw (beside, p.apart byte left.1) refl;
    }

with_entry_proper : (A : AbstractState) (lo : ℕ) (off : ℤ) (first : Option ℕ) (v : AbstractValue) → moved lo off ≡ first
    → is_aligned (pos lo +ℤ off) ≡ true → IsProper A → IsProperKind v → IsProper (with_entry A first v)
with_entry_proper A lo off None v e aligned p q = p
with_entry_proper A lo off (Some first) v e aligned p q =
    entry_proper_there A first v (aligned_place lo first off e aligned) p q

pub whole_parts : (a : Span) (off : ℤ) (count : ℕ) → is_whole a off count ≡ true
    → (is_single a ≡ true) × (count ≡ 8) × (is_aligned (pos a.lo +ℤ off) ≡ true)
whole_parts a off count e =
    let x = and_parts (is_single a) (count == 8 && is_aligned (pos a.lo +ℤ off)) e in
    let y = and_parts (count == 8) (is_aligned (pos a.lo +ℤ off)) x.1 in
    (x.0, eqb-true count 8 y.0, y.1)

stored_proper : (A : AbstractState) (k : AbstractValue) (off : ℤ) (count : ℕ) (v : AbstractValue) → IsProper A → IsProperKind v
    → IsProper (stored_at A k off count v)
stored_proper A Unset off count v p q = p
stored_proper A (Number a) off count v p q = p
stored_proper A (Pointer Mem a) off count v p q = p
stored_proper A (Pointer Stack a) off count v p q = by (is_whole a off count) (is_single a) refl refl
  where
    lo : Option ℕ
    lo = moved a.lo off

    hi : Option ℕ
    hi = moved a.hi off

    by : (b c : Bool) → is_whole a off count ≡ b → is_single a ≡ c
        → IsProper (if b then with_entry A lo v else if c then with_written (with_cleared A lo hi count) lo count
        else with_cleared A lo hi count)
    by true c e f = with_entry_proper A a.lo off lo v refl (whole_parts a off count e).2 p q
    by false true e f = cleared_written_proper A lo hi count (ap (λ n. moved n off) (eqb-true a.lo a.hi f)) p
    by false false e f = with_cleared_proper A lo hi count p

met_with : (A : AbstractState) (register : Reg) (m : Option Span) → IsProper A → HasMembersIfSome m
    → IsProperRow (with_meet A register m)
met_with A register None p q = tt
met_with A register (Some m) p q = with_proper A register (Number m) p q

refined_proper : (A : AbstractState) (dst : Reg) (src : Operand) (pair : Option (Span × Span)) → IsProper A
    → HaveMembers pair → IsProperRow (refined_by A dst src pair)
refined_proper A dst src None p q = tt
refined_proper A dst (operand.Imm imm) (Some pair) p q = with_proper A dst (Number pair.0) p q.0
refined_proper A dst (operand.Reg register) (Some pair) p q = by (register_number register == register_number dst)
  where
    by : (b : Bool)
        → IsProperRow (if b then with_meet A dst (meet_of pair.0 pair.1) else
        Some (with_kind (with_kind A dst (Number pair.0)) register (Number pair.1)))
    by true = met_with A dst (meet_of pair.0 pair.1) p (meet_members pair.0 pair.1)
    by false =
        with_proper (with_kind A dst (Number pair.0)) register (Number pair.1)
        (with_proper A dst (Number pair.0) p q.0) q.1

branch_proper : (A : AbstractState) (test : Cond) (width : Width) (dst : Reg) (src : Operand) (taken : Bool)
    (k l : AbstractValue) → IsProper A → IsProperKind k → IsProperKind l
    → IsProperRow (branch_outcome A test width dst src taken k l)
branch_proper A test width dst src taken Unset l p q r = tt
branch_proper A test width dst src taken (Pointer region a) l p q r = tt
branch_proper A test width dst src taken (Number a) Unset p q r = tt
branch_proper A test width dst src taken (Number a) (Pointer region b) p q r = tt
branch_proper A test width dst src taken (Number a) (Number b) p q r =
    refined_proper A dst src (branch_of test width a b taken) p (branch_members test width a b taken q r)

answer_proper : (shape : Extent) (given : Option Helper) → IsProperKind (answer_kind shape given)
answer_proper shape None = tt
answer_proper shape (Some Id) = record { ordered = omega arith }
answer_proper shape (Some Recv) = record { ordered = omega arith }
answer_proper shape (Some Send) = record { ordered = omega arith }
answer_proper shape (Some Coin) = record { ordered = omega arith }

called_proper : (shape : Extent) (given : Option Helper) (A : AbstractState) → IsProper A
    → IsProper (call_outcome shape given A)
called_proper shape given A p =
    record {
      kinds = λ number. by (nat_le number 5) (number == 0) (A.kinds number) (p.kinds number);
      entries = p.entries;
      spelled = p.spelled;
      apart = p.apart;
    }
  where
    by : (b c : Bool) (k : AbstractValue) → IsProperKind k
        → IsProperKind (if b then (if c then answer_kind shape given else Unset) else k)
    by true true k q = answer_proper shape given
    by true false k q = tt
    by false c k q = q

-- ---- the outcome, where edges meet, and entry

module _ (shape : Extent) (way : Way) (A : AbstractState) (p : IsProper A) where
  proper_of : (register : Reg) → IsProperKind (kind_of A register)
  proper_of register = p.kinds (register_number register)

  proper_operand : (width : Width) (src : Operand) → IsProperKind (operand_kind width src A)
  proper_operand width (operand.Imm imm) = record { ordered = omega arith }
  proper_operand width (operand.Reg register) = proper_of register

  pub outcome_proper : (insn : Insn) → IsProperRow (outcome shape insn A way)
  outcome_proper (i.Alu op width dst src) =
      with_proper A dst _ p
      (alu_proper op width (kind_of A dst) (operand_kind width src A) (proper_of dst) (proper_operand width src))
  outcome_proper (i.Neg width dst) =
      with_proper A dst _ p (one_proper (neg_of width) (λ a _. neg_members width a) (kind_of A dst) (proper_of dst))
  outcome_proper (i.Movsx kind dst src) =
      with_proper A dst _ p (one_proper (movsx_of kind) (λ a _. movsx_members kind a) (kind_of A src) (proper_of src))
  outcome_proper (i.Swap order bits dst) =
      with_proper A dst _ p
      (one_proper (swap_of order bits) (λ a _. swap_members order bits a) (kind_of A dst) (proper_of dst))
  outcome_proper (i.Ja off) = p
  outcome_proper (i.JaLong off) = p
  outcome_proper (i.Branch test width dst src off) =
      branch_proper A test width dst src (is_taken way) (kind_of A dst) (operand_kind width src A) p (proper_of dst)
      (proper_operand width src)
  outcome_proper (i.Call id) = called_proper shape (helper_of id) A p
  outcome_proper i.Exit = tt
  outcome_proper (i.Load size dst base off) =
      with_proper A dst _ p (loaded_proper A (kind_of A base) off (access_bytes size) p)
  outcome_proper (i.LoadSx size dst base off) = with_proper A dst _ p (record { ordered = omega arith })
  outcome_proper (i.StoreReg size base off src) =
      stored_proper A (kind_of A base) off (access_bytes size) (kind_of A src) p (proper_of src)
  outcome_proper (i.StoreImm size base off imm) =
      stored_proper A (kind_of A base) off (access_bytes size) (operand_kind W64 (operand.Imm imm) A) p
      (proper_operand W64 (operand.Imm imm))
  outcome_proper (i.LoadImm64 dst value) = with_proper A dst _ p (record { ordered = omega arith })

joined_kind_proper : (k l : AbstractValue) → IsProperKind k → IsProperKind l → IsProperKind (joined_kind k l)
joined_kind_proper Unset l p q = tt
joined_kind_proper (Number a) Unset p q = tt
joined_kind_proper (Number a) (Number b) p q = hull_members a b p q
joined_kind_proper (Number a) (Pointer region b) p q = tt
joined_kind_proper (Pointer region a) Unset p q = tt
joined_kind_proper (Pointer region a) (Number b) p q = tt
joined_kind_proper (Pointer Mem a) (Pointer Mem b) p q = hull_members a b p q
joined_kind_proper (Pointer Stack a) (Pointer Stack b) p q = hull_members a b p q
joined_kind_proper (Pointer Mem a) (Pointer Stack b) p q = tt
joined_kind_proper (Pointer Stack a) (Pointer Mem b) p q = tt

pub joined_proper : (A C : AbstractState) → IsProper A → IsProper C → IsProper (joined_state A C)
joined_proper A C p q =
    record {
      kinds = λ number. joined_kind_proper (A.kinds number) (C.kinds number) (p.kinds number) (q.kinds number);
      entries = λ dword. joined_kind_proper (A.entries dword) (C.entries dword) (p.entries dword) (q.entries dword);
      spelled = λ byte e.
          let both = joined_number (A.entries (dword_of byte)) (C.entries (dword_of byte)) e in
          rw (p.spelled byte both.0, q.spelled byte both.1) refl;
      apart = λ byte e.
          rw (p.apart byte (joined_pointer (A.entries (dword_of byte)) (C.entries (dword_of byte)) e)) refl;
    }
  where
    joined_number : (k l : AbstractValue) → is_number_kind (joined_kind k l) ≡ true
        → (is_number_kind k ≡ true) × (is_number_kind l ≡ true)
    joined_number Unset l e = absurd cc
    joined_number (Number a) Unset e = absurd cc
    joined_number (Number a) (Number b) e = (refl, refl)
    joined_number (Number a) (Pointer region b) e = absurd cc
    joined_number (Pointer region a) Unset e = absurd cc
    joined_number (Pointer region a) (Number b) e = absurd cc
    joined_number (Pointer Mem a) (Pointer Mem b) e = absurd cc
    joined_number (Pointer Stack a) (Pointer Stack b) e = absurd cc
    joined_number (Pointer Mem a) (Pointer Stack b) e = absurd cc
    joined_number (Pointer Stack a) (Pointer Mem b) e = absurd cc

    joined_pointer : (k l : AbstractValue) → is_pointer_kind (joined_kind k l) ≡ true → is_pointer_kind k ≡ true
    joined_pointer Unset l e = absurd cc
    joined_pointer (Number a) Unset e = absurd cc
    joined_pointer (Number a) (Number b) e = absurd cc
    joined_pointer (Number a) (Pointer region b) e = absurd cc
    joined_pointer (Pointer region a) l e = refl

pub entry_proper : (shape : Extent) → IsProper (entry_state shape)
entry_proper shape = record {
  kinds = λ number. by (number == 1) (number == 2) (number == 10);
  entries = λ dword. tt;
  spelled = λ byte e. absurd cc;
  apart = λ byte e. refl;
}
  where
    by : (a b c : Bool)
        → IsProperKind
        (if a then Pointer Mem (span 0 0) else if b then Number
        (span 0 (shape.nodes - 1)) else if c then stack_base else Unset)
    by true b c = record { ordered = omega arith }
    by false true c = record { ordered = omega arith }
    by false false true = record { ordered = omega arith }
    by false false false = tt
