-- What keeps the rules keeps them also where more is known.
use Rattle.std.proofs.Common.{◌≡◌, ℕ, zero, suc, ◌+◌, ◌-◌, ◌^◌, ◌<◌, ◌≤◌, Bool, true, false, not, ◌||◌, ◌&&◌, ◌==◌, List, [], ◌∷◌, Option, Some, None, refl, sym, ap, subst, ◌∙◌, inl, inr, ◌⊎◌, arith}
use Rattle.std.specs.Prelude.{ℤ, pos, negsuc, ◌+ℤ◌, nat_lt, if◌then◌else◌}
use Rattle.std.proofs.lemmas.Bool.{cases_lt, le-ltb, lt-ltb, ltb-false, and_parts, or_cases, eqb-true}
use Rattle.std.proofs.lemmas.Option.{same_Some}
use Rattle.node_env.specs.Env.{Extent, region_size}
use Rattle.node_env.specs.Helpers.{helper_of, arguments_of, argument_count_of}
use Rattle.node_env.specs.declared.helper.Helper.{Helper}
use Rattle.node_env.specs.declared.helper.Helper.TheVariants.{Id, Recv, Send, Coin}
use Rattle.node_env.specs.declared.region.Region.TheVariants.{Mem, Stack}
use Rattle.node_env.specs.Dwords.{dword_of, is_aligned}
use Rattle.bpf_insn.specs.declared.forms.Reg.{Reg}
use Rattle.bpf_insn.specs.declared.forms.Reg.TheVariants.{R0, R1, R2}
use Rattle.bpf_insn.specs.declared.forms.Width.{Width}
use Rattle.bpf_insn.specs.declared.forms.Width.TheVariants.{W32, W64}
use Rattle.bpf_insn.specs.declared.forms.AluOp.{AluOp}
use Rattle.bpf_insn.specs.declared.forms.AluOp.TheVariants.{Add, Sub, Mul, Div, Sdiv, Or, And, Lsh, Rsh, Mod, Smod, Xor, Mov, Arsh}
use Rattle.bpf_insn.specs.declared.forms.Operand.{Operand}
use Rattle.bpf_insn.specs.declared.forms.Operand.TheVariants as operand
use Rattle.bpf_insn.specs.declared.forms.Insn.{Insn}
use Rattle.bpf_insn.specs.declared.forms.Insn.TheVariants as i
use Rattle.bpf_insn.specs.Registers.{register_number}
use Rattle.bpf_insn.specs.Edges.{moved}
use Rattle.bpf_insn.specs.Operands.{reads, operand_reads, alu_reads, argument_registers, access_bytes, sx_access_bytes}
use Rattle.value_range.specs.Span.{Span, IsInside, HasMembers, is_single}
use Rattle.value_range.specs.Results.{alu_of}
use Rattle.value_range.proofs.Growing.{alu_grows, single_inside, single_below}
use Rattle.bpf_verify.specs.declared.abstract_value.AbstractValue.{AbstractValue}
use Rattle.bpf_verify.specs.declared.abstract_value.AbstractValue.TheVariants.{Unset, Number, Pointer}
use Rattle.bpf_verify.specs.declared.rule.Rule.TheVariants.{NotForward, BadTarget, UnknownHelper, UnsetRegister, FrameWrite, PointerMisuse, OutOfRegion, UnsetStackByte, BadArgument, ExitNotNumber, NotPointer}
use Rattle.bpf_verify.specs.States.{AbstractState, kind_of, IsKindIn, IsContainedIn, IsProperKind, IsProper}
use Rattle.bpf_verify.specs.Rules.{some_unset, is_unset_kind, is_pointer_kind, is_number_kind, operand_kind, reads_unset, passes, misuses_sum, misuses_difference, misuses_operands, may_misuse_pointer, may_leave, may_leave_region, may_leave_regions, lacks, lacks_between, lacks_byte, misses_byte, is_whole, takes_dword, touches_written, touches_between, touches_byte, may_take_part, loads_unset, may_reach, helper_may_refuse, misses_argument, may_exit_with_pointer, accesses_number, KeepsRules}
use Rattle.bpf_verify.proofs.StateLaws.{kind_in_itself}

pub or_false : (a b : Bool) → (a || b) ≡ false → (a ≡ false) × (b ≡ false)
or_false true b e = absurd cc
or_false false b e = (refl, e)

both_false : (a b : Bool) → a ≡ false → b ≡ false → (a || b) ≡ false
both_false a b e f = rw (e, f) refl

-- ---- kinds: where the one that says less is set, the other is of the same sort

unset_grows : (k l : AbstractValue) → IsKindIn k l → is_unset_kind l ≡ false → is_unset_kind k ≡ false
unset_grows k Unset p e = absurd cc
unset_grows k (Number b) (a, is, inside) e = rw is refl
unset_grows k (Pointer region b) (a, is, inside) e = rw is refl

pointer_grows : (k l : AbstractValue) → IsKindIn k l → is_unset_kind l ≡ false → is_pointer_kind l ≡ false
    → is_pointer_kind k ≡ false
pointer_grows k Unset p e f = absurd cc
pointer_grows k (Number b) (a, is, inside) e f = rw is refl
pointer_grows k (Pointer region b) p e f = absurd cc

number_grows : (k l : AbstractValue) → IsKindIn k l → is_unset_kind l ≡ false → is_number_kind l ≡ false
    → is_number_kind k ≡ false
number_grows k Unset p e f = absurd cc
number_grows k (Number b) p e f = absurd cc
number_grows k (Pointer region b) (a, is, inside) e f = rw is refl

not_false : (b : Bool) → not b ≡ false → b ≡ true
not_false true e = refl
not_false false e = absurd cc

lt_of : (a b : ℕ) → nat_lt a b ≡ true → a < b
lt_of a b e = elim (cases_lt a b) [ inl h ↦ h | inr h ↦ absurd (apart (nat_lt a b) (le-ltb a b h) e) ]
  where
    apart : (t : Bool) → t ≡ false → t ≡ true → ⊥
    apart true f g = absurd cc
    apart false f g = absurd cc

below_grows : (limit : ℕ) (k l : AbstractValue) → IsKindIn k l → is_unset_kind l ≡ false → may_reach limit l ≡ false
    → may_reach limit k ≡ false
below_grows limit k Unset p e f = absurd cc
below_grows limit k (Number b) (a, is, inside) e f =
    let h = lt_of b.hi limit (not_false (nat_lt b.hi limit) f) in
    rw (is, lt-ltb a.hi limit (omega (arith, inside.high))) refl
below_grows limit k (Pointer region b) p e f = absurd cc

pub operand_in : (width : Width) (src : Operand) (A C : AbstractState) → IsContainedIn A C
    → IsKindIn (operand_kind width src A) (operand_kind width src C)
operand_in width (operand.Imm imm) A C p = kind_in_itself (operand_kind width (operand.Imm imm) A)
operand_in width (operand.Reg register) A C p = p.kinds (register_number register)

abbrev pub Unread : AbstractState → List Reg → Type 0
Unread C registers = some_unset C registers ≡ false

pub operand_set : (width : Width) (src : Operand) (C : AbstractState) → Unread C (operand_reads src)
    → is_unset_kind (operand_kind width src C) ≡ false
operand_set width (operand.Imm imm) C e = refl
operand_set width (operand.Reg register) C e = (or_false (is_unset_kind (kind_of C register)) false e).0

pub one_set : (C : AbstractState) (register : Reg) (rest : List Reg) → Unread C (register ∷ rest)
    → is_unset_kind (kind_of C register) ≡ false
one_set C register rest e = (or_false (is_unset_kind (kind_of C register)) _ e).0

pub rest_set : (C : AbstractState) (register : Reg) (rest : List Reg) → Unread C (register ∷ rest) → Unread C rest
rest_set C register rest e = (or_false (is_unset_kind (kind_of C register)) _ e).1

all_set : (A C : AbstractState) (registers : List Reg) → IsContainedIn A C → Unread C registers → Unread A registers
all_set A C [] p e = refl
all_set A C (register ∷ rest) p e =
    both_false (is_unset_kind (kind_of A register)) (some_unset A rest)
    (unset_grows (kind_of A register) (kind_of C register) (p.kinds (register_number register))
    (one_set C register rest e))
    (all_set A C rest p (rest_set C register rest e))

-- ---- pointers

passes_grows : (shape : Extent) (op : AluOp) (region : _) (a b c d : Span) → HasMembers a → HasMembers b → IsInside a c
    → IsInside b d
    → passes shape region (alu_of op W64 c d) ≡ false → passes shape region (alu_of op W64 a b) ≡ false
passes_grows shape op region a b c d m n p q e =
    let less = alu_grows op W64 a b c d m n p q in
    let within = ltb-false (region_size shape region) (alu_of op W64 c d).hi e in
    le-ltb (region_size shape region) (alu_of op W64 a b).hi (omega (arith, less.high))

sum_grows : (shape : Extent) (k l m n : AbstractValue) → IsProperKind k → IsProperKind l → IsKindIn k m → IsKindIn l n
    → is_unset_kind m ≡ false → is_unset_kind n ≡ false
    → misuses_sum shape m n ≡ false → misuses_sum shape k l ≡ false
sum_grows shape k l Unset n x y p q e f g = absurd cc
sum_grows shape k l (Number c) Unset x y p q e f g = absurd cc
sum_grows shape k l (Number c) (Number d) x y (a, is, p) (b, js, q) e f g = rw (is, js) refl
sum_grows shape k l (Number c) (Pointer region d) x y (a, is, p) (b, js, q) e f g =
    rw (is, js) (passes_grows shape Add region a b c d (subst IsProperKind is x) (subst IsProperKind js y) p q g)
sum_grows shape k l (Pointer region c) Unset x y p q e f g = absurd cc
sum_grows shape k l (Pointer region c) (Number d) x y (a, is, p) (b, js, q) e f g =
    rw (is, js) (passes_grows shape Add region a b c d (subst IsProperKind is x) (subst IsProperKind js y) p q g)
sum_grows shape k l (Pointer region c) (Pointer other d) x y p q e f g = absurd cc

difference_grows : (shape : Extent) (k l m n : AbstractValue) → IsProperKind k → IsProperKind l → IsKindIn k m → IsKindIn l n
    → is_unset_kind m ≡ false → is_unset_kind n ≡ false
    → misuses_difference shape m n ≡ false → misuses_difference shape k l ≡ false
difference_grows shape k l Unset n x y p q e f g = absurd cc
difference_grows shape k l (Number c) Unset x y p q e f g = absurd cc
difference_grows shape k l (Number c) (Number d) x y (a, is, p) (b, js, q) e f g = rw (is, js) refl
difference_grows shape k l (Number c) (Pointer region d) x y p q e f g = absurd cc
difference_grows shape k l (Pointer region c) Unset x y p q e f g = absurd cc
difference_grows shape k l (Pointer region c) (Number d) x y (a, is, p) (b, js, q) e f g =
    rw (is, js) (passes_grows shape Sub region a b c d (subst IsProperKind is x) (subst IsProperKind js y) p q g)
difference_grows shape k l (Pointer region c) (Pointer other d) x y p q e f g = absurd cc

plain_grows : (k l m n : AbstractValue) → IsKindIn k m → IsKindIn l n → is_unset_kind m ≡ false → is_unset_kind n ≡ false
    → (is_pointer_kind m || is_pointer_kind n) ≡ false → (is_pointer_kind k || is_pointer_kind l) ≡ false
plain_grows k l m n p q e f g =
    let h = or_false (is_pointer_kind m) (is_pointer_kind n) g in
    both_false (is_pointer_kind k) (is_pointer_kind l) (pointer_grows k m p e h.0) (pointer_grows l n q f h.1)

-- ---- accesses

-- a place further on, moved alike
pub moved_up : (a b : ℕ) (off : ℤ) (m : ℕ) → a ≤ b → moved a off ≡ Some m → (n : ℕ) × (moved b off ≡ Some n) × (m ≤ n)
moved_up a b (pos n) m h e = (b + n, refl, omega (arith, same_Some (a + n) m e))
moved_up a b (negsuc n) m h e = by (cases_lt n a)
  where
    by : (n < a) ⊎ (a ≤ n) → (k : ℕ) × (moved b (negsuc n) ≡ Some k) × (m ≤ k)
    by (inl low) =
        let found : ◌≡◌ {A = Option ℕ} (Some (a - suc n)) (Some m) = sym
        (ap (λ t. if t then Some (a - suc n) else None) (lt-ltb n a low)) ∙ e in
        (b - suc n, rw (lt-ltb n b (omega arith)) refl, omega (arith, same_Some (a - suc n) m found))
    by (inr high) = absurd (none (sym (ap (λ t. if t then Some (a - suc n) else None) (le-ltb n a high)) ∙ e))
      where
        none : ◌≡◌ {A = Option ℕ} None (Some m) → ⊥
        none f = absurd cc

-- accesses that stay inside
pub stays : (size : ℕ) (first last : Option ℕ) (count : ℕ) → may_leave size first last count ≡ false
    → (f : ℕ) × (l : ℕ) × (first ≡ Some f) × (last ≡ Some l) × (l + count ≤ size)
stays size None last count e = absurd cc
stays size (Some f) None count e = absurd cc
stays size (Some f) (Some l) count e = (f, l, refl, refl, ltb-false size (l + count) e)

-- the lowest and the highest place of accesses, where less is known and where more is
pub record Places (a b : Span) (off : ℤ) (count size : ℕ) : Type 0 where
  pub low : ℕ
  pub high : ℕ
  pub low' : ℕ
  pub high' : ℕ
  pub first : moved b.lo off ≡ Some low
  pub last : moved b.hi off ≡ Some high
  pub first' : moved a.lo off ≡ Some low'
  pub last' : moved a.hi off ≡ Some high'
  pub above : low ≤ low'
  pub below : high' ≤ high
  pub inside : high + count ≤ size

pub places : (a b : Span) (off : ℤ) (count size : ℕ) → HasMembers a → IsInside a b
    → may_leave size (moved b.lo off) (moved b.hi off) count ≡ false → Places a b off count size
places a b off count size members p e =
    let s = stays size (moved b.lo off) (moved b.hi off) count e in
    let x = moved_up b.lo a.lo off s.0 p.low s.2 in
    let y = moved_up a.lo a.hi off x.0 members.ordered x.1 in
    let z = moved_up a.hi b.hi off y.0 p.high y.1 in
    let same : z.0 ≡ s.1 = same_Some z.0 s.1 (sym z.1 ∙ s.3) in
    record {
      low = s.0;
      high = s.1;
      low' = x.0;
      high' = y.0;
      first = s.2;
      last = s.3;
      first' = x.1;
      last' = y.1;
      above = x.2;
      below = omega (arith, z.2, same);
      inside = s.4;
    }

region_grows : (shape : Extent) (k l : AbstractValue) (off : ℤ) (count : ℕ) → IsProperKind k → IsKindIn k l
    → is_unset_kind l ≡ false
    → may_leave_region shape l off count ≡ false → may_leave_region shape k off count ≡ false
region_grows shape k Unset off count x p e f = absurd cc
region_grows shape k (Number b) off count x (a, is, p) e f = rw is refl
region_grows shape k (Pointer region b) off count x (a, is, p) e f =
    let at = places a b off count (region_size shape region) (subst IsProperKind is x) p f in
    rw (is, at.first', at.last') (le-ltb (region_size shape region) (at.high' + count)
    (omega (arith, at.below, at.inside)))

-- ---- written bytes

true_of : (b : Bool) → not b ≡ false → b ≡ true
true_of true e = refl
true_of false e = absurd cc

all_there : (A : AbstractState) (first count : ℕ) → lacks A first count ≡ false → (byte : ℕ) → first ≤ byte
    → byte < first + count → A.written byte ≡ true
all_there A first zero e byte p q = absurd (omega arith)
all_there A first (suc count) e byte p q =
    let h = or_false (not (A.written first)) (lacks A (first + 1) count) e in
    elim (cases_lt first byte) [
      | inl later ↦ all_there A (first + 1) count h.1 byte (omega arith) (omega arith)
      | inr here ↦ let same : first ≡ byte = omega arith in
          subst (λ n. A.written n ≡ true) same (true_of (A.written first) h.0)
    ]

none_lacks : (A : AbstractState) (first count : ℕ)
    → ((byte : ℕ) → first ≤ byte → byte < first + count → A.written byte ≡ true) → lacks A first count ≡ false
none_lacks A first zero h = refl
none_lacks A first (suc count) h =
    rw (h first (omega arith) (omega arith)) (none_lacks A (first + 1) count
    (λ byte p q. h byte (omega arith) (omega arith)))

bytes_grow : (shape : Extent) (A C : AbstractState) (k l : AbstractValue) (off : ℤ) (count : ℕ) → IsContainedIn A C
    → IsProperKind k → IsKindIn k l → is_unset_kind l ≡ false
    → may_leave_region shape l off count ≡ false → lacks_byte C l off count ≡ false → lacks_byte A k off count ≡ false
bytes_grow shape A C k Unset off count c x p e f g = absurd cc
bytes_grow shape A C k (Number b) off count c x (a, is, p) e f g = rw is refl
bytes_grow shape A C k (Pointer Mem b) off count c x (a, is, p) e f g = rw is refl
bytes_grow shape A C k (Pointer Stack b) off count c x (a, is, p) e f g =
    let at = places a b off count (region_size shape Stack) (subst IsProperKind is x) p f in
    let whole : lacks C at.low (at.high + count - at.low) ≡ false =
    sym (ap (λ o. lacks_between C o (moved b.hi off) count) at.first
    ∙ ap (λ o. lacks_between C (Some at.low) o count) at.last) ∙ g in
    rw (is, at.first', at.last') (none_lacks A at.low' (at.high' + count - at.low') (λ byte q r.
    c.written byte (all_there C at.low (at.high + count - at.low) whole byte (omega (arith, at.above))
    (omega (arith, at.above, at.below)))))

-- ---- kept pointers

pub and_false : (b c : Bool) → c ≡ false → (b && c) ≡ false
and_false true c e = e
and_false false c e = refl

-- a double word that is taken whole is so where more is known of the place
pub whole_grows : (a b : Span) (off : ℤ) (count : ℕ) → HasMembers a → IsInside a b → is_whole b off count ≡ true
    → (is_whole a off count ≡ true) × (a.lo ≡ b.lo) × (a.hi ≡ b.hi)
whole_grows a b off count m p e =
    let parts = and_parts (is_single b) (count == 8 && is_aligned (pos b.lo +ℤ off)) e in
    let same = single_inside a b m p parts.0 in
    let single : b.lo ≡ b.hi = eqb-true b.lo b.hi parts.0 in
    (rw (single_below a b m p parts.0, same.0) parts.1, same.0, same.1 ∙ single)

pub pointer_in : (k l : AbstractValue) → IsKindIn k l → is_pointer_kind l ≡ true → is_pointer_kind k ≡ true
pointer_in k Unset p e = absurd cc
pointer_in k (Number b) p e = absurd cc
pointer_in k (Pointer region b) (a, is, p) e = rw is refl

pub no_touch : (A : AbstractState) (first count : ℕ)
    → ((byte : ℕ) → first ≤ byte → byte < first + count → is_pointer_kind (A.entries (dword_of byte)) ≡ false)
    → touches_written A first count ≡ false
no_touch A first zero h = refl
no_touch A first (suc count) h =
    rw (h first (omega arith) (omega arith)) (no_touch A (first + 1) count
    (λ byte p q. h byte (omega arith) (omega arith)))

-- where nothing is known of any double word, no load takes a part of a pointer
pub takes_no_part : (shape : Extent) (A : AbstractState) (k : AbstractValue) (off : ℤ) (count : ℕ)
    → ((dword : ℕ) → A.entries dword ≡ Unset) → may_take_part shape A k off count ≡ false
takes_no_part shape A k off count none =
    and_false (not (may_leave_region shape k off count)) (touches_byte A k off count && not (takes_dword k off count))
    (rw (untouched k) refl)
  where
    between : (first last : Option ℕ) → touches_between A first last count ≡ false
    between (Some first) (Some last) =
        no_touch A first (last + count - first) (λ byte p q. ap is_pointer_kind (none (dword_of byte)))
    between (Some first) None = refl
    between None last = refl

    untouched : (k : AbstractValue) → touches_byte A k off count ≡ false
    untouched Unset = refl
    untouched (Number a) = refl
    untouched (Pointer Mem a) = refl
    untouched (Pointer Stack a) = between (moved a.lo off) (moved a.hi off)

touches_grow : (A C : AbstractState) (first count : ℕ) → IsContainedIn A C → touches_written C first count ≡ true
    → touches_written A first count ≡ true
touches_grow A C first zero p e = absurd cc
touches_grow A C first (suc count) p e =
    elim (or_cases (is_pointer_kind (C.entries (dword_of first))) (touches_written C (first + 1) count) e) [
      | inl here ↦ rw (pointer_in (A.entries (dword_of first)) (C.entries (dword_of first))
          (p.entries (dword_of first)) here) refl
      | inr later ↦ or_right (is_pointer_kind (A.entries (dword_of first))) (touches_written A (first + 1) count)
          (touches_grow A C (first + 1) count p later)
    ]
  where
    or_right : (b c : Bool) → c ≡ true → (b || c) ≡ true
    or_right true c e = refl
    or_right false c e = e

-- a byte that is surely written isn't of a kept pointer
pub not_kept : (A : AbstractState) (byte : ℕ) → IsProper A → A.written byte ≡ true
    → is_pointer_kind (A.entries (dword_of byte)) ≡ false
not_kept A byte proper e = by (is_pointer_kind (A.entries (dword_of byte))) refl
  where
    by : (b : Bool) → is_pointer_kind (A.entries (dword_of byte)) ≡ b
        → is_pointer_kind (A.entries (dword_of byte)) ≡ false
    by true f = let no : true ≡ false = sym e ∙ proper.apart byte f in absurd cc
    by false f = f

-- either no byte of a kept pointer is taken, and then all are surely written, or the double word is taken whole
pub data TakenCase (C : AbstractState) (b : Span) (off : ℤ) (count : ℕ) : Type 0 where
  beside : touches_byte C (Pointer Stack b) off count ≡ false → lacks_byte C (Pointer Stack b) off count ≡ false
      → TakenCase C b off count
  back : touches_byte C (Pointer Stack b) off count ≡ true → is_whole b off count ≡ true → TakenCase C b off count

pub taken_case : (shape : Extent) (C : AbstractState) (b : Span) (off : ℤ) (count : ℕ)
    → may_leave_region shape (Pointer Stack b) off count ≡ false
    → may_take_part shape C (Pointer Stack b) off count ≡ false
    → misses_byte C (Pointer Stack b) off count ≡ false → TakenCase C b off count
taken_case shape C b off count f g h = by (touches_byte C (Pointer Stack b) off count) (is_whole b off count) refl refl
  where
    part : (touches_byte C (Pointer Stack b) off count && not (is_whole b off count)) ≡ false
    part = sym (ap (λ x. not x && (touches_byte C (Pointer Stack b) off count && not (is_whole b off count))) f) ∙ g

    last : (b c : Bool) → (b && not c) ≡ false → c ≡ false → b ≡ false
    last true c e f = let no : true ≡ false = sym (ap not f) ∙ e in absurd cc
    last false c e f = refl

    by : (t w : Bool) → touches_byte C (Pointer Stack b) off count ≡ t → is_whole b off count ≡ w
        → TakenCase C b off count
    by false w e i = beside e
        (last (lacks_byte C (Pointer Stack b) off count) (touches_byte C (Pointer Stack b) off count) h e)
    by true true e i = back e i
    by true false e i = let no : true ≡ false = sym e
        ∙ last (touches_byte C (Pointer Stack b) off count) (is_whole b off count) part i in absurd cc

-- the bytes that are taken where more is known are surely written, where those are that are taken where less is
pub written_there : (shape : Extent) (A C : AbstractState) (a b : Span) (off : ℤ) (count : ℕ) → IsContainedIn A C
    → HasMembers a → IsInside a b → may_leave_region shape (Pointer Stack b) off count ≡ false
    → lacks_byte C (Pointer Stack b) off count ≡ false → (low high byte : ℕ) → moved a.lo off ≡ Some low
    → moved a.hi off ≡ Some high → low ≤ byte → byte < high + count → A.written byte ≡ true
written_there shape A C a b off count c m p f g low high byte is has q r =
    let at = places a b off count (region_size shape Stack) m p f in
    let whole : lacks C at.low (at.high + count - at.low) ≡ false =
    sym (ap (λ o. lacks_between C o (moved b.hi off) count) at.first
    ∙ ap (λ o. lacks_between C (Some at.low) o count) at.last) ∙ g in
    let lows : at.low' ≡ low = same_Some at.low' low (sym at.first' ∙ is) in
    let highs : at.high' ≡ high = same_Some at.high' high (sym at.last' ∙ has) in
    c.written byte (all_there C at.low (at.high + count - at.low) whole byte (omega (arith, at.above, lows, q))
    (omega (arith, at.above, at.below, lows, highs, q, r)))

pub beside_grows : (shape : Extent) (A C : AbstractState) (a b : Span) (off : ℤ) (count : ℕ) → IsContainedIn A C
    → IsProper A → HasMembers a → IsInside a b → may_leave_region shape (Pointer Stack b) off count ≡ false
    → lacks_byte C (Pointer Stack b) off count ≡ false → touches_byte A (Pointer Stack a) off count ≡ false
beside_grows shape A C a b off count c proper m p f g =
    let at = places a b off count (region_size shape Stack) m p f in
    rw (at.first', at.last') (no_touch A at.low' (at.high' + count - at.low') (λ byte q r.
    not_kept A byte proper (written_there shape A C a b off count c m p f g at.low' at.high' byte at.first' at.last' q
    (omega (arith, q, r)))))

part_grows : (shape : Extent) (A C : AbstractState) (k l : AbstractValue) (off : ℤ) (count : ℕ) → IsContainedIn A C → IsProper A
    → IsProperKind k → IsKindIn k l → is_unset_kind l ≡ false → may_leave_region shape l off count ≡ false
    → misses_byte C l off count ≡ false → may_take_part shape C l off count ≡ false
    → may_take_part shape A k off count ≡ false
part_grows shape A C k Unset off count c proper x p e f g h = absurd cc
part_grows shape A C k (Number b) off count c proper x (a, is, p) e f g h = rw is refl
part_grows shape A C k (Pointer Mem b) off count c proper x (a, is, p) e f g h =
    rw is (and_false (not (may_leave_region shape (Pointer Mem a) off count)) false refl)
part_grows shape A C k (Pointer Stack b) off count c proper x (a, is, p) e f g h =
    let m = subst IsProperKind is x in
    let t = touches_byte A (Pointer Stack a) off count in
    rw is (and_false (not (may_leave_region shape (Pointer Stack a) off count)) (t && not (is_whole a off count))
    (elim (taken_case shape C b off count f h g) [
      | beside none all ↦ rw (beside_grows shape A C a b off count c proper m p f all) refl
      | back some whole ↦ and_false t (not (is_whole a off count))
          (ap not (whole_grows a b off count m p whole).0)
    ]))

misses_grow : (shape : Extent) (A C : AbstractState) (k l : AbstractValue) (off : ℤ) (count : ℕ) → IsContainedIn A C → IsProper A
    → IsProperKind k → IsKindIn k l → is_unset_kind l ≡ false → may_leave_region shape l off count ≡ false
    → may_take_part shape C l off count ≡ false → misses_byte C l off count ≡ false → misses_byte A k off count ≡ false
misses_grow shape A C k Unset off count c proper x p e f h g = absurd cc
misses_grow shape A C k (Number b) off count c proper x (a, is, p) e f h g = rw is refl
misses_grow shape A C k (Pointer Mem b) off count c proper x (a, is, p) e f h g = rw is refl
misses_grow shape A C k (Pointer Stack b) off count c proper x (a, is, p) e f h g =
    let m = subst IsProperKind is x in
    elim (taken_case shape C b off count f h g) [
      | beside none all ↦
          let more = bytes_grow shape A C k (Pointer Stack b) off count c x (a, is, p) e f all in
          rw more refl
      | back some whole ↦
          let same = whole_grows a b off count m p whole in
          let s = stays (region_size shape Stack) (moved b.lo off) (moved b.hi off) count f in
          let first : moved a.lo off ≡ Some s.0 = ap (λ n. moved n off) same.1 ∙ s.2 in
          let last : moved a.hi off ≡ Some s.1 = ap (λ n. moved n off) same.2 ∙ s.3 in
          let there : touches_written C s.0 (s.1 + count - s.0) ≡ true =
          sym (ap (λ o. touches_between C o (moved b.hi off) count) s.2
          ∙ ap (λ o. touches_between C (Some s.0) o count) s.3) ∙ some in
          let here : touches_byte A (Pointer Stack a) off count ≡ true =
          rw (first, last) (touches_grow A C s.0 (s.1 + count - s.0) c there) in
          rw is (and_false (lacks_byte A (Pointer Stack a) off count)
          (not (touches_byte A (Pointer Stack a) off count)) (ap not here))
    ]

-- a pointer that may be kept may be kept where more is known
keep_grows : (k l m n : AbstractValue) (off : ℤ) (count : ℕ) → IsProperKind k → IsKindIn k l → IsKindIn m n
    → is_unset_kind n ≡ false → (is_pointer_kind n && not (takes_dword l off count)) ≡ false
    → (is_pointer_kind m && not (takes_dword k off count)) ≡ false
keep_grows k l m Unset off count x p q e f = absurd cc
keep_grows k l m (Number d) off count x p (b, js, q) e f = rw js refl
keep_grows k Unset m (Pointer region d) off count x p q e f = absurd cc
keep_grows k (Number b) m (Pointer region d) off count x p q e f = absurd cc
keep_grows k (Pointer Mem b) m (Pointer region d) off count x p q e f = absurd cc
keep_grows k (Pointer Stack b) m (Pointer region d) off count x (a, is, p) (c, js, q) e f =
    let whole : is_whole b off count ≡ true = not_false (is_whole b off count) f in
    rw (is, js, (whole_grows a b off count (subst IsProperKind is x) p whole).0) refl

-- ---- pointers that are used

module _ (shape : Extent) (A C : AbstractState) (proper : IsProper A) (p : IsContainedIn A C) where
  kind_in : (register : Reg) → IsKindIn (kind_of A register) (kind_of C register)
  kind_in register = p.kinds (register_number register)

  proper_of : (register : Reg) → IsProperKind (kind_of A register)
  proper_of register = proper.kinds (register_number register)

  proper_operand : (width : Width) (src : Operand) → IsProperKind (operand_kind width src A)
  proper_operand width (operand.Imm imm) = record { ordered = omega arith }
  proper_operand width (operand.Reg register) = proper_of register

  plain : (width : Width) (dst : Reg) (src : Operand) → Unread C (dst ∷ operand_reads src)
      → (is_pointer_kind (kind_of C dst) || is_pointer_kind (operand_kind width src C)) ≡ false
      → (is_pointer_kind (kind_of A dst) || is_pointer_kind (operand_kind width src A)) ≡ false
  plain width dst src e g =
      plain_grows (kind_of A dst) (operand_kind width src A) (kind_of C dst) (operand_kind width src C) (kind_in dst)
      (operand_in width src A C p)
      (one_set C dst (operand_reads src) e) (operand_set width src C (rest_set C dst (operand_reads src) e)) g

  alu_misuse : (op : AluOp) (width : Width) (dst : Reg) (src : Operand) → Unread C (alu_reads op dst src)
      → misuses_operands shape op width (kind_of C dst) (operand_kind width src C) ≡ false
      → misuses_operands shape op width (kind_of A dst) (operand_kind width src A) ≡ false
  alu_misuse Mov W64 dst src e g = refl
  alu_misuse Mov W32 dst src e g = pointer_grows (operand_kind W32 src A) (operand_kind W32 src C)
      (operand_in W32 src A C p) (operand_set W32 src C e) g
  alu_misuse Add W64 dst src e g =
      sum_grows shape (kind_of A dst) (operand_kind W64 src A) (kind_of C dst) (operand_kind W64 src C) (proper_of dst)
      (proper_operand W64 src) (kind_in dst) (operand_in W64 src A C p)
      (one_set C dst (operand_reads src) e) (operand_set W64 src C (rest_set C dst (operand_reads src) e)) g
  alu_misuse Sub W64 dst src e g =
      difference_grows shape (kind_of A dst) (operand_kind W64 src A) (kind_of C dst) (operand_kind W64 src C)
      (proper_of dst) (proper_operand W64 src) (kind_in dst) (operand_in W64 src A C p)
      (one_set C dst (operand_reads src) e) (operand_set W64 src C (rest_set C dst (operand_reads src) e)) g
  alu_misuse Add W32 dst src e g = plain W32 dst src e g
  alu_misuse Sub W32 dst src e g = plain W32 dst src e g
  alu_misuse Mul width dst src e g = plain width dst src e g
  alu_misuse Div width dst src e g = plain width dst src e g
  alu_misuse Sdiv width dst src e g = plain width dst src e g
  alu_misuse Or width dst src e g = plain width dst src e g
  alu_misuse And width dst src e g = plain width dst src e g
  alu_misuse Lsh width dst src e g = plain width dst src e g
  alu_misuse Rsh width dst src e g = plain width dst src e g
  alu_misuse Mod width dst src e g = plain width dst src e g
  alu_misuse Smod width dst src e g = plain width dst src e g
  alu_misuse Xor width dst src e g = plain width dst src e g
  alu_misuse Arsh width dst src e g = plain width dst src e g

  one_pointer : (register : Reg) (rest : List Reg) → Unread C (register ∷ rest)
      → is_pointer_kind (kind_of C register) ≡ false → is_pointer_kind (kind_of A register) ≡ false
  one_pointer register rest e g = pointer_grows (kind_of A register) (kind_of C register) (kind_in register)
      (one_set C register rest e) g

  part : (base : Reg) (off : ℤ) (count : ℕ) → Unread C (base ∷ [])
      → may_leave_region shape (kind_of C base) off count ≡ false → misses_byte C (kind_of C base) off count ≡ false
      → may_take_part shape C (kind_of C base) off count ≡ false
      → may_take_part shape A (kind_of A base) off count ≡ false
  part base off count e f g h =
      part_grows shape A C (kind_of A base) (kind_of C base) off count p proper (proper_of base) (kind_in base)
      (one_set C base [] e) f g h

  misuse : (insn : Insn) → reads_unset insn C ≡ false → may_leave_regions shape insn C ≡ false
      → loads_unset insn C ≡ false → may_misuse_pointer shape insn C ≡ false → may_misuse_pointer shape insn A ≡ false
  misuse (i.Alu op width dst src) e f h g = alu_misuse op width dst src e g
  misuse (i.Neg width dst) e f h g = one_pointer dst [] e g
  misuse (i.Movsx kind dst src) e f h g = one_pointer src [] e g
  misuse (i.Swap order bits dst) e f h g = one_pointer dst [] e g
  misuse (i.Ja off) e f h g = refl
  misuse (i.JaLong off) e f h g = refl
  misuse (i.Branch test width dst src off) e f h g = plain width dst src e g
  misuse (i.Call id) e f h g = refl
  misuse i.Exit e f h g = refl
  misuse (i.Load size dst base off) e f h g = part base off (access_bytes size) e
      (or_false (may_leave_region shape (kind_of C base) off (access_bytes size)) false f).0 h g
  misuse (i.LoadSx size dst base off) e f h g = part base off (sx_access_bytes size) e
      (or_false (may_leave_region shape (kind_of C base) off (sx_access_bytes size)) false f).0 h g
  misuse (i.StoreReg size base off src) e f h g =
      keep_grows (kind_of A base) (kind_of C base) (kind_of A src) (kind_of C src) off (access_bytes size)
      (proper_of base) (kind_in base) (kind_in src) (one_set C src [] (rest_set C base (src ∷ []) e)) g
  misuse (i.StoreImm size base off imm) e f h g = refl
  misuse (i.LoadImm64 dst value) e f h g = refl

-- ---- the rules

-- the registers that a call reads
abbrev helper_registers : Option Helper → List Reg
helper_registers None = []
helper_registers (Some Id) = []
helper_registers (Some Recv) = R1 ∷ []
helper_registers (Some Send) = R1 ∷ R2 ∷ []
helper_registers (Some Coin) = []

called_registers : (given : Option Helper) → argument_registers (argument_count_of given) ≡ helper_registers given
called_registers None = refl
called_registers (Some Id) = refl
called_registers (Some Recv) = refl
called_registers (Some Send) = refl
called_registers (Some Coin) = refl

module _ (shape : Extent) (A C : AbstractState) (proper : IsProper A) (p : IsContainedIn A C) where
  on_load : (base : Reg) (off : ℤ) (count : ℕ) → is_unset_kind (kind_of C base) ≡ false
      → may_leave_region shape (kind_of C base) off count ≡ false
      → may_leave_region shape (kind_of A base) off count ≡ false
  on_load base off count e f =
      region_grows shape (kind_of A base) (kind_of C base) off count (proper.kinds (register_number base))
      (p.kinds (register_number base)) e f

  left_false : (a : Bool) → a ≡ false → (a || false) ≡ false
  left_false a e = rw e refl

  regions : (insn : Insn) → reads_unset insn C ≡ false → may_leave_regions shape insn C ≡ false
      → may_leave_regions shape insn A ≡ false
  regions (i.Alu op width dst src) e f = refl
  regions (i.Neg width dst) e f = refl
  regions (i.Movsx kind dst src) e f = refl
  regions (i.Swap order bits dst) e f = refl
  regions (i.Ja off) e f = refl
  regions (i.JaLong off) e f = refl
  regions (i.Branch test width dst src off) e f = refl
  regions (i.Call id) e f = refl
  regions i.Exit e f = refl
  regions (i.Load size dst base off) e f =
      left_false _ (on_load base off (access_bytes size) (one_set C base [] e)
      (or_false (may_leave_region shape (kind_of C base) off (access_bytes size)) false f).0)
  regions (i.LoadSx size dst base off) e f =
      left_false _ (on_load base off (sx_access_bytes size) (one_set C base [] e)
      (or_false (may_leave_region shape (kind_of C base) off (sx_access_bytes size)) false f).0)
  regions (i.StoreReg size base off src) e f = on_load base off (access_bytes size) (one_set C base (src ∷ []) e) f
  regions (i.StoreImm size base off imm) e f = on_load base off (access_bytes size) (one_set C base [] e) f
  regions (i.LoadImm64 dst value) e f = refl

  bytes : (insn : Insn) → reads_unset insn C ≡ false → may_leave_regions shape insn C ≡ false
      → may_misuse_pointer shape insn C ≡ false → loads_unset insn C ≡ false → loads_unset insn A ≡ false
  bytes (i.Alu op width dst src) e f h g = refl
  bytes (i.Neg width dst) e f h g = refl
  bytes (i.Movsx kind dst src) e f h g = refl
  bytes (i.Swap order bits dst) e f h g = refl
  bytes (i.Ja off) e f h g = refl
  bytes (i.JaLong off) e f h g = refl
  bytes (i.Branch test width dst src off) e f h g = refl
  bytes (i.Call id) e f h g = refl
  bytes i.Exit e f h g = refl
  bytes (i.Load size dst base off) e f h g =
      misses_grow shape A C (kind_of A base) (kind_of C base) off (access_bytes size) p proper
      (proper.kinds (register_number base)) (p.kinds (register_number base)) (one_set C base [] e)
      (or_false (may_leave_region shape (kind_of C base) off (access_bytes size)) false f).0 h g
  bytes (i.LoadSx size dst base off) e f h g =
      misses_grow shape A C (kind_of A base) (kind_of C base) off (sx_access_bytes size) p proper
      (proper.kinds (register_number base)) (p.kinds (register_number base)) (one_set C base [] e)
      (or_false (may_leave_region shape (kind_of C base) off (sx_access_bytes size)) false f).0 h g
  bytes (i.StoreReg size base off src) e f h g = refl
  bytes (i.StoreImm size base off imm) e f h g = refl
  bytes (i.LoadImm64 dst value) e f h g = refl

  argument : (limit : ℕ) (register : Reg) (rest : List Reg) → Unread C (register ∷ rest)
      → may_reach limit (kind_of C register) ≡ false → may_reach limit (kind_of A register) ≡ false
  argument limit register rest e f =
      below_grows limit (kind_of A register) (kind_of C register) (p.kinds (register_number register))
      (one_set C register rest e) f

  helper : (given : Option Helper) → (registers : List Reg) → Unread C registers → registers ≡ helper_registers given
      → helper_may_refuse shape given C ≡ false → helper_may_refuse shape given A ≡ false
  helper None registers e r f = refl
  helper (Some Id) registers e r f = refl
  helper (Some Coin) registers e r f = refl
  helper (Some Recv) registers e r f = argument shape.nodes R1 [] (subst (Unread C) r e) f
  helper (Some Send) registers e r f =
      let h = or_false (may_reach shape.nodes (kind_of C R1)) (may_reach (2 ^ 32) (kind_of C R2)) f in
      let set = subst (Unread C) r e in
      both_false (may_reach shape.nodes (kind_of A R1)) (may_reach (2 ^ 32) (kind_of A R2))
      (argument shape.nodes R1 (R2 ∷ []) set h.0) (argument (2 ^ 32) R2 [] (rest_set C R1 (R2 ∷ []) set) h.1)

  arguments : (insn : Insn) → reads_unset insn C ≡ false → misses_argument shape insn C ≡ false
      → misses_argument shape insn A ≡ false
  arguments (i.Alu op width dst src) e f = refl
  arguments (i.Neg width dst) e f = refl
  arguments (i.Movsx kind dst src) e f = refl
  arguments (i.Swap order bits dst) e f = refl
  arguments (i.Ja off) e f = refl
  arguments (i.JaLong off) e f = refl
  arguments (i.Branch test width dst src off) e f = refl
  arguments (i.Call id) e f = helper (helper_of id) (argument_registers (arguments_of id)) e
      (called_registers (helper_of id)) f
  arguments i.Exit e f = refl
  arguments (i.Load size dst base off) e f = refl
  arguments (i.LoadSx size dst base off) e f = refl
  arguments (i.StoreReg size base off src) e f = refl
  arguments (i.StoreImm size base off imm) e f = refl
  arguments (i.LoadImm64 dst value) e f = refl

  exits : (insn : Insn) → reads_unset insn C ≡ false → may_exit_with_pointer insn C ≡ false
      → may_exit_with_pointer insn A ≡ false
  exits (i.Alu op width dst src) e f = refl
  exits (i.Neg width dst) e f = refl
  exits (i.Movsx kind dst src) e f = refl
  exits (i.Swap order bits dst) e f = refl
  exits (i.Ja off) e f = refl
  exits (i.JaLong off) e f = refl
  exits (i.Branch test width dst src off) e f = refl
  exits (i.Call id) e f = refl
  exits i.Exit e f = pointer_grows (kind_of A R0) (kind_of C R0) (p.kinds 0) (one_set C R0 [] e) f
  exits (i.Load size dst base off) e f = refl
  exits (i.LoadSx size dst base off) e f = refl
  exits (i.StoreReg size base off src) e f = refl
  exits (i.StoreImm size base off imm) e f = refl
  exits (i.LoadImm64 dst value) e f = refl

  based : (base : Reg) (rest : List Reg) → Unread C (base ∷ rest) → is_number_kind (kind_of C base) ≡ false
      → is_number_kind (kind_of A base) ≡ false
  based base rest e f = number_grows (kind_of A base) (kind_of C base) (p.kinds (register_number base))
      (one_set C base rest e) f

  accesses : (insn : Insn) → reads_unset insn C ≡ false → accesses_number insn C ≡ false
      → accesses_number insn A ≡ false
  accesses (i.Alu op width dst src) e f = refl
  accesses (i.Neg width dst) e f = refl
  accesses (i.Movsx kind dst src) e f = refl
  accesses (i.Swap order bits dst) e f = refl
  accesses (i.Ja off) e f = refl
  accesses (i.JaLong off) e f = refl
  accesses (i.Branch test width dst src off) e f = refl
  accesses (i.Call id) e f = refl
  accesses i.Exit e f = refl
  accesses (i.Load size dst base off) e f = left_false _
      (based base [] e (or_false (is_number_kind (kind_of C base)) false f).0)
  accesses (i.LoadSx size dst base off) e f = left_false _
      (based base [] e (or_false (is_number_kind (kind_of C base)) false f).0)
  accesses (i.StoreReg size base off src) e f = based base (src ∷ []) e f
  accesses (i.StoreImm size base off imm) e f = based base [] e f
  accesses (i.LoadImm64 dst value) e f = refl

-- an instruction that keeps the rules keeps them where more is known
pub rules_grow : (program : List Insn) (shape : Extent) (slot : ℕ) (insn : Insn) (A C : AbstractState) → IsProper A
    → IsContainedIn A C
    → KeepsRules program shape slot insn (Some C) → KeepsRules program shape slot insn (Some A)
rules_grow program shape slot insn A C proper p kept NotForward = kept NotForward
rules_grow program shape slot insn A C proper p kept BadTarget = kept BadTarget
rules_grow program shape slot insn A C proper p kept UnknownHelper = kept UnknownHelper
rules_grow program shape slot insn A C proper p kept UnsetRegister = all_set A C (reads arguments_of insn) p
    (kept UnsetRegister)
rules_grow program shape slot insn A C proper p kept FrameWrite = kept FrameWrite
rules_grow program shape slot insn A C proper p kept PointerMisuse = misuse shape A C proper p insn
    (kept UnsetRegister) (kept OutOfRegion) (kept UnsetStackByte) (kept PointerMisuse)
rules_grow program shape slot insn A C proper p kept OutOfRegion = regions shape A C proper p insn (kept UnsetRegister)
    (kept OutOfRegion)
rules_grow program shape slot insn A C proper p kept UnsetStackByte = bytes shape A C proper p insn
    (kept UnsetRegister) (kept OutOfRegion) (kept PointerMisuse) (kept UnsetStackByte)
rules_grow program shape slot insn A C proper p kept BadArgument = arguments shape A C proper p insn
    (kept UnsetRegister) (kept BadArgument)
rules_grow program shape slot insn A C proper p kept ExitNotNumber = exits shape A C proper p insn (kept UnsetRegister)
    (kept ExitNotNumber)
rules_grow program shape slot insn A C proper p kept NotPointer = accesses shape A C proper p insn (kept UnsetRegister)
    (kept NotPointer)

-- the rules that are asked where nothing is known are asked anywhere
pub rules_unreached : (program : List Insn) (shape : Extent) (slot : ℕ) (insn : Insn) (state : Option AbstractState)
    → KeepsRules program shape slot insn state → KeepsRules program shape slot insn None
rules_unreached program shape slot insn state kept NotForward = kept NotForward
rules_unreached program shape slot insn state kept BadTarget = kept BadTarget
rules_unreached program shape slot insn state kept UnknownHelper = kept UnknownHelper
rules_unreached program shape slot insn state kept UnsetRegister = refl
rules_unreached program shape slot insn state kept FrameWrite = kept FrameWrite
rules_unreached program shape slot insn state kept PointerMisuse = refl
rules_unreached program shape slot insn state kept OutOfRegion = refl
rules_unreached program shape slot insn state kept UnsetStackByte = refl
rules_unreached program shape slot insn state kept BadArgument = refl
rules_unreached program shape slot insn state kept ExitNotNumber = refl
rules_unreached program shape slot insn state kept NotPointer = refl
