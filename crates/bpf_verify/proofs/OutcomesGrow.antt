-- Where more is known before an instruction, more is known after it.
use Rattle.std.proofs.Common.{◌≡◌, ℕ, ◌+◌, ◌-◌, ◌*◌, ◌%◌, ◌<◌, ◌≤◌, Bool, true, false, not, ◌||◌, ◌&&◌, ◌==◌, List, [], ◌∷◌, Option, Some, None, refl, sym, ap, subst, ◌∙◌, inl, inr, arith}
use Rattle.std.specs.Prelude.{ℤ, pos, ◌+ℤ◌, nat_le, nat_lt, IsSomeAnd, if◌then◌else◌}
use Rattle.std.proofs.lemmas.Bool.{cases_eq, and_parts, eqb-true, leb-true, ltb-true, le-leb, lt-ltb}
use Rattle.std.proofs.lemmas.Option.{same_Some}
use borrow.Author.Tests.{ne_eqb, eq-eqb}
use Rattle.node_env.specs.Env.{Extent, region_size}
use Rattle.node_env.specs.Helpers.{helper_of}
use Rattle.node_env.specs.declared.helper.Helper.{Helper}
use Rattle.node_env.specs.declared.region.Region.TheVariants.{Mem, Stack}
use Rattle.node_env.specs.Dwords.{dword_of, is_aligned}
use Rattle.bpf_insn.specs.declared.forms.Reg.{Reg}
use Rattle.bpf_insn.specs.declared.forms.Width.{Width}
use Rattle.bpf_insn.specs.declared.forms.Width.TheVariants.{W32, W64}
use Rattle.bpf_insn.specs.declared.forms.AluOp.{AluOp}
use Rattle.bpf_insn.specs.declared.forms.AluOp.TheVariants.{Add, Sub, Mul, Div, Sdiv, Or, And, Lsh, Rsh, Mod, Smod, Xor, Mov, Arsh}
use Rattle.bpf_insn.specs.declared.forms.Cond.{Cond}
use Rattle.bpf_insn.specs.declared.forms.Operand.{Operand}
use Rattle.bpf_insn.specs.declared.forms.Operand.TheVariants as operand
use Rattle.bpf_insn.specs.declared.forms.Insn.{Insn}
use Rattle.bpf_insn.specs.declared.forms.Insn.TheVariants as i
use Rattle.bpf_insn.specs.declared.edges.Way.{Way}
use Rattle.bpf_insn.specs.Registers.{register_number}
use Rattle.bpf_insn.specs.Edges.{moved}
use Rattle.bpf_insn.specs.Operands.{operand_reads, access_bytes}
use Rattle.value_range.specs.Span.{Span, IsInside, HasMembers, is_single, full_of, just, meet_of}
use Rattle.value_range.specs.Results.{alu_of, neg_of, movsx_of, swap_of}
use Rattle.value_range.specs.Conditions.{branch_of, ArePairsInside, IsOptionInside}
use Rattle.value_range.proofs.Growing.{alu_grows, neg_grows, movsx_grows, swap_grows, single_inside, single_below}
use Rattle.value_range.proofs.GrowingPairs.{branch_grows, meet_grows}
use Rattle.bpf_verify.specs.declared.abstract_value.AbstractValue.{AbstractValue}
use Rattle.bpf_verify.specs.declared.abstract_value.AbstractValue.TheVariants.{Unset, Number, Pointer}
use Rattle.bpf_verify.specs.declared.rule.Rule.TheVariants.{UnsetRegister, PointerMisuse, OutOfRegion, UnsetStackByte}
use Rattle.bpf_verify.specs.States.{AbstractState, kind_of, IsKindIn, IsContainedIn, IsProperKind, IsProper}
use Rattle.bpf_verify.specs.Rules.{is_unset_kind, is_pointer_kind, is_number_kind, operand_kind, may_leave_region, lacks_byte, misses_byte, is_whole, takes_dword, touches_byte, may_take_part, KeepsRules}
use Rattle.bpf_verify.specs.Outcomes.{with_kind, sum_kind, difference_kind, of_number_kind, of_number_kinds, alu_kind, is_between, of_bytes, or_full, entry_at, loaded_kind, with_written, entry_written, with_entry, with_cleared, stored_at, is_taken, with_meet, refined_by, branch_outcome, answer_kind, call_outcome, outcome}
use Rattle.bpf_verify.proofs.StateLaws.{kind_in_itself}
use Rattle.bpf_verify.proofs.RulesGrow.{Unread, operand_in, operand_set, one_set, rest_set, or_false, Places, places, moved_up, whole_grows, no_touch, not_kept, TakenCase, beside, back, taken_case, written_there}
use Rattle.bpf_verify.proofs.ProperLaws.{aligned_place, whole_parts}

-- ---- registers

with_grows : (A C : AbstractState) (register : Reg) (k l : AbstractValue) → IsContainedIn A C → IsKindIn k l
    → IsContainedIn (with_kind A register k) (with_kind C register l)
with_grows A C register k l p q =
    record {
      kinds = λ number. elim (cases_eq number (register_number register)) [
        | inl e ↦ rw (eq-eqb number (register_number register) e) q
        | inr n ↦ rw (ne_eqb number (register_number register) n) (p.kinds number)
      ];
      written = λ byte e. p.written byte e;
      entries = λ dword. p.entries dword;
    }

-- ---- arithmetic

one_grows : (result : Span → Span) (k l : AbstractValue)
    → ((a c : Span) → HasMembers a → IsInside a c → IsInside (result a) (result c)) → IsProperKind k → IsKindIn k l
    → IsKindIn (of_number_kind result k) (of_number_kind result l)
one_grows result k Unset h x p = tt
one_grows result k (Number c) h x (a, is, p) = rw is (result a, refl, h a c (subst IsProperKind is x) p)
one_grows result k (Pointer region c) h x p = tt

numbers_grow : (op : AluOp) (width : Width) (k l m n : AbstractValue) → IsProperKind k → IsProperKind l → IsKindIn k m
    → IsKindIn l n
    → IsKindIn (of_number_kinds (alu_of op width) k l) (of_number_kinds (alu_of op width) m n)
numbers_grow op width k l Unset n x y p q = tt
numbers_grow op width k l (Number c) Unset x y p q = tt
numbers_grow op width k l (Number c) (Number d) x y (a, is, p) (b, js, q) =
    rw (is, js) (
      alu_of op width a b,
      refl,
      alu_grows op width a b c d (subst IsProperKind is x)
          (subst IsProperKind js y) p q,
    )
numbers_grow op width k l (Number c) (Pointer region d) x y p q = tt
numbers_grow op width k l (Pointer region c) n x y p q = tt

sums_grow : (k l m n : AbstractValue) → IsProperKind k → IsProperKind l → IsKindIn k m → IsKindIn l n
    → IsKindIn (sum_kind k l) (sum_kind m n)
sums_grow k l Unset n x y p q = tt
sums_grow k l (Number c) Unset x y p q = tt
sums_grow k l (Number c) (Number d) x y (a, is, p) (b, js, q) =
    rw (is, js) (
      alu_of Add W64 a b,
      refl,
      alu_grows Add W64 a b c d (subst IsProperKind is x)
          (subst IsProperKind js y) p q,
    )
sums_grow k l (Number c) (Pointer region d) x y (a, is, p) (b, js, q) =
    rw (is, js) (
      alu_of Add W64 a b,
      refl,
      alu_grows Add W64 a b c d (subst IsProperKind is x)
          (subst IsProperKind js y) p q,
    )
sums_grow k l (Pointer region c) Unset x y p q = tt
sums_grow k l (Pointer region c) (Number d) x y (a, is, p) (b, js, q) =
    rw (is, js) (
      alu_of Add W64 a b,
      refl,
      alu_grows Add W64 a b c d (subst IsProperKind is x)
          (subst IsProperKind js y) p q,
    )
sums_grow k l (Pointer region c) (Pointer other d) x y p q = tt

differences_grow : (k l m n : AbstractValue) → IsProperKind k → IsProperKind l → IsKindIn k m → IsKindIn l n
    → IsKindIn (difference_kind k l) (difference_kind m n)
differences_grow k l Unset n x y p q = tt
differences_grow k l (Number c) Unset x y p q = tt
differences_grow k l (Number c) (Number d) x y (a, is, p) (b, js, q) =
    rw (is, js) (
      alu_of Sub W64 a b,
      refl,
      alu_grows Sub W64 a b c d (subst IsProperKind is x)
          (subst IsProperKind js y) p q,
    )
differences_grow k l (Number c) (Pointer region d) x y p q = tt
differences_grow k l (Pointer region c) Unset x y p q = tt
differences_grow k l (Pointer region c) (Number d) x y (a, is, p) (b, js, q) =
    rw (is, js) (
      alu_of Sub W64 a b,
      refl,
      alu_grows Sub W64 a b c d (subst IsProperKind is x)
          (subst IsProperKind js y) p q,
    )
differences_grow k l (Pointer region c) (Pointer other d) x y p q = tt

moved_grows : (k l : AbstractValue) → IsProperKind k → IsKindIn k l
    → IsKindIn (of_number_kind (λ n. alu_of Mov W32 n n) k) (of_number_kind (λ n. alu_of Mov W32 n n) l)
moved_grows k l x p = one_grows (λ n. alu_of Mov W32 n n) k l (λ a c m q. alu_grows Mov W32 a a c c m m q q) x p

alu_kinds_grow : (op : AluOp) (width : Width) (k l m n : AbstractValue) → IsProperKind k → IsProperKind l → IsKindIn k m
    → IsKindIn l n → IsKindIn (alu_kind op width k l) (alu_kind op width m n)
alu_kinds_grow Mov W64 k l m n x y p q = q
alu_kinds_grow Mov W32 k l m n x y p q = moved_grows l n y q
alu_kinds_grow Add W64 k l m n x y p q = sums_grow k l m n x y p q
alu_kinds_grow Sub W64 k l m n x y p q = differences_grow k l m n x y p q
alu_kinds_grow Add W32 k l m n x y p q = numbers_grow Add W32 k l m n x y p q
alu_kinds_grow Sub W32 k l m n x y p q = numbers_grow Sub W32 k l m n x y p q
alu_kinds_grow Mul width k l m n x y p q = numbers_grow Mul width k l m n x y p q
alu_kinds_grow Div width k l m n x y p q = numbers_grow Div width k l m n x y p q
alu_kinds_grow Sdiv width k l m n x y p q = numbers_grow Sdiv width k l m n x y p q
alu_kinds_grow Or width k l m n x y p q = numbers_grow Or width k l m n x y p q
alu_kinds_grow And width k l m n x y p q = numbers_grow And width k l m n x y p q
alu_kinds_grow Lsh width k l m n x y p q = numbers_grow Lsh width k l m n x y p q
alu_kinds_grow Rsh width k l m n x y p q = numbers_grow Rsh width k l m n x y p q
alu_kinds_grow Mod width k l m n x y p q = numbers_grow Mod width k l m n x y p q
alu_kinds_grow Smod width k l m n x y p q = numbers_grow Smod width k l m n x y p q
alu_kinds_grow Xor width k l m n x y p q = numbers_grow Xor width k l m n x y p q
alu_kinds_grow Arsh width k l m n x y p q = numbers_grow Arsh width k l m n x y p q

-- ---- loads and stores

bytes_inside : (count : ℕ) (a b : Span) → IsInside a b → IsInside (of_bytes count a) (of_bytes count b)
bytes_inside count a b p = record { low = omega (arith, p.low); high = omega (arith, p.high) }

bytes_full : (count : ℕ) (a : Span) → IsInside (of_bytes count a) (full_of (8 * count))
bytes_full count a = record { low = omega arith; high = omega arith }

-- what isn't a kept pointer is any number at most
full_above : (k : AbstractValue) (count : ℕ) → is_pointer_kind k ≡ false
    → IsKindIn (or_full k count) (Number (full_of (8 * count)))
full_above Unset count e = kind_in_itself (Number (full_of (8 * count)))
full_above (Number a) count e = (of_bytes count a, refl, bytes_full count a)
full_above (Pointer region a) count e = absurd cc

or_full_grows : (k l : AbstractValue) (count : ℕ) → IsKindIn k l → (is_unset_kind l ≡ true → is_pointer_kind k ≡ false)
    → IsKindIn (or_full k count) (or_full l count)
or_full_grows k Unset count p h = full_above k count (h refl)
or_full_grows k (Number b) count (a, is, p) h = rw is (of_bytes count a, refl, bytes_inside count a b p)
or_full_grows k (Pointer region b) count (a, is, p) h = rw is (a, refl, p)

-- the bytes of the double word at a place that eight divides
in_dword : (first byte : ℕ) → first % 8 ≡ 0 → first ≤ byte → byte < first + 8 → dword_of byte ≡ dword_of first
in_dword first byte aligned p q = omega (arith, aligned, p, q)

loaded_grows : (shape : Extent) (A C : AbstractState) (k l : AbstractValue) (off : ℤ) (count : ℕ) → IsContainedIn A C
    → IsProper A → IsProperKind k → IsKindIn k l → is_unset_kind l ≡ false → may_leave_region shape l off count ≡ false
    → misses_byte C l off count ≡ false → may_take_part shape C l off count ≡ false
    → IsKindIn (loaded_kind A k off count) (loaded_kind C l off count)
loaded_grows shape A C k Unset off count c proper x p e f g h = absurd cc
loaded_grows shape A C k (Number b) off count c proper x (a, is, p) e f g h =
    rw is (kind_in_itself (Number (full_of (8 * count))))
loaded_grows shape A C k (Pointer Mem b) off count c proper x (a, is, p) e f g h =
    rw is (kind_in_itself (Number (full_of (8 * count))))
loaded_grows shape A C k (Pointer Stack b) off count c proper x (a, is, p) e f g h =
    rw is (by (is_whole a off count) (is_whole b off count) refl refl)
  where
    m : HasMembers a
    m = subst IsProperKind is x

    taken : TakenCase C b off count
    taken = taken_case shape C b off count f h g

    at : Places a b off count (region_size shape Stack)
    at = places a b off count (region_size shape Stack) m p f

    -- where no byte of a kept pointer is taken, the double word keeps none
    no_pointer : lacks_byte C (Pointer Stack b) off count ≡ false → is_whole a off count ≡ true
        → is_pointer_kind (A.entries (dword_of at.low')) ≡ false
    no_pointer all whole =
        let count_is = (whole_parts a off count whole).1 in
        not_kept A at.low' proper (written_there shape A C a b off count c m p f all at.low' at.high' at.low' at.first'
        at.last' (omega arith)
        (omega (arith, count_is, m.ordered, moved_apart at.low' at.high' at.first' at.last')))
      where
        moved_apart : (low high : ℕ) → moved a.lo off ≡ Some low → moved a.hi off ≡ Some high → low ≤ high
        moved_apart low high i j = let up = moved_up a.lo a.hi off low m.ordered i in
            omega (arith, up.2, same_Some up.0 high (sym up.1 ∙ j))

    by : (t w : Bool) → is_whole a off count ≡ t → is_whole b off count ≡ w
        → IsKindIn (if t then entry_at A (moved a.lo off) count else Number (full_of (8 * count)))
        (if w then entry_at C (moved b.lo off) count else Number (full_of (8 * count)))
    by false false i j = kind_in_itself (Number (full_of (8 * count)))
    by true false i j =
        elim taken [
          | back some whole ↦ let no : true ≡ false = sym whole ∙ j in absurd cc
          | beside none all ↦ rw at.first' (full_above (A.entries (dword_of at.low')) count (no_pointer all i))
        ]
    by false true i j = let no : false ≡ true = sym i ∙ (whole_grows a b off count m p j).0 in absurd cc
    by true true i j =
        let same : at.low' ≡ at.low =
        same_Some at.low' at.low (sym at.first'
        ∙ (ap (λ n. moved n off) (whole_grows a b off count m p j).1 ∙ at.first)) in
        let grows : IsKindIn (or_full (A.entries (dword_of at.low')) count)
        (or_full (C.entries (dword_of at.low')) count) =
        or_full_grows (A.entries (dword_of at.low')) (C.entries (dword_of at.low')) count (c.entries (dword_of at.low'))
        (λ unset. elim taken [
          | beside none all ↦ no_pointer all i
          | back some whole ↦ absurd (touched (C.entries (dword_of at.low')) refl unset some)
        ]) in
        rw (at.first', at.first, sym same) grows
      where
        none_at : (byte : ℕ) → is_unset_kind (C.entries (dword_of at.low')) ≡ true → at.low' ≤ byte → byte < at.low' + 8
            → is_pointer_kind (C.entries (dword_of byte)) ≡ false
        none_at byte unset q r =
            let aligned = aligned_place a.lo at.low' off at.first' (whole_parts a off count i).2 in
            rw (in_dword at.low' byte aligned q r) (not_pointer (C.entries (dword_of at.low')) unset)
          where
            not_pointer : (k : AbstractValue) → is_unset_kind k ≡ true → is_pointer_kind k ≡ false
            not_pointer Unset e = refl
            not_pointer (Number a) e = absurd cc
            not_pointer (Pointer region a) e = absurd cc

        touched : (k : AbstractValue) → C.entries (dword_of at.low') ≡ k → is_unset_kind (C.entries (dword_of at.low')) ≡ true
            → touches_byte C (Pointer Stack b) off count ≡ true → ⊥
        touched k e unset some =
            let ends = whole_grows a b off count m p j in
            let same_low : at.low' ≡ at.low =
            same_Some at.low' at.low (sym at.first' ∙ (ap (λ n. moved n off) ends.1 ∙ at.first)) in
            let one : b.lo ≡ b.hi = eqb-true b.lo b.hi (whole_parts b off count j).0 in
            let same_high : at.high ≡ at.low =
            same_Some at.high at.low (sym at.last ∙ (ap (λ n. moved n off) (sym one) ∙ at.first)) in
            let eight = (whole_parts b off count j).1 in
            let none : touches_byte C (Pointer Stack b) off count ≡ false =
            rw (at.first, at.last) (no_touch C at.low (at.high + count - at.low)
            (λ byte q r. none_at byte unset (omega (arith, same_low, q))
            (omega (arith, same_low, same_high, eight, q, r)))) in
            let no : true ≡ false = sym some ∙ none in absurd cc

-- ---- stores

written_grows : (A C : AbstractState) (first : Option ℕ) (count : ℕ) → IsContainedIn A C
    → IsContainedIn (with_written A first count) (with_written C first count)
written_grows A C None count p = p
written_grows A C (Some first) count p =
    record {
      kinds = λ number. p.kinds number;
      written = λ byte. by (is_between first (first + count) byte) (A.written byte) (C.written byte) (p.written byte);
      entries = λ dword. p.entries dword;
    }
  where
    by : (b a c : Bool) → (c ≡ true → a ≡ true) → (b || c) ≡ true → (b || a) ≡ true
    by true a c h e = refl
    by false a c h e = h e

-- what is known after a store to a double word
entry_written_grows : (v w : AbstractValue) (A C : ℕ → Bool) (first byte : ℕ) → IsKindIn v w → (C byte ≡ true → A byte ≡ true)
    → entry_written w C first byte ≡ true → entry_written v A first byte ≡ true
entry_written_grows Unset Unset A C first byte p h e = by (is_between first (first + 8) byte) (A byte) (C byte) h e
  where
    by : (b a c : Bool) → (c ≡ true → a ≡ true) → (not b && c) ≡ true → (not b && a) ≡ true
    by true a c h e = absurd cc
    by false a c h e = h e
entry_written_grows (Number a) Unset A C first byte p h e = by (is_between first (first + 8) byte) (A byte) (C byte) h e
  where
    by : (b a c : Bool) → (c ≡ true → a ≡ true) → (not b && c) ≡ true → (b || a) ≡ true
    by true a c h e = refl
    by false a c h e = h e
entry_written_grows (Pointer region a) Unset A C first byte p h e =
    by (is_between first (first + 8) byte) (A byte) (C byte) h e
  where
    by : (b a c : Bool) → (c ≡ true → a ≡ true) → (not b && c) ≡ true → (not b && a) ≡ true
    by true a c h e = absurd cc
    by false a c h e = h e
entry_written_grows v (Number d) A C first byte (b, is, p) h e =
    rw is (by (is_between first (first + 8) byte) (A byte) (C byte) h e)
  where
    by : (b a c : Bool) → (c ≡ true → a ≡ true) → (b || c) ≡ true → (b || a) ≡ true
    by true a c h e = refl
    by false a c h e = h e
entry_written_grows v (Pointer region d) A C first byte (b, is, p) h e =
    rw is (by (is_between first (first + 8) byte) (A byte) (C byte) h e)
  where
    by : (b a c : Bool) → (c ≡ true → a ≡ true) → (not b && c) ≡ true → (not b && a) ≡ true
    by true a c h e = absurd cc
    by false a c h e = h e

entry_grows : (A C : AbstractState) (first : Option ℕ) (v w : AbstractValue) → IsContainedIn A C → IsKindIn v w
    → IsContainedIn (with_entry A first v) (with_entry C first w)
entry_grows A C None v w p q = p
entry_grows A C (Some first) v w p q =
    record {
      kinds = λ number. p.kinds number;
      written = λ byte e. entry_written_grows v w A.written C.written first byte q (p.written byte) e;
      entries = λ dword. by (dword == dword_of first) (A.entries dword) (C.entries dword) (p.entries dword);
    }
  where
    by : (b : Bool) (k l : AbstractValue) → IsKindIn k l → IsKindIn (if b then v else k) (if b then w else l)
    by true k l h = q
    by false k l h = h

-- more is known of a double word that is cleared only where less is known of the place
cleared_kind_grows : (s t : Bool) (k l : AbstractValue) → (s ≡ true → t ≡ true) → IsKindIn k l
    → IsKindIn (if s then Unset else k) (if t then Unset else l)
cleared_kind_grows s true k l h p = tt
cleared_kind_grows true false k l h p = let no : false ≡ true = h refl in absurd cc
cleared_kind_grows false false k l h p = p

wider_cleared : (low high low' high' count dword : ℕ) → low ≤ low' → high' ≤ high
    → is_between (dword_of low') (dword_of (high' + count + 7)) dword ≡ true
    → is_between (dword_of low) (dword_of (high + count + 7)) dword ≡ true
wider_cleared low high low' high' count dword p q e =
    let both = and_parts (nat_le (dword_of low') dword) (nat_lt dword (dword_of (high' + count + 7))) e in
    let x : dword_of low' ≤ dword = leb-true (dword_of low') dword both.0 in
    let y : dword < dword_of (high' + count + 7) = ltb-true dword (dword_of (high' + count + 7)) both.1 in
    rw (
      le-leb (dword_of low) dword (omega (arith, p, x)),
      lt-ltb dword (dword_of (high + count + 7))
          (omega (arith, q, y)),
    ) refl

cleared_grows : (A C : AbstractState) (low high low' high' count : ℕ) → low ≤ low' → high' ≤ high → IsContainedIn A C
    → IsContainedIn (with_cleared A (Some low') (Some high') count) (with_cleared C (Some low) (Some high) count)
cleared_grows A C low high low' high' count q r p =
    record {
      kinds = λ number. p.kinds number;
      written = λ byte e. p.written byte e;
      entries = λ dword. cleared_kind_grows (is_between (dword_of low') (dword_of (high' + count + 7)) dword)
          (is_between (dword_of low) (dword_of (high + count + 7)) dword) (A.entries dword) (C.entries dword)
          (wider_cleared low high low' high' count dword q r) (p.entries dword);
    }

more_written : (A C : AbstractState) (first count : ℕ) → IsContainedIn A C
    → IsContainedIn (with_written A (Some first) count) C
more_written A C first count p =
    record {
      kinds = λ number. p.kinds number;
      written = λ byte e. rw (p.written byte e) (or_true (is_between first (first + count) byte));
      entries = λ dword. p.entries dword;
    }
  where
    or_true : (b : Bool) → (b || true) ≡ true
    or_true true = refl
    or_true false = refl

-- a number in a double word that may be touched where less is known of the place
entry_below_cleared : (A C : AbstractState) (low high first count : ℕ) (v : AbstractValue) → count ≡ 8
    → is_number_kind v ≡ true → low ≤ first → first ≤ high → IsContainedIn A C
    → IsContainedIn (with_entry A (Some first) v) (with_cleared C (Some low) (Some high) count)
entry_below_cleared A C low high first count Unset eight n q r p = absurd cc
entry_below_cleared A C low high first count (Pointer region a) eight n q r p = absurd cc
entry_below_cleared A C low high first count (Number a) eight n q r p =
    record {
      kinds = λ number. p.kinds number;
      written = λ byte e. or_right (is_between first (first + 8) byte) (A.written byte) (p.written byte e);
      entries = λ dword. elim (cases_eq dword (dword_of first)) [
        | inl same ↦ rw (touched dword same) tt
        | inr other ↦ rw (ne_eqb dword (dword_of first) other) (cleared_kind_grows false
            (is_between (dword_of low) (dword_of (high + count + 7)) dword) (A.entries dword) (C.entries dword)
            (λ e. absurd cc) (p.entries dword))
      ];
    }
  where
    or_right : (b c : Bool) → c ≡ true → (b || c) ≡ true
    or_right true c e = refl
    or_right false c e = e

    touched : (dword : ℕ) → dword ≡ dword_of first
        → is_between (dword_of low) (dword_of (high + count + 7)) dword ≡ true
    touched dword same =
        rw (
          le-leb (dword_of low) dword (omega (arith, q, same)),
          lt-ltb dword (dword_of (high + count + 7)) (omega (arith, r, same, eight)),
        ) refl

stored_grows : (shape : Extent) (A C : AbstractState) (k l : AbstractValue) (off : ℤ) (count : ℕ) (v w : AbstractValue)
    → IsContainedIn A C → IsProperKind k → IsKindIn k l → IsKindIn v w → is_unset_kind w ≡ false
    → may_leave_region shape l off count ≡ false → (is_pointer_kind w && not (takes_dword l off count)) ≡ false
    → is_unset_kind l ≡ false
    → IsContainedIn (stored_at A k off count v) (stored_at C l off count w)
stored_grows shape A C k Unset off count v w p x q y e f g u = absurd cc
stored_grows shape A C k (Number b) off count v w p x (a, is, q) y e f g u = rw is p
stored_grows shape A C k (Pointer Mem b) off count v w p x (a, is, q) y e f g u = rw is p
stored_grows shape A C k (Pointer Stack b) off count v w p x (a, is, q) y e f g u =
    rw is (by (is_whole b off count) (is_single b) (is_whole a off count) (is_single a) refl refl refl refl)
  where
    m : HasMembers a
    m = subst IsProperKind is x

    at : Places a b off count (region_size shape Stack)
    at = places a b off count (region_size shape Stack) m q f

    number : is_whole b off count ≡ false → is_number_kind v ≡ true
    number away = sort v w y e (last (is_pointer_kind w) (is_whole b off count) g away)
      where
        last : (s t : Bool) → (s && not t) ≡ false → t ≡ false → s ≡ false
        last true t e f = let no : true ≡ false = sym (ap not f) ∙ e in absurd cc
        last false t e f = refl

        sort : (v w : AbstractValue) → IsKindIn v w → is_unset_kind w ≡ false → is_pointer_kind w ≡ false
            → is_number_kind v ≡ true
        sort v Unset y e f = absurd cc
        sort v (Number d) (b, is, y) e f = rw is refl
        sort v (Pointer region d) y e f = absurd cc

    clear : IsContainedIn (with_cleared A (moved a.lo off) (moved a.hi off) count)
        (with_cleared C (moved b.lo off) (moved b.hi off) count)
    clear = rw (at.first, at.last, at.first', at.last')
        (cleared_grows A C at.low at.high at.low' at.high' count at.above at.below p)

    by : (t s t' s' : Bool) → is_whole b off count ≡ t → is_single b ≡ s → is_whole a off count ≡ t' → is_single a ≡ s'
        → IsContainedIn
        (if t' then with_entry A (moved a.lo off) v else if s'
        then with_written (with_cleared A (moved a.lo off) (moved a.hi off) count) (moved a.lo off) count
        else with_cleared A (moved a.lo off) (moved a.hi off) count)
        (if t then with_entry C (moved b.lo off) w else if s
        then with_written (with_cleared C (moved b.lo off) (moved b.hi off) count) (moved b.lo off) count
        else with_cleared C (moved b.lo off) (moved b.hi off) count)
    by true s true s' i j i' j' =
        rw (whole_grows a b off count m q i).1 (entry_grows A C (moved b.lo off) v w p y)
    by true s false s' i j i' j' = let no : false ≡ true = sym i' ∙ (whole_grows a b off count m q i).0 in absurd cc
    by false true true s' i j i' j' =
        let same : a.lo ≡ b.lo = (single_inside a b m q j).0 in
        let whole = whole_parts a off count i' in
        let no : true ≡ false = sym (back_whole j same whole) ∙ i in absurd cc
      where
        back_whole : is_single b ≡ true → a.lo ≡ b.lo
            → (is_single a ≡ true) × (count ≡ 8) × (is_aligned (pos a.lo +ℤ off) ≡ true) → is_whole b off count ≡ true
        back_whole j same whole =
            rw (j, eq-eqb count 8 whole.1) (ap (λ n. is_aligned (pos n +ℤ off)) (sym same) ∙ whole.2)
    by false true false true i j i' j' =
        let same : a.lo ≡ b.lo = (single_inside a b m q j).0 in
        subst (λ o. IsContainedIn (with_written (with_cleared A (moved a.lo off) (moved a.hi off) count) o count)
        (with_written (with_cleared C (moved b.lo off) (moved b.hi off) count) (moved b.lo off) count))
        (ap (λ n. moved n off) (sym same))
        (written_grows (with_cleared A (moved a.lo off) (moved a.hi off) count)
        (with_cleared C (moved b.lo off) (moved b.hi off) count) (moved b.lo off) count clear)
    by false true false false i j i' j' =
        let no : false ≡ true = sym j' ∙ single_below a b m q j in absurd cc
    by false false true s' i j i' j' =
        let eight = (whole_parts a off count i').1 in
        let one : a.lo ≡ a.hi = eqb-true a.lo a.hi (whole_parts a off count i').0 in
        let ends : at.low' ≡ at.high' =
        same_Some at.low' at.high' (sym at.first' ∙ (ap (λ n. moved n off) one ∙ at.last')) in
        rw (at.first, at.last, at.first') (entry_below_cleared A C at.low at.high at.low' count v eight (number i)
        at.above (omega (arith, ends, at.below)) p)
    by false false false true i j i' j' =
        rw at.first' (more_written (with_cleared A (Some at.low') (moved a.hi off) count)
        (with_cleared C (moved b.lo off) (moved b.hi off) count) at.low' count
        (subst (λ o. IsContainedIn (with_cleared A o (moved a.hi off) count)
        (with_cleared C (moved b.lo off) (moved b.hi off) count)) at.first' clear))
    by false false false false i j i' j' = clear

-- ---- branches

abbrev Within : Option AbstractState → AbstractState → Type 0
Within row D = IsSomeAnd row (λ E. IsContainedIn D E)

meets_grow : (A C D : AbstractState) (register : Reg) (m n : Option Span) → IsContainedIn A C → IsOptionInside m n
    → with_meet A register m ≡ Some D → Within (with_meet C register n) D
meets_grow A C D register None n p q e = absurd cc
meets_grow A C D register (Some a) None p q e = absurd q
meets_grow A C D register (Some a) (Some b) p q e =
    subst (λ E. IsContainedIn E (with_kind C register (Number b))) (same_Some (with_kind A register (Number a)) D e)
    (with_grows A C register (Number a) (Number b) p (a, refl, q))

refined_grow : (A C D : AbstractState) (dst : Reg) (src : Operand) (left right : Option (Span × Span))
    → IsContainedIn A C → ArePairsInside left right
    → refined_by A dst src left ≡ Some D → Within (refined_by C dst src right) D
refined_grow A C D dst src None right p q e = absurd cc
refined_grow A C D dst src (Some pair) None p q e = absurd q
refined_grow A C D dst (operand.Imm imm) (Some pair) (Some other) p q e =
    subst (λ E. IsContainedIn E (with_kind C dst (Number other.0))) (same_Some (with_kind A dst (Number pair.0)) D e)
    (with_grows A C dst (Number pair.0) (Number other.0) p (pair.0, refl, q.0))
refined_grow A C D dst (operand.Reg register) (Some pair) (Some other) p q e = by
    (register_number register == register_number dst) e
  where
    by : (b : Bool) → (if b then with_meet A dst (meet_of pair.0 pair.1) else Some
        (with_kind (with_kind A dst (Number pair.0)) register (Number pair.1))) ≡ Some D
        → Within (if b then with_meet C dst (meet_of other.0 other.1) else Some
        (with_kind (with_kind C dst (Number other.0)) register (Number other.1))) D
    by true f = meets_grow A C D dst (meet_of pair.0 pair.1) (meet_of other.0 other.1) p
        (meet_grows pair.0 pair.1 other.0 other.1 q.0 q.1) f
    by false f =
        subst (λ E. IsContainedIn E (with_kind (with_kind C dst (Number other.0)) register (Number other.1)))
        (same_Some (with_kind (with_kind A dst (Number pair.0)) register (Number pair.1)) D f)
        (with_grows (with_kind A dst (Number pair.0)) (with_kind C dst (Number other.0)) register (Number pair.1)
        (Number other.1)
        (with_grows A C dst (Number pair.0) (Number other.0) p (pair.0, refl, q.0)) (pair.1, refl, q.1))

branches_grow : (A C D : AbstractState) (test : Cond) (width : Width) (dst : Reg) (src : Operand) (taken : Bool)
    (k l m n : AbstractValue) → IsContainedIn A C
    → IsProperKind k → IsProperKind l → IsKindIn k m → IsKindIn l n → is_unset_kind m ≡ false → is_unset_kind n ≡ false
    → (is_pointer_kind m || is_pointer_kind n) ≡ false
    → branch_outcome A test width dst src taken k l ≡ Some D → Within (branch_outcome C test width dst src taken m n) D
branches_grow A C D test width dst src taken k l Unset n p x y q r e f g h = absurd cc
branches_grow A C D test width dst src taken k l (Pointer region c) n p x y q r e f g h = absurd cc
branches_grow A C D test width dst src taken k l (Number c) Unset p x y q r e f g h = absurd cc
branches_grow A C D test width dst src taken k l (Number c) (Pointer region d) p x y q r e f g h = absurd cc
branches_grow A C D test width dst src taken k l (Number c) (Number d) p x y (a, is, q) (b, js, r) e f g h =
    refined_grow A C D dst src (branch_of test width a b taken) (branch_of test width c d taken) p
    (branch_grows test width a b c d taken (subst IsProperKind is x) (subst IsProperKind js y) q r)
    (sym (ap (λ o. branch_outcome A test width dst src taken o l) is
    ∙ ap (branch_outcome A test width dst src taken (Number a)) js) ∙ h)

-- ---- calls

called_grows : (A C : AbstractState) (shape : Extent) (given : Option Helper) → IsContainedIn A C
    → IsContainedIn (call_outcome shape given A) (call_outcome shape given C)
called_grows A C shape given p =
    record {
      kinds = λ number. by (nat_le number 5) (number == 0) (A.kinds number) (C.kinds number) (p.kinds number);
      written = λ byte e. p.written byte e;
      entries = λ dword. p.entries dword;
    }
  where
    by : (b c : Bool) (k l : AbstractValue) → IsKindIn k l
        → IsKindIn (if b then (if c then answer_kind shape given else Unset) else k)
        (if b then (if c then answer_kind shape given else Unset) else l)
    by true true k l q = kind_in_itself (answer_kind shape given)
    by true false k l q = tt
    by false c k l q = q

-- ---- the outcome

module _ (program : List Insn) (shape : Extent) (slot : ℕ) (way : Way) (A C D : AbstractState) (proper : IsProper A)
    (p : IsContainedIn A C) where
  proper_of : (register : Reg) → IsProperKind (kind_of A register)
  proper_of register = proper.kinds (register_number register)

  kind_in : (register : Reg) → IsKindIn (kind_of A register) (kind_of C register)
  kind_in register = p.kinds (register_number register)

  proper_operand : (width : Width) (src : Operand) → IsProperKind (operand_kind width src A)
  proper_operand width (operand.Imm imm) = record { ordered = omega arith }
  proper_operand width (operand.Reg register) = proper_of register

  put : (register : Reg) (k l : AbstractValue) → IsKindIn k l
      → ◌≡◌ {A = Option AbstractState} (Some (with_kind A register k)) (Some D)
      → IsContainedIn D (with_kind C register l)
  put register k l q e = subst (λ E. IsContainedIn E (with_kind C register l)) (same_Some (with_kind A register k) D e)
      (with_grows A C register k l p q)

  put_stored : (base : Reg) (off : ℤ) (count : ℕ) (rest : List Reg) (v w : AbstractValue) → IsKindIn v w
      → is_unset_kind w ≡ false → Unread C (base ∷ rest) → may_leave_region shape (kind_of C base) off count ≡ false
      → (is_pointer_kind w && not (takes_dword (kind_of C base) off count)) ≡ false
      → ◌≡◌ {A = Option AbstractState} (Some (stored_at A (kind_of A base) off count v)) (Some D)
      → IsContainedIn D (stored_at C (kind_of C base) off count w)
  put_stored base off count rest v w y u set f g e =
      subst (λ E. IsContainedIn E (stored_at C (kind_of C base) off count w))
      (same_Some (stored_at A (kind_of A base) off count v) D e)
      (stored_grows shape A C (kind_of A base) (kind_of C base) off count v w p (proper_of base) (kind_in base) y u f g
      (one_set C base rest set))

  pub outcome_grows : (insn : Insn) → KeepsRules program shape slot insn (Some C) → outcome shape insn A way ≡ Some D
      → Within (outcome shape insn C way) D
  outcome_grows (i.Alu op width dst src) kept e =
      put dst _ _ (alu_kinds_grow op width (kind_of A dst) (operand_kind width src A) (kind_of C dst)
      (operand_kind width src C) (proper_of dst) (proper_operand width src) (kind_in dst)
      (operand_in width src A C p)) e
  outcome_grows (i.Neg width dst) kept e = put dst _ _
      (one_grows (neg_of width) (kind_of A dst) (kind_of C dst) (neg_grows width) (proper_of dst) (kind_in dst)) e
  outcome_grows (i.Movsx kind dst src) kept e = put dst _ _
      (one_grows (movsx_of kind) (kind_of A src) (kind_of C src) (movsx_grows kind) (proper_of src) (kind_in src)) e
  outcome_grows (i.Swap order bits dst) kept e = put dst _ _
      (one_grows (swap_of order bits) (kind_of A dst) (kind_of C dst) (swap_grows order bits) (proper_of dst)
      (kind_in dst)) e
  outcome_grows (i.Ja off) kept e = subst (λ E. IsContainedIn E C) (same_Some A D e) p
  outcome_grows (i.JaLong off) kept e = subst (λ E. IsContainedIn E C) (same_Some A D e) p
  outcome_grows (i.Branch test width dst src off) kept e =
      branches_grow A C D test width dst src (is_taken way) (kind_of A dst) (operand_kind width src A) (kind_of C dst)
      (operand_kind width src C) p
      (proper_of dst) (proper_operand width src) (kind_in dst) (operand_in width src A C p)
      (one_set C dst (operand_reads src) (kept UnsetRegister))
      (operand_set width src C (rest_set C dst (operand_reads src) (kept UnsetRegister))) (kept PointerMisuse) e
  outcome_grows (i.Call id) kept e = subst (λ E. IsContainedIn E (call_outcome shape (helper_of id) C))
      (same_Some (call_outcome shape (helper_of id) A) D e) (called_grows A C shape (helper_of id) p)
  outcome_grows i.Exit kept e = absurd cc
  outcome_grows (i.Load size dst base off) kept e = put dst _ _
      (loaded_grows shape A C (kind_of A base) (kind_of C base) off (access_bytes size) p proper (proper_of base)
      (kind_in base) (one_set C base [] (kept UnsetRegister))
      (or_false (may_leave_region shape (kind_of C base) off (access_bytes size)) false (kept OutOfRegion)).0
      (kept UnsetStackByte) (kept PointerMisuse)) e
  outcome_grows (i.LoadSx size dst base off) kept e = put dst _ _ (kind_in_itself (Number (full_of 64))) e
  outcome_grows (i.StoreReg size base off src) kept e =
      put_stored base off (access_bytes size) (src ∷ []) (kind_of A src) (kind_of C src) (kind_in src)
      (one_set C src [] (rest_set C base (src ∷ []) (kept UnsetRegister))) (kept UnsetRegister) (kept OutOfRegion)
      (kept PointerMisuse) e
  outcome_grows (i.StoreImm size base off imm) kept e =
      put_stored base off (access_bytes size) [] (operand_kind W64 (operand.Imm imm) A)
      (operand_kind W64 (operand.Imm imm) C) (kind_in_itself (operand_kind W64 (operand.Imm imm) A)) refl
      (kept UnsetRegister) (kept OutOfRegion) refl e
  outcome_grows (i.LoadImm64 dst value) kept e = put dst _ _ (kind_in_itself (Number (just value))) e
