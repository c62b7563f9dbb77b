-- A slot gives the instruction that is spelled by it.
use Rattle.std.proofs.Common.{◌≡◌, ℕ, zero, suc, ◌+◌, ◌*◌, ◌/◌, ◌%◌, ◌^◌, ◌<◌, Bool, true, false, ◌||◌, cond, List, [], ◌∷◌, Result, Ok, refl, sym, ap, subst, ◌∙◌, arith, rules, Option, Some, None, inl, inr, ◌⊎◌}
use Rattle.std.specs.Prelude.{ℤ, pos, FitsSigned, ◌==◌}
use Rattle.std.specs.Int.{Width, w16, w32, cast_signed, cast_unsigned, to_le_bytes}
use Rattle.std.proofs.lemmas.Bool.{or_parts, eqb-true, eq-eqb, not-false, ltb-false}
use Rattle.std.proofs.lemmas.Int.{to_z-of_z, of_z-to_z}
use Rattle.std.proofs.Math.Facts.{Fits-of_z}
use Rattle.bpf_insn.specs.declared.forms.Reg.{Reg}
use Rattle.bpf_insn.specs.declared.forms.Reg.TheVariants.{R0}
use Rattle.bpf_insn.specs.declared.forms.Width as forms
use Rattle.bpf_insn.specs.declared.forms.Width.TheVariants.{W32, W64}
use Rattle.bpf_insn.specs.declared.forms.AluOp.{AluOp}
use Rattle.bpf_insn.specs.declared.forms.AluOp.TheVariants as ops
use Rattle.bpf_insn.specs.declared.forms.Operand.TheVariants as operands
use Rattle.bpf_insn.specs.declared.forms.Insn.{Insn}
use Rattle.bpf_insn.specs.declared.forms.Insn.TheVariants as insn
use Rattle.bpf_insn.specs.declared.forms.MovsxKind.{MovsxKind}
use Rattle.bpf_insn.specs.declared.forms.MovsxKind.TheVariants as kinds
use Rattle.bpf_insn.specs.declared.forms.SwapBits.{SwapBits}
use Rattle.bpf_insn.specs.declared.forms.SwapBits.TheVariants as swaps
use Rattle.bpf_insn.specs.declared.forms.Order.{Order}
use Rattle.bpf_insn.specs.declared.opcode.AluCode.{AluCode}
use Rattle.bpf_insn.specs.declared.opcode.AluCode.TheVariants.{Add, Sub, Mul, Div, Or, And, Lsh, Rsh, Mod, Xor, Mov, Arsh}
use Rattle.bpf_insn.specs.declared.opcode.Source.{Source}
use Rattle.bpf_insn.specs.declared.opcode.Source.TheVariants as source
use Rattle.bpf_insn.specs.declared.opcode.Opcode.{Opcode}
use Rattle.bpf_insn.specs.declared.opcode.Opcode.TheVariants.{Alu, Neg, Swap, Ja, JaLong, Branch, Call, Exit, LoadImm64, Load, LoadSx, StoreImm, StoreReg}
use Rattle.bpf_insn.specs.declared.slot.Slot.{Slot}
use Rattle.bpf_insn.specs.declared.slot.SlotFault.{SlotFault}
use Rattle.bpf_insn.specs.Registers.{register_number}
use Rattle.bpf_insn.specs.declared.opcode.FieldUse.{FieldUse}
use Rattle.bpf_insn.specs.declared.opcode.FieldUse.TheVariants.{Zero, ZeroOrOne, Any}
use Rattle.bpf_insn.specs.Opcodes.{offset_use, uses_of, is_stray}
use Rattle.bpf_insn.specs.inner.Opcodes.{is_wide, opcode_slots}
use Rattle.bpf_insn.specs.Arithmetic.{movsx_width}
use Rattle.bpf_insn.specs.Encoding.{code_of, offset_of, extended_bits, swapped_bits, slot_of, second_slot, has_stray_field, InRange, slots_taken}
use Rattle.bpf_insn.specs.inner.Encoding.{slot_with, high_of}
use Rattle.bpf_insn.specs.inner.Reading.{unsigned_op, op_at, operand_at, kind_at, extension_by, move_at, swap_bits_at, swap_by, form_at}
use Rattle.bpf_insn.proofs.OpcodeLaws.{number_once}
use Rattle.bpf_insn.proofs.SlotLaws.{SlotFits, done, ok_is}

stray_none : (use_of : FieldUse) (n : ℕ) → is_stray use_of n ≡ false → use_of ≡ Zero → n ≡ 0
stray_none Zero n e u = eqb-true n 0 (not-false (n == 0) e)
stray_none ZeroOrOne n e u = absurd cc
stray_none Any n e u = absurd cc

-- the number of small bits is itself
pub small_bits : (w : Width) (z : ℤ) (k : ℕ) → cast_signed w k ≡ pos k → FitsSigned w z → cast_unsigned w z ≡ k
    → z ≡ pos k
small_bits w z k is fits e = sym (to_z-of_z w z fits) ∙ (ap (cast_signed w) e ∙ is)

choice_from : (use_of : FieldUse) (n : ℕ) → is_stray use_of n ≡ false → use_of ≡ ZeroOrOne → (n ≡ 0) ⊎ (n ≡ 1)
choice_from Zero n e h = absurd cc
choice_from ZeroOrOne zero e h = inl refl
choice_from ZeroOrOne (suc zero) e h = inr refl
choice_from ZeroOrOne (suc (suc n)) e h = absurd (omega (arith, ltb-false 1 (suc (suc n)) e))
choice_from Any n e h = absurd cc

-- what is not used is zero
pub record IsClean (s : Slot) : Type 0 where
  pub dst : (uses_of s.opcode).dst ≡ Zero → s.dst ≡ R0
  pub src : (uses_of s.opcode).src ≡ Zero → s.src ≡ R0
  pub offset : (uses_of s.opcode).offset ≡ Zero → s.offset ≡ pos 0
  pub choice : (uses_of s.opcode).offset ≡ ZeroOrOne → (cast_unsigned w16 s.offset ≡ 0)
      ⊎ (cast_unsigned w16 s.offset ≡ 1)
  pub imm : (uses_of s.opcode).imm ≡ Zero → s.imm ≡ pos 0

pub clean_from : (s : Slot) → SlotFits s → has_stray_field s ≡ false → IsClean s
clean_from s fits e =
    let u = uses_of s.opcode in
    let a = is_stray u.dst (register_number s.dst) in
    let b = is_stray u.src (register_number s.src) in
    let c = is_stray u.offset (cast_unsigned w16 s.offset) in
    let d = is_stray u.imm (cast_unsigned w32 s.imm) in
    let abc = or_parts ((a || b) || c) d e in
    let ab = or_parts (a || b) c abc.0 in
    let first = or_parts a b ab.0 in
    record {
      dst = λ h. number_once s.dst R0 (stray_none u.dst (register_number s.dst) first.0 h);
      src = λ h. number_once s.src R0 (stray_none u.src (register_number s.src) first.1 h);
      offset = λ h. small_bits w16 s.offset 0 refl fits.offset
          (stray_none u.offset (cast_unsigned w16 s.offset) ab.1 h);
      choice = choice_from u.offset (cast_unsigned w16 s.offset) ab.1;
      imm = λ h. small_bits w32 s.imm 0 refl fits.imm (stray_none u.imm (cast_unsigned w32 s.imm) abc.1 h);
    }

-- the second slot, where there is one
abbrev pub high_bytes : Bool → ℕ → List ℕ
high_bytes false high = []
high_bytes true high = 0 ∷ 0 ∷ 0 ∷ 0 ∷ to_le_bytes w32 high

-- the instruction is spelled by the slot, and the second
pub record Makes (s : Slot) (high : ℕ) (i : Insn) : Type 0 where
  pub slot : slot_of i ≡ s
  pub second : second_slot i ≡ high_bytes (is_wide s.opcode) high
  pub range : InRange i
  pub size : slots_taken i ≡ opcode_slots s.opcode

same_slot : {p p' : Opcode} {d d' s s' : Reg} {o o' i i' : ℤ} → p' ≡ p → d' ≡ d → s' ≡ s → o' ≡ o → i' ≡ i
    → slot_with p d s o i ≡ slot_with p' d' s' o' i'
same_slot h p q r t = rw (h, p, q, r, t) refl

-- ---- arithmetic

pub unsigned_is : (code : AluCode) (offset : ℤ) → cast_unsigned w16 offset ≡ 0 → unsigned_op code ≡ op_at code offset
unsigned_is Add offset none = refl
unsigned_is Sub offset none = refl
unsigned_is Mul offset none = refl
unsigned_is Div offset none = rw (eq-eqb (cast_unsigned w16 offset) 0 none) refl
unsigned_is Or offset none = refl
unsigned_is And offset none = refl
unsigned_is Lsh offset none = refl
unsigned_is Rsh offset none = refl
unsigned_is Mod offset none = rw (eq-eqb (cast_unsigned w16 offset) 0 none) refl
unsigned_is Xor offset none = refl
unsigned_is Mov offset none = refl
unsigned_is Arsh offset none = refl

-- the operation is of its code and its offset
pub record IsOp (code : AluCode) (offset : ℤ) : Type 0 where
  pub code_is : code ≡ code_of (op_at code offset)
  pub offset_is : offset ≡ offset_of (op_at code offset)

op_back : (code : AluCode) (source : Source) (offset : ℤ) → FitsSigned w16 offset → (offset_use code source ≡ Any → ⊥)
    → (offset_use code source ≡ Zero → offset ≡ pos 0)
    → (offset_use code source ≡ ZeroOrOne → (cast_unsigned w16 offset ≡ 0) ⊎ (cast_unsigned w16 offset ≡ 1))
    → IsOp code offset
op_back Add source offset fits plain absent choice = record { code_is = refl; offset_is = absent refl }
op_back Sub source offset fits plain absent choice = record { code_is = refl; offset_is = absent refl }
op_back Mul source offset fits plain absent choice = record { code_is = refl; offset_is = absent refl }
op_back Div source offset fits plain absent choice =
    elim (choice refl) [
      | inl none ↦
          let test = eq-eqb (cast_unsigned w16 offset) 0 none in
          record { code_is = rw test refl; offset_is = rw test (small_bits w16 offset 0 refl fits none) }
      | inr one ↦
          let test : (cast_unsigned w16 offset == 0) ≡ false = ap (λ (n : ℕ). n == 0) one in
          record { code_is = rw test refl; offset_is = rw test (small_bits w16 offset 1 refl fits one) }
    ]
op_back Or source offset fits plain absent choice = record { code_is = refl; offset_is = absent refl }
op_back And source offset fits plain absent choice = record { code_is = refl; offset_is = absent refl }
op_back Lsh source offset fits plain absent choice = record { code_is = refl; offset_is = absent refl }
op_back Rsh source offset fits plain absent choice = record { code_is = refl; offset_is = absent refl }
op_back Mod source offset fits plain absent choice =
    elim (choice refl) [
      | inl none ↦
          let test = eq-eqb (cast_unsigned w16 offset) 0 none in
          record { code_is = rw test refl; offset_is = rw test (small_bits w16 offset 0 refl fits none) }
      | inr one ↦
          let test : (cast_unsigned w16 offset == 0) ≡ false = ap (λ (n : ℕ). n == 0) one in
          record { code_is = rw test refl; offset_is = rw test (small_bits w16 offset 1 refl fits one) }
    ]
op_back Xor source offset fits plain absent choice = record { code_is = refl; offset_is = absent refl }
op_back Mov source.Imm offset fits plain absent choice = record { code_is = refl; offset_is = absent refl }
op_back Mov source.Reg offset fits plain absent choice = absurd (plain refl)
op_back Arsh source offset fits plain absent choice = record { code_is = refl; offset_is = absent refl }

alu_takes : (code : AluCode) (width : forms.Width) (source : Source) (dst src : Reg) (offset imm : ℤ) (high : ℕ)
    (i : Insn) → (offset_use code source ≡ Any → ⊥) → SlotFits (slot_with (Alu code width source) dst src offset imm)
    → IsClean (slot_with (Alu code width source) dst src offset imm)
    → done (insn.Alu (op_at code offset) width dst
    (operand_at source (slot_with (Alu code width source) dst src offset imm))) ≡ Ok i
    → Makes (slot_with (Alu code width source) dst src offset imm) high i
alu_takes code width source.Imm dst src offset imm high i plain fits clean e =
    let op = op_back code source.Imm offset fits.offset plain clean.offset clean.choice in
    subst (λ (j : Insn). Makes (slot_with (Alu code width source.Imm) dst src offset imm) high j)
    (ok_is (insn.Alu (op_at code offset) width dst (operands.Imm imm)) i e)
    (record {
      slot = same_slot (ap (λ c. Alu c width source.Imm) op.code_is) refl (clean.src refl) op.offset_is refl;
      second = refl;
      range = fits.imm;
      size = refl;
    })
alu_takes code width source.Reg dst src offset imm high i plain fits clean e =
    let op = op_back code source.Reg offset fits.offset plain clean.offset clean.choice in
    subst (λ (j : Insn). Makes (slot_with (Alu code width source.Reg) dst src offset imm) high j)
    (ok_is (insn.Alu (op_at code offset) width dst (operands.Reg src)) i e)
    (record {
      slot = same_slot (ap (λ c. Alu c width source.Reg) op.code_is) refl refl op.offset_is (clean.imm refl);
      second = refl;
      range = tt;
      size = refl;
    })

-- ---- moves

pub pick : {A : Type 0} (b : Bool) (x k : A) (y : Option A) → cond b (Some x) y ≡ Some k → ((b ≡ true) × (x ≡ k))
    ⊎ ((b ≡ false) × (y ≡ Some k))
pick true x k y e = inl (refl, cc)
pick false x k y e = inr (refl, e)

pub record IsKind (width : forms.Width) (offset : ℤ) (kind : MovsxKind) : Type 0 where
  pub width_is : width ≡ movsx_width kind
  pub offset_is : offset ≡ extended_bits kind

kind_takes : (width : forms.Width) (offset : ℤ) (kind : MovsxKind) → FitsSigned w16 offset
    → kind_at width offset ≡ Some kind → IsKind width offset kind
kind_takes W32 offset kind fits e =
    let n = cast_unsigned w16 offset in
    elim (pick (n == 8) kinds.From8To32 kind _ e) [
      | inl a ↦ subst (λ k. IsKind W32 offset k) a.1
          (record { width_is = refl; offset_is = small_bits w16 offset 8 refl fits (eqb-true n 8 a.0) })
      | inr a ↦
          elim (pick (n == 16) kinds.From16To32 kind None a.1) [
            | inl b ↦ subst (λ k. IsKind W32 offset k) b.1
                (record { width_is = refl; offset_is = small_bits w16 offset 16 refl fits (eqb-true n 16 b.0) })
            | inr b ↦ let none = b.1 in absurd cc
          ]
    ]
kind_takes W64 offset kind fits e =
    let n = cast_unsigned w16 offset in
    elim (pick (n == 8) kinds.From8To64 kind _ e) [
      | inl a ↦ subst (λ k. IsKind W64 offset k) a.1
          (record { width_is = refl; offset_is = small_bits w16 offset 8 refl fits (eqb-true n 8 a.0) })
      | inr a ↦
          elim (pick (n == 16) kinds.From16To64 kind _ a.1) [
            | inl b ↦ subst (λ k. IsKind W64 offset k) b.1
                (record { width_is = refl; offset_is = small_bits w16 offset 16 refl fits (eqb-true n 16 b.0) })
            | inr b ↦
                elim (pick (n == 32) kinds.From32To64 kind None b.1) [
                  | inl c ↦ subst (λ k. IsKind W64 offset k) c.1
                      (record { width_is = refl; offset_is = small_bits w16 offset 32 refl fits (eqb-true n 32 c.0) })
                  | inr c ↦ let none = c.1 in absurd cc
                ]
          ]
    ]

extension_ok : (s : Slot) (o : Option MovsxKind) (i : Insn) → extension_by s o ≡ Ok i
    → (kind : MovsxKind) × (o ≡ Some kind) × (insn.Movsx kind s.dst s.src ≡ i)
extension_ok s (Some kind) i e = (kind, refl, ok_is (insn.Movsx kind s.dst s.src) i e)
extension_ok s None i e = absurd cc

pub either_ok : {A : Type 0} (b : Bool) (x : A) (y : Result A SlotFault) (z : A) → cond b (Ok x) y ≡ Ok z
    → ((b ≡ true) × (x ≡ z)) ⊎ ((b ≡ false) × (y ≡ Ok z))
either_ok true x y z e = inl (refl, cc)
either_ok false x y z e = inr (refl, e)

move_takes : (width : forms.Width) (dst src : Reg) (offset imm : ℤ) (high : ℕ) (i : Insn)
    → SlotFits (slot_with (Alu Mov width source.Reg) dst src offset imm)
    → IsClean (slot_with (Alu Mov width source.Reg) dst src offset imm)
    → move_at width (slot_with (Alu Mov width source.Reg) dst src offset imm) ≡ Ok i
    → Makes (slot_with (Alu Mov width source.Reg) dst src offset imm) high i
move_takes width dst src offset imm high i fits clean e =
    let s = slot_with (Alu Mov width source.Reg) dst src offset imm in
    elim (either_ok (cast_unsigned w16 offset == 0) (insn.Alu ops.Mov width dst (operands.Reg src))
    (extension_by s (kind_at width offset)) i e) [
      | inl all ↦
          subst (λ (j : Insn). Makes s high j) all.1
          (record {
            slot = same_slot refl refl refl
                (small_bits w16 offset 0 refl fits.offset (eqb-true (cast_unsigned w16 offset) 0 all.0))
                (clean.imm refl);
            second = refl;
            range = tt;
            size = refl;
          })
      | inr more ↦
          let k = extension_ok s (kind_at width offset) i more.1 in
          let is = kind_takes width offset k.0 fits.offset k.1 in
          subst (λ (j : Insn). Makes s high j) k.2
          (record {
            slot = same_slot (ap (λ w. Alu Mov w source.Reg) is.width_is) refl refl is.offset_is
                (clean.imm refl);
            second = refl;
            range = tt;
            size = refl;
          })
    ]

-- ---- byte orders

swap_bits_take : (imm : ℤ) (bits : SwapBits) → FitsSigned w32 imm → swap_bits_at imm ≡ Some bits
    → imm ≡ swapped_bits bits
swap_bits_take imm bits fits e =
    let n = cast_unsigned w32 imm in
    elim (pick (n == 16) swaps.Bits16 bits _ e) [
      | inl a ↦ subst (λ b. imm ≡ swapped_bits b) a.1 (small_bits w32 imm 16 refl fits (eqb-true n 16 a.0))
      | inr a ↦
          elim (pick (n == 32) swaps.Bits32 bits _ a.1) [
            | inl b ↦ subst (λ c. imm ≡ swapped_bits c) b.1 (small_bits w32 imm 32 refl fits (eqb-true n 32 b.0))
            | inr b ↦
                elim (pick (n == 64) swaps.Bits64 bits None b.1) [
                  | inl c ↦ subst (λ d. imm ≡ swapped_bits d) c.1 (small_bits w32 imm 64 refl fits (eqb-true n 64 c.0))
                  | inr c ↦ let none = c.1 in absurd cc
                ]
          ]
    ]

swap_ok : (order : Order) (s : Slot) (o : Option SwapBits) (i : Insn) → swap_by order s o ≡ Ok i
    → (bits : SwapBits) × (o ≡ Some bits) × (insn.Swap order bits s.dst ≡ i)
swap_ok order s (Some bits) i e = (bits, refl, ok_is (insn.Swap order bits s.dst) i e)
swap_ok order s None i e = absurd cc

-- ---- each form

form_takes_at : (opcode : Opcode) (dst src : Reg) (offset imm : ℤ) (high : ℕ) (i : Insn)
    → SlotFits (slot_with opcode dst src offset imm) → high < 2 ^ 32 → IsClean (slot_with opcode dst src offset imm)
    → form_at opcode (slot_with opcode dst src offset imm) high ≡ Ok i
    → Makes (slot_with opcode dst src offset imm) high i
form_takes_at (Alu Mov width source.Reg) dst src offset imm high i fits lt clean e =
    move_takes width dst src offset imm high i fits clean e
form_takes_at (Alu code width source) dst src offset imm high i fits lt clean e =
    alu_takes code width source dst src offset imm high i (λ any. cc) fits clean e
form_takes_at (Swap order) dst src offset imm high i fits lt clean e =
    let s = slot_with (Swap order) dst src offset imm in
    let b = swap_ok order s (swap_bits_at imm) i e in
    subst (λ (j : Insn). Makes s high j) b.2
    (record {
      slot = same_slot refl refl (clean.src refl) (clean.offset refl) (swap_bits_take imm b.0 fits.imm b.1);
      second = refl;
      range = tt;
      size = refl;
    })
form_takes_at LoadImm64 dst src offset imm high i fits lt clean e =
    let value : ℕ = high * 2 ^ 32 + cast_unsigned w32 imm in
    let bound = Fits-of_z fits.imm in
    let low : value % 2 ^ 32 ≡ cast_unsigned w32 imm = omega (arith, bound) in
    let top : value / 2 ^ 32 ≡ high = omega (arith, bound) in
    let back : imm ≡ cast_signed w32 (value % 2 ^ 32) = sym (to_z-of_z w32 imm fits.imm)
    ∙ ap (cast_signed w32) (sym low) in
    subst (λ (j : Insn). Makes (slot_with LoadImm64 dst src offset imm) high j) (ok_is (insn.LoadImm64 dst value) i e)
    (record {
      slot = same_slot refl refl (clean.src refl) (clean.offset refl) back;
      second = ap (λ (n : ℕ). 0 ∷ 0 ∷ 0 ∷ 0 ∷ to_le_bytes w32 n) top;
      range = omega (arith, bound);
      size = refl;
    })
form_takes_at (Neg width) dst src offset imm high i fits lt clean e =
    subst (λ (j : Insn). Makes (slot_with (Neg width) dst src offset imm) high j) (ok_is (insn.Neg width dst) i e)
    (record {
      slot = same_slot refl refl (clean.src refl) (clean.offset refl) (clean.imm refl);
      second = refl;
      range = tt;
      size = refl;
    })
form_takes_at Ja dst src offset imm high i fits lt clean e =
    subst (λ (j : Insn). Makes (slot_with Ja dst src offset imm) high j) (ok_is (insn.Ja offset) i e)
    (record {
      slot = same_slot refl (clean.dst refl) (clean.src refl) refl (clean.imm refl);
      second = refl;
      range = fits.offset;
      size = refl;
    })
form_takes_at JaLong dst src offset imm high i fits lt clean e =
    subst (λ (j : Insn). Makes (slot_with JaLong dst src offset imm) high j) (ok_is (insn.JaLong imm) i e)
    (record {
      slot = same_slot refl (clean.dst refl) (clean.src refl) (clean.offset refl) refl;
      second = refl;
      range = fits.imm;
      size = refl;
    })
form_takes_at (Branch cond width source.Imm) dst src offset imm high i fits lt clean e =
    subst (λ (j : Insn). Makes (slot_with (Branch cond width source.Imm) dst src offset imm) high j)
    (ok_is (insn.Branch cond width dst (operands.Imm imm) offset) i e)
    (record {
      slot = same_slot refl refl (clean.src refl) refl refl;
      second = refl;
      range = (fits.imm, fits.offset);
      size = refl;
    })
form_takes_at (Branch cond width source.Reg) dst src offset imm high i fits lt clean e =
    subst (λ (j : Insn). Makes (slot_with (Branch cond width source.Reg) dst src offset imm) high j)
    (ok_is (insn.Branch cond width dst (operands.Reg src) offset) i e)
    (record { slot = same_slot refl refl refl refl (clean.imm refl); second = refl; range = fits.offset; size = refl })
form_takes_at Call dst src offset imm high i fits lt clean e =
    subst (λ (j : Insn). Makes (slot_with Call dst src offset imm) high j) (ok_is (insn.Call imm) i e)
    (record {
      slot = same_slot refl (clean.dst refl) (clean.src refl) (clean.offset refl) refl;
      second = refl;
      range = fits.imm;
      size = refl;
    })
form_takes_at Exit dst src offset imm high i fits lt clean e =
    subst (λ (j : Insn). Makes (slot_with Exit dst src offset imm) high j) (ok_is insn.Exit i e)
    (record {
      slot = same_slot refl (clean.dst refl) (clean.src refl) (clean.offset refl) (clean.imm refl);
      second = refl;
      range = tt;
      size = refl;
    })
form_takes_at (Load size) dst src offset imm high i fits lt clean e =
    subst (λ (j : Insn). Makes (slot_with (Load size) dst src offset imm) high j)
    (ok_is (insn.Load size dst src offset) i e)
    (record { slot = same_slot refl refl refl refl (clean.imm refl); second = refl; range = fits.offset; size = refl })
form_takes_at (LoadSx size) dst src offset imm high i fits lt clean e =
    subst (λ (j : Insn). Makes (slot_with (LoadSx size) dst src offset imm) high j)
    (ok_is (insn.LoadSx size dst src offset) i e)
    (record { slot = same_slot refl refl refl refl (clean.imm refl); second = refl; range = fits.offset; size = refl })
form_takes_at (StoreImm size) dst src offset imm high i fits lt clean e =
    subst (λ (j : Insn). Makes (slot_with (StoreImm size) dst src offset imm) high j)
    (ok_is (insn.StoreImm size dst offset imm) i e)
    (record {
      slot = same_slot refl refl (clean.src refl) refl refl;
      second = refl;
      range = (fits.offset, fits.imm);
      size = refl;
    })
form_takes_at (StoreReg size) dst src offset imm high i fits lt clean e =
    subst (λ (j : Insn). Makes (slot_with (StoreReg size) dst src offset imm) high j)
    (ok_is (insn.StoreReg size dst offset src) i e)
    (record { slot = same_slot refl refl refl refl (clean.imm refl); second = refl; range = fits.offset; size = refl })

pub form_takes : (s : Slot) (high : ℕ) (i : Insn) → SlotFits s → high < 2 ^ 32 → has_stray_field s ≡ false
    → form_at s.opcode s high ≡ Ok i → Makes s high i
form_takes s high i fits lt clean e = form_takes_at s.opcode s.dst s.src s.offset s.imm high i fits lt
    (clean_from s fits clean) e

-- ---- again

offset_fits : (op : AluOp) → FitsSigned w16 (offset_of op)
offset_fits ops.Add = search rules
offset_fits ops.Sub = search rules
offset_fits ops.Mul = search rules
offset_fits ops.Div = search rules
offset_fits ops.Sdiv = search rules
offset_fits ops.Or = search rules
offset_fits ops.And = search rules
offset_fits ops.Lsh = search rules
offset_fits ops.Rsh = search rules
offset_fits ops.Mod = search rules
offset_fits ops.Smod = search rules
offset_fits ops.Xor = search rules
offset_fits ops.Mov = search rules
offset_fits ops.Arsh = search rules

bits_fit : (kind : MovsxKind) → FitsSigned w16 (extended_bits kind)
bits_fit kinds.From8To32 = search rules
bits_fit kinds.From16To32 = search rules
bits_fit kinds.From8To64 = search rules
bits_fit kinds.From16To64 = search rules
bits_fit kinds.From32To64 = search rules

order_fits : (bits : SwapBits) → FitsSigned w32 (swapped_bits bits)
order_fits swaps.Bits16 = search rules
order_fits swaps.Bits32 = search rules
order_fits swaps.Bits64 = search rules

pub slot_fits : (i : Insn) → InRange i → SlotFits (slot_of i)
slot_fits (insn.Alu op width dst (operands.Imm value)) range = record { offset = offset_fits op; imm = range }
slot_fits (insn.Alu op width dst (operands.Reg src)) range = record { offset = offset_fits op; imm = search rules }
slot_fits (insn.Neg width dst) range = record { offset = search rules; imm = search rules }
slot_fits (insn.Movsx kind dst src) range = record { offset = bits_fit kind; imm = search rules }
slot_fits (insn.Swap order bits dst) range = record { offset = search rules; imm = order_fits bits }
slot_fits (insn.Ja off) range = record { offset = range; imm = search rules }
slot_fits (insn.JaLong off) range = record { offset = search rules; imm = range }
slot_fits (insn.Branch cond width dst (operands.Imm value) off) range = record { offset = range.1; imm = range.0 }
slot_fits (insn.Branch cond width dst (operands.Reg src) off) range = record { offset = range; imm = search rules }
slot_fits (insn.Call id) range = record { offset = search rules; imm = range }
slot_fits insn.Exit range = record { offset = search rules; imm = search rules }
slot_fits (insn.Load size dst base off) range = record { offset = range; imm = search rules }
slot_fits (insn.LoadSx size dst base off) range = record { offset = range; imm = search rules }
slot_fits (insn.StoreReg size base off src) range = record { offset = range; imm = search rules }
slot_fits (insn.StoreImm size base off imm) range = record { offset = range.0; imm = range.1 }
slot_fits (insn.LoadImm64 dst value) range = record { offset = search rules; imm = search rules }

pub no_stray_field : (i : Insn) → has_stray_field (slot_of i) ≡ false
no_stray_field (insn.Alu ops.Add width dst (operands.Imm value)) = refl
no_stray_field (insn.Alu ops.Sub width dst (operands.Imm value)) = refl
no_stray_field (insn.Alu ops.Mul width dst (operands.Imm value)) = refl
no_stray_field (insn.Alu ops.Div width dst (operands.Imm value)) = refl
no_stray_field (insn.Alu ops.Sdiv width dst (operands.Imm value)) = refl
no_stray_field (insn.Alu ops.Or width dst (operands.Imm value)) = refl
no_stray_field (insn.Alu ops.And width dst (operands.Imm value)) = refl
no_stray_field (insn.Alu ops.Lsh width dst (operands.Imm value)) = refl
no_stray_field (insn.Alu ops.Rsh width dst (operands.Imm value)) = refl
no_stray_field (insn.Alu ops.Mod width dst (operands.Imm value)) = refl
no_stray_field (insn.Alu ops.Smod width dst (operands.Imm value)) = refl
no_stray_field (insn.Alu ops.Xor width dst (operands.Imm value)) = refl
no_stray_field (insn.Alu ops.Mov width dst (operands.Imm value)) = refl
no_stray_field (insn.Alu ops.Arsh width dst (operands.Imm value)) = refl
no_stray_field (insn.Alu ops.Add width dst (operands.Reg src)) = refl
no_stray_field (insn.Alu ops.Sub width dst (operands.Reg src)) = refl
no_stray_field (insn.Alu ops.Mul width dst (operands.Reg src)) = refl
no_stray_field (insn.Alu ops.Div width dst (operands.Reg src)) = refl
no_stray_field (insn.Alu ops.Sdiv width dst (operands.Reg src)) = refl
no_stray_field (insn.Alu ops.Or width dst (operands.Reg src)) = refl
no_stray_field (insn.Alu ops.And width dst (operands.Reg src)) = refl
no_stray_field (insn.Alu ops.Lsh width dst (operands.Reg src)) = refl
no_stray_field (insn.Alu ops.Rsh width dst (operands.Reg src)) = refl
no_stray_field (insn.Alu ops.Mod width dst (operands.Reg src)) = refl
no_stray_field (insn.Alu ops.Smod width dst (operands.Reg src)) = refl
no_stray_field (insn.Alu ops.Xor width dst (operands.Reg src)) = refl
no_stray_field (insn.Alu ops.Mov width dst (operands.Reg src)) = refl
no_stray_field (insn.Alu ops.Arsh width dst (operands.Reg src)) = refl
no_stray_field (insn.Neg width dst) = refl
no_stray_field (insn.Movsx kinds.From8To32 dst src) = refl
no_stray_field (insn.Movsx kinds.From16To32 dst src) = refl
no_stray_field (insn.Movsx kinds.From8To64 dst src) = refl
no_stray_field (insn.Movsx kinds.From16To64 dst src) = refl
no_stray_field (insn.Movsx kinds.From32To64 dst src) = refl
no_stray_field (insn.Swap order swaps.Bits16 dst) = refl
no_stray_field (insn.Swap order swaps.Bits32 dst) = refl
no_stray_field (insn.Swap order swaps.Bits64 dst) = refl
no_stray_field (insn.Ja off) = refl
no_stray_field (insn.JaLong off) = refl
no_stray_field (insn.Branch cond width dst (operands.Imm value) off) = refl
no_stray_field (insn.Branch cond width dst (operands.Reg src) off) = refl
no_stray_field (insn.Call id) = refl
no_stray_field insn.Exit = refl
no_stray_field (insn.Load size dst base off) = refl
no_stray_field (insn.LoadSx size dst base off) = refl
no_stray_field (insn.StoreReg size base off src) = refl
no_stray_field (insn.StoreImm size base off imm) = refl
no_stray_field (insn.LoadImm64 dst value) = refl

pub form_again : (i : Insn) → InRange i → form_at (slot_of i).opcode (slot_of i) (high_of i) ≡ Ok i
form_again (insn.Alu ops.Add width dst (operands.Imm value)) range = refl
form_again (insn.Alu ops.Sub width dst (operands.Imm value)) range = refl
form_again (insn.Alu ops.Mul width dst (operands.Imm value)) range = refl
form_again (insn.Alu ops.Div width dst (operands.Imm value)) range = refl
form_again (insn.Alu ops.Sdiv width dst (operands.Imm value)) range = refl
form_again (insn.Alu ops.Or width dst (operands.Imm value)) range = refl
form_again (insn.Alu ops.And width dst (operands.Imm value)) range = refl
form_again (insn.Alu ops.Lsh width dst (operands.Imm value)) range = refl
form_again (insn.Alu ops.Rsh width dst (operands.Imm value)) range = refl
form_again (insn.Alu ops.Mod width dst (operands.Imm value)) range = refl
form_again (insn.Alu ops.Smod width dst (operands.Imm value)) range = refl
form_again (insn.Alu ops.Xor width dst (operands.Imm value)) range = refl
form_again (insn.Alu ops.Mov width dst (operands.Imm value)) range = refl
form_again (insn.Alu ops.Arsh width dst (operands.Imm value)) range = refl
form_again (insn.Alu ops.Add width dst (operands.Reg src)) range = refl
form_again (insn.Alu ops.Sub width dst (operands.Reg src)) range = refl
form_again (insn.Alu ops.Mul width dst (operands.Reg src)) range = refl
form_again (insn.Alu ops.Div width dst (operands.Reg src)) range = refl
form_again (insn.Alu ops.Sdiv width dst (operands.Reg src)) range = refl
form_again (insn.Alu ops.Or width dst (operands.Reg src)) range = refl
form_again (insn.Alu ops.And width dst (operands.Reg src)) range = refl
form_again (insn.Alu ops.Lsh width dst (operands.Reg src)) range = refl
form_again (insn.Alu ops.Rsh width dst (operands.Reg src)) range = refl
form_again (insn.Alu ops.Mod width dst (operands.Reg src)) range = refl
form_again (insn.Alu ops.Smod width dst (operands.Reg src)) range = refl
form_again (insn.Alu ops.Xor width dst (operands.Reg src)) range = refl
form_again (insn.Alu ops.Mov width dst (operands.Reg src)) range = refl
form_again (insn.Alu ops.Arsh width dst (operands.Reg src)) range = refl
form_again (insn.Neg width dst) range = refl
form_again (insn.Movsx kinds.From8To32 dst src) range = refl
form_again (insn.Movsx kinds.From16To32 dst src) range = refl
form_again (insn.Movsx kinds.From8To64 dst src) range = refl
form_again (insn.Movsx kinds.From16To64 dst src) range = refl
form_again (insn.Movsx kinds.From32To64 dst src) range = refl
form_again (insn.Swap order swaps.Bits16 dst) range = refl
form_again (insn.Swap order swaps.Bits32 dst) range = refl
form_again (insn.Swap order swaps.Bits64 dst) range = refl
form_again (insn.Ja off) range = refl
form_again (insn.JaLong off) range = refl
form_again (insn.Branch cond width dst (operands.Imm value) off) range = refl
form_again (insn.Branch cond width dst (operands.Reg src) off) range = refl
form_again (insn.Call id) range = refl
form_again insn.Exit range = refl
form_again (insn.Load size dst base off) range = refl
form_again (insn.LoadSx size dst base off) range = refl
form_again (insn.StoreReg size base off src) range = refl
form_again (insn.StoreImm size base off imm) range = refl
form_again (insn.LoadImm64 dst value) range =
    let low : cast_unsigned w32 (cast_signed w32 (value % 2 ^ 32)) ≡ value % 2 ^ 32 = of_z-to_z w32 (value % 2 ^ 32)
    (omega arith) in
    let whole : value / 2 ^ 32 * 2 ^ 32 + cast_unsigned w32 (cast_signed w32 (value % 2 ^ 32)) ≡ value = omega arith in
    ap (λ (n : ℕ). done (insn.LoadImm64 dst n)) whole

pub second_is : (i : Insn) → second_slot i ≡ high_bytes (is_wide (slot_of i).opcode) (high_of i)
second_is (insn.Alu op width dst (operands.Imm value)) = refl
second_is (insn.Alu op width dst (operands.Reg src)) = refl
second_is (insn.Neg width dst) = refl
second_is (insn.Movsx kind dst src) = refl
second_is (insn.Swap order bits dst) = refl
second_is (insn.Ja off) = refl
second_is (insn.JaLong off) = refl
second_is (insn.Branch cond width dst (operands.Imm value) off) = refl
second_is (insn.Branch cond width dst (operands.Reg src) off) = refl
second_is (insn.Call id) = refl
second_is insn.Exit = refl
second_is (insn.Load size dst base off) = refl
second_is (insn.LoadSx size dst base off) = refl
second_is (insn.StoreReg size base off src) = refl
second_is (insn.StoreImm size base off imm) = refl
second_is (insn.LoadImm64 dst value) = refl

pub size_is : (i : Insn) → slots_taken i ≡ opcode_slots (slot_of i).opcode
size_is (insn.Alu op width dst (operands.Imm value)) = refl
size_is (insn.Alu op width dst (operands.Reg src)) = refl
size_is (insn.Neg width dst) = refl
size_is (insn.Movsx kind dst src) = refl
size_is (insn.Swap order bits dst) = refl
size_is (insn.Ja off) = refl
size_is (insn.JaLong off) = refl
size_is (insn.Branch cond width dst (operands.Imm value) off) = refl
size_is (insn.Branch cond width dst (operands.Reg src) off) = refl
size_is (insn.Call id) = refl
size_is insn.Exit = refl
size_is (insn.Load size dst base off) = refl
size_is (insn.LoadSx size dst base off) = refl
size_is (insn.StoreReg size base off src) = refl
size_is (insn.StoreImm size base off imm) = refl
size_is (insn.LoadImm64 dst value) = refl

pub high_fits : (i : Insn) → InRange i → high_of i < 2 ^ 32
high_fits (insn.LoadImm64 dst value) range = omega arith
high_fits (insn.Alu op width dst src) range = omega arith
high_fits (insn.Neg width dst) range = omega arith
high_fits (insn.Movsx kind dst src) range = omega arith
high_fits (insn.Swap order bits dst) range = omega arith
high_fits (insn.Ja off) range = omega arith
high_fits (insn.JaLong off) range = omega arith
high_fits (insn.Branch test width dst src off) range = omega arith
high_fits (insn.Call id) range = omega arith
high_fits insn.Exit range = omega arith
high_fits (insn.Load size dst base off) range = omega arith
high_fits (insn.LoadSx size dst base off) range = omega arith
high_fits (insn.StoreReg size base off src) range = omega arith
high_fits (insn.StoreImm size base off imm) range = omega arith
