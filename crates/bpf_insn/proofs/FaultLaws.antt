-- A fault that is read is the lowest one that holds, and no spelling begins there.
use Rattle.std.proofs.Common.{◌≡◌, ◌≢◌, ℕ, ◌+◌, ◌*◌, ◌/◌, ◌%◌, ◌^◌, ◌<◌, ◌≤◌, Bool, true, false, cond, List, [], ◌∷◌, ◌++◌, length, take, drop, Option, Some, None, Result, Ok, Err, refl, sym, ap, ◌∙◌, arith, inl, inr, ◌⊎◌}
use Rattle.std.specs.Prelude.{◌==◌, nat_lt, slice_index, if◌then◌else◌, bit_and, is_none, ℤ, IfOk, IfErr}
use Rattle.std.specs.Int.{w16, w32, from_le_bytes, cast_unsigned}
use Rattle.std.proofs.lemmas.Bool.{ltb-false, ltb-true, eqb-false, eq-eqb, ne_eqb, cases_eq, cases_Bool, agree_below_at}
use Rattle.std.proofs.lemmas.Nat.{and_mask}
use Rattle.std.proofs.lemmas.List.{get_or-take, get_or-drop}
use Rattle.bpf_insn.specs.declared.forms.Width.TheVariants.{W32, W64}
use Rattle.bpf_insn.specs.declared.forms.MovsxKind.{MovsxKind}
use Rattle.bpf_insn.specs.declared.forms.MovsxKind.TheVariants as kinds
use Rattle.bpf_insn.specs.declared.forms.SwapBits.{SwapBits}
use Rattle.bpf_insn.specs.declared.forms.SwapBits.TheVariants as swaps
use Rattle.bpf_insn.specs.declared.forms.Order.{Order}
use Rattle.bpf_insn.specs.declared.forms.Reg.{Reg}
use Rattle.bpf_insn.specs.declared.forms.Insn.{Insn}
use Rattle.bpf_insn.specs.declared.opcode.AluCode.TheVariants.{Mov}
use Rattle.bpf_insn.specs.declared.opcode.Source.TheVariants as source
use Rattle.bpf_insn.specs.declared.opcode.Opcode.{Opcode}
use Rattle.bpf_insn.specs.declared.opcode.Opcode.TheVariants as opcode
use Rattle.bpf_insn.specs.declared.slot.Slot.{Slot}
use Rattle.bpf_insn.specs.declared.slot.SlotFault.{SlotFault}
use Rattle.bpf_insn.specs.declared.slot.SlotFault.TheVariants.{Truncated, UnknownOpcode, BadRegister, NonZeroField, BadWidth}
use Rattle.bpf_insn.specs.Registers.{register_number}
use Rattle.bpf_insn.specs.inner.Registers.{register_at}
use Rattle.bpf_insn.specs.Opcodes.{opcode_byte}
use Rattle.bpf_insn.specs.inner.Opcodes.{is_wide, opcode_slots}
use Rattle.bpf_insn.specs.Encoding.{has_stray_field}
use Rattle.bpf_insn.specs.inner.Reading.{◌>>=◌, found, unless, slot_at, fields_at, high_at, kind_at, extension_by, swap_bits_at, swap_by, form_at}
use Rattle.bpf_insn.specs.Images.{StandsAt, FaultHolds, IsFaultAt, fault_number, has_bad_width}
use Rattle.bpf_insn.specs.inner.Images.{IsFirst}
use Rattle.bpf_insn.proofs.OpcodeLaws.{opcode_at, opcode_takes, opcode_again, number_small}
use Rattle.bpf_insn.proofs.SlotLaws.{IsBytes, Spells, ok_is, found_ok, slot_takes, slot_again}
use Rattle.bpf_insn.specs.inner.Encoding.{slot_with}
use Rattle.bpf_insn.proofs.FormLaws.{IsClean, clean_from, high_bytes}
use Rattle.bpf_insn.proofs.FrontLaws.{front_at, front_takes, Second, second_takes, front_again}

-- ---- where a step failed

unless_err : {A : Type 0} (b : Bool) (d f : SlotFault) (next : Result A SlotFault) → unless b d next ≡ Err f
    → ((b ≡ true) × (f ≡ d)) ⊎ ((b ≡ false) × (next ≡ Err f))
unless_err true d f next e = inl (refl, cc)
unless_err false d f next e = inr (refl, e)

bind_err : {A B : Type 0} (r : Result A SlotFault) (g : A → Result B SlotFault) (f : SlotFault) → (r >>= g) ≡ Err f
    → (r ≡ Err f) ⊎ ((x : A) × (r ≡ Ok x) × (g x ≡ Err f))
bind_err (Ok x) g f e = inr (x, refl, e)
bind_err (Err d) g f e = inl cc

found_err : {A : Type 0} (d f : SlotFault) (o : Option A) → found d o ≡ Err f → (o ≡ None) × (f ≡ d)
found_err d f None e = (refl, cc)
found_err d f (Some x) e = absurd cc

-- ---- each fault, where the steps before it went well

wide_byte : (o : Opcode) → is_wide o ≡ true → opcode_byte o ≡ 0x18
wide_byte opcode.LoadImm64 e = refl
wide_byte (opcode.Alu code width source) e = absurd cc
wide_byte (opcode.Neg width) e = absurd cc
wide_byte (opcode.Swap order) e = absurd cc
wide_byte opcode.Ja e = absurd cc
wide_byte opcode.JaLong e = absurd cc
wide_byte (opcode.Branch test width source) e = absurd cc
wide_byte opcode.Call e = absurd cc
wide_byte opcode.Exit e = absurd cc
wide_byte (opcode.Load size) e = absurd cc
wide_byte (opcode.LoadSx size) e = absurd cc
wide_byte (opcode.StoreImm size) e = absurd cc
wide_byte (opcode.StoreReg size) e = absurd cc

not_truncated : (bytes : List ℕ) (o : Opcode) → 8 ≤ length bytes → opcode_at (slice_index bytes 0) ≡ Some o
    → 8 * opcode_slots o ≤ length bytes → FaultHolds Truncated bytes → ⊥
unfolding opcode_at
not_truncated bytes o eight first whole h =
    elim (cases_eq (slice_index bytes 0) 0x18) [
      | inl e ↦
          let wide : Some opcode.LoadImm64 ≡ Some o = sym (ap opcode_at e) ∙ first in
          let is : opcode.LoadImm64 ≡ o = cc in
          let size : opcode_slots opcode.LoadImm64 ≡ opcode_slots o = ap opcode_slots is in
          omega (arith, size, rw (eq-eqb (slice_index bytes 0) 0x18 e) at h.1)
      | inr ne ↦ omega (arith, rw (ne_eqb (slice_index bytes 0) 0x18 ne) at h.1)
    ]

is_cut_short : (bytes : List ℕ) (o : Opcode) → slice_index bytes 0 < 256 → 8 ≤ length bytes
    → opcode_at (slice_index bytes 0) ≡ Some o → length bytes < 8 * opcode_slots o → FaultHolds Truncated bytes
is_cut_short bytes o lt eight first short =
    elim (cases_Bool (is_wide o)) [
      | inl wide ↦
          let byte : slice_index bytes 0 ≡ 0x18 = sym (opcode_takes (slice_index bytes 0) o lt first)
          ∙ wide_byte o wide in
          let short16 : length bytes < 16 = rw wide at short in
          (omega arith, rw (eq-eqb (slice_index bytes 0) 0x18 byte) short16)
      | inr narrow ↦ let short8 : length bytes < 8 = rw narrow at short in absurd (omega arith)
    ]

unknown : (bytes : List ℕ) → opcode_at (slice_index bytes 0) ≡ None → FaultHolds UnknownOpcode bytes
unknown bytes e = λ o same. let is : opcode_at (slice_index bytes 0) ≡ Some o = ap opcode_at (sym same)
    ∙ opcode_again o in cc

no_register : (n : ℕ) → n < 16 → register_at n ≡ None → 10 < n
no_register n lt e =
    let test = agree_below_at (λ k. if is_none (register_at k) then nat_lt 10 k else true) (λ k. true) 16 n refl lt in
    ltb-true 10 n (rw e at test)

bad_register : (o : Opcode) (bytes : List ℕ) (f : SlotFault) → slice_index bytes 1 < 256 → slot_at o bytes ≡ Err f
    → (f ≡ BadRegister) × FaultHolds BadRegister bytes
unfolding slot_at
bad_register o bytes f lt e =
    let low : bit_and (slice_index bytes 1) 15 ≡ slice_index bytes 1 % 2 ^ 4 = and_mask (slice_index bytes 1) 4 in
    elim (bind_err (found BadRegister (register_at (bit_and (slice_index bytes 1) 15))) _ f e) [
      | inl d ↦
          let none = found_err BadRegister f (register_at (bit_and (slice_index bytes 1) 15)) d in
          let high : 10 < bit_and (slice_index bytes 1) 15 = no_register (bit_and (slice_index bytes 1) 15)
          (omega arith) none.0 in
          (none.1, inl (omega arith))
      | inr d ↦
          elim (bind_err (found BadRegister (register_at (slice_index bytes 1 / 16)))
          (λ src. Ok (fields_at o d.0 src bytes)) f d.2) [
            | inl s ↦
                let none = found_err BadRegister f (register_at (slice_index bytes 1 / 16)) s in
                (none.1, inr (no_register (slice_index bytes 1 / 16) (omega arith) none.0))
            | inr s ↦ absurd cc
          ]
    ]

not_bad_register : (o : Opcode) (bytes : List ℕ) (s : Slot) → Spells o bytes s → FaultHolds BadRegister bytes → ⊥
not_bad_register o bytes s spelled h =
    let at : slice_index bytes 1 ≡ register_number s.dst + 16 * register_number s.src = ap
    (λ (t : List ℕ). slice_index t 1) spelled.parts in
    let dst = number_small s.dst in
    let src = number_small s.src in
    elim h [ inl low ↦ omega arith | inr high ↦ omega arith ]

-- the slot that stands at the front is the one that was read
slot_once : (bytes : List ℕ) (o : Opcode) (s t : Slot) → opcode_at (slice_index bytes 0) ≡ Some o
    → slot_at o bytes ≡ Ok s → StandsAt t bytes → t ≡ s
slot_once bytes o s t first read stands =
    let byte : slice_index bytes 0 ≡ opcode_byte t.opcode = ap (λ (u : List ℕ). slice_index u 0) stands.parts in
    let other : Some t.opcode ≡ Some o = sym (opcode_again t.opcode) ∙ (ap opcode_at (sym byte) ∙ first) in
    let same : t.opcode ≡ o = cc in
    let again : slot_at t.opcode bytes ≡ Ok t = ap (slot_at t.opcode) stands.parts
    ∙ slot_again t (drop 8 bytes) (record { offset = stands.offset; imm = stands.imm }) in
    ok_is t s (sym again ∙ (ap (λ (p : Opcode). slot_at p bytes) same ∙ read))

stands : (o : Opcode) (bytes : List ℕ) (s : Slot) → Spells o bytes s → StandsAt s bytes
stands o bytes s spelled = record { offset = spelled.fits.offset; imm = spelled.fits.imm; parts = spelled.parts }

not_stray : (bytes : List ℕ) (o : Opcode) (s : Slot) (high : ℕ) → opcode_at (slice_index bytes 0) ≡ Some o
    → slot_at o bytes ≡ Ok s → has_stray_field s ≡ false → Second (is_wide o) bytes high
    → FaultHolds NonZeroField bytes → ⊥
unfolding opcode_at
not_stray bytes o s high first read clean second h =
    elim h [
      | inl t ↦
          let same = slot_once bytes o s t.0 first read t.1 in
          let both : true ≡ false = sym t.2 ∙ (ap has_stray_field same ∙ clean) in
          absurd cc
      | inr t ↦
          let wide : Some opcode.LoadImm64 ≡ Some o = sym (ap opcode_at t.0) ∙ first in
          let is : o ≡ opcode.LoadImm64 = cc in
          let parts : drop 8 bytes ≡ high_bytes true high ++ drop 16 bytes = (rw is at second).parts in
          t.1 (ap (take 4) parts)
    ]

chosen_err : {A : Type 0} (b : Bool) (d f : SlotFault) (x : A) → cond b (Ok x) (Err d) ≡ Err f → (b ≡ false) × (f ≡ d)
chosen_err true d f x e = absurd cc
chosen_err false d f x e = (refl, cc)

second_fault : (wide : Bool) (bytes : List ℕ) (f : SlotFault) → high_at wide bytes ≡ Err f
    → 8 * (if wide then 2 else 1) ≤ length bytes
    → (wide ≡ true) × (f ≡ NonZeroField) × (take 4 (drop 8 bytes) ≢ 0 ∷ 0 ∷ 0 ∷ 0 ∷ [])
second_fault false bytes f e len = absurd cc
second_fault true bytes f e len =
    let d = chosen_err (from_le_bytes w32 (slice_index bytes 8 ∷ slice_index bytes 9 ∷ slice_index bytes 10
    ∷ slice_index bytes 11 ∷ []) == 0) NonZeroField f _ e in (
      refl,
      d.1,
      λ zero.
          let z0 : slice_index (take 4 (drop 8 bytes)) 0 ≡ 0 = ap (λ (t : List ℕ). slice_index t 0) zero in
          let z1 : slice_index (take 4 (drop 8 bytes)) 1 ≡ 0 = ap (λ (t : List ℕ). slice_index t 1) zero in
          let z2 : slice_index (take 4 (drop 8 bytes)) 2 ≡ 0 = ap (λ (t : List ℕ). slice_index t 2) zero in
          let z3 : slice_index (take 4 (drop 8 bytes)) 3 ≡ 0 = ap (λ (t : List ℕ). slice_index t 3) zero in
          eqb-false (from_le_bytes w32 (slice_index bytes 8 ∷ slice_index bytes 9 ∷ slice_index bytes 10
          ∷ slice_index bytes 11 ∷ [])) 0 d.0
          (omega (
            arith,
            at_second bytes 0 (omega arith),
            at_second bytes 1 (omega arith),
            at_second bytes 2
                (omega arith),
            at_second bytes 3 (omega arith),
          )),
    )
  where
    at_second : (bs : List ℕ) (k : ℕ) → k < 4 → slice_index (take 4 (drop 8 bs)) k ≡ slice_index bs (8 + k)
    at_second bs k lt = get_or-take 4 (drop 8 bs) k 0 lt ∙ get_or-drop 8 bs k 0

either_err : {A : Type 0} (b : Bool) (x : A) (y : Result A SlotFault) (f : SlotFault) → cond b (Ok x) y ≡ Err f
    → (b ≡ false) × (y ≡ Err f)
either_err true x y f e = absurd cc
either_err false x y f e = (refl, e)

drop_to : {A : Type 0} (b : Bool) (x : A) (y : Option A) → cond b (Some x) y ≡ None → (b ≡ false) × (y ≡ None)
drop_to true x y e = absurd cc
drop_to false x y e = (refl, e)

extension_err : (s : Slot) (o : Option MovsxKind) (f : SlotFault) → extension_by s o ≡ Err f
    → (o ≡ None) × (f ≡ BadWidth)
extension_err s (Some kind) f e = absurd cc
extension_err s None f e = (refl, cc)

swap_err : (order : Order) (s : Slot) (o : Option SwapBits) (f : SlotFault) → swap_by order s o ≡ Err f
    → (o ≡ None) × (f ≡ BadWidth)
swap_err order s (Some bits) f e = absurd cc
swap_err order s None f e = (refl, cc)

bad_width_at : (o : Opcode) (dst src : Reg) (offset imm : ℤ) (high : ℕ) (f : SlotFault)
    → IsClean (slot_with o dst src offset imm) → form_at o (slot_with o dst src offset imm) high ≡ Err f
    → (f ≡ BadWidth) × (has_bad_width (slot_with o dst src offset imm) ≡ true)
bad_width_at (opcode.Alu Mov W32 source.Reg) dst src offset imm high f clean e =
    let n = cast_unsigned w16 offset in
    let zero = either_err (n == 0) _ _ f e in
    let none = extension_err (slot_with (opcode.Alu Mov W32 source.Reg) dst src offset imm)
    (kind_at W32 offset) f zero.1 in
    let a = drop_to (n == 8) kinds.From8To32 _ none.0 in
    let b = drop_to (n == 16) kinds.From16To32 None a.1 in
    (none.1, rw (zero.0, a.0, b.0) refl)
bad_width_at (opcode.Alu Mov W64 source.Reg) dst src offset imm high f clean e =
    let n = cast_unsigned w16 offset in
    let zero = either_err (n == 0) _ _ f e in
    let none = extension_err (slot_with (opcode.Alu Mov W64 source.Reg) dst src offset imm)
    (kind_at W64 offset) f zero.1 in
    let a = drop_to (n == 8) kinds.From8To64 _ none.0 in
    let b = drop_to (n == 16) kinds.From16To64 _ a.1 in
    let c = drop_to (n == 32) kinds.From32To64 None b.1 in
    (none.1, rw (zero.0, a.0, b.0, c.0) refl)
bad_width_at (opcode.Alu code width source) dst src offset imm high f clean e = absurd cc
bad_width_at (opcode.Swap order) dst src offset imm high f clean e =
    let n = cast_unsigned w32 imm in
    let none = swap_err order (slot_with (opcode.Swap order) dst src offset imm) (swap_bits_at imm) f e in
    let a = drop_to (n == 16) swaps.Bits16 _ none.0 in
    let b = drop_to (n == 32) swaps.Bits32 _ a.1 in
    let c = drop_to (n == 64) swaps.Bits64 None b.1 in
    (none.1, rw (a.0, b.0, c.0) refl)
bad_width_at (opcode.Neg width) dst src offset imm high f clean e = absurd cc
bad_width_at opcode.Ja dst src offset imm high f clean e = absurd cc
bad_width_at opcode.JaLong dst src offset imm high f clean e = absurd cc
bad_width_at (opcode.Branch test width source) dst src offset imm high f clean e = absurd cc
bad_width_at opcode.Call dst src offset imm high f clean e = absurd cc
bad_width_at opcode.Exit dst src offset imm high f clean e = absurd cc
bad_width_at opcode.LoadImm64 dst src offset imm high f clean e = absurd cc
bad_width_at (opcode.Load size) dst src offset imm high f clean e = absurd cc
bad_width_at (opcode.LoadSx size) dst src offset imm high f clean e = absurd cc
bad_width_at (opcode.StoreImm size) dst src offset imm high f clean e = absurd cc
bad_width_at (opcode.StoreReg size) dst src offset imm high f clean e = absurd cc

-- ---- together

abbrev IsLowest : SlotFault → List ℕ → Type 0
IsLowest fault bytes = FaultHolds fault bytes ×
    ((other : SlotFault) → fault_number other < fault_number fault → FaultHolds other bytes → ⊥)

lowest_truncated : (bytes : List ℕ) → FaultHolds Truncated bytes → IsLowest Truncated bytes
lowest_truncated bytes h = (h, none)
  where
    none : (other : SlotFault) → fault_number other < 3 → FaultHolds other bytes → ⊥
    none Truncated lt h = omega arith
    none UnknownOpcode lt h = omega arith
    none BadRegister lt h = omega arith
    none NonZeroField lt h = omega arith
    none BadWidth lt h = omega arith

lowest_unknown : (bytes : List ℕ) → FaultHolds UnknownOpcode bytes → (FaultHolds Truncated bytes → ⊥)
    → IsLowest UnknownOpcode bytes
lowest_unknown bytes h a = (h, none)
  where
    none : (other : SlotFault) → fault_number other < 4 → FaultHolds other bytes → ⊥
    none Truncated lt h = a h
    none UnknownOpcode lt h = omega arith
    none BadRegister lt h = omega arith
    none NonZeroField lt h = omega arith
    none BadWidth lt h = omega arith

lowest_register : (bytes : List ℕ) → FaultHolds BadRegister bytes → (FaultHolds Truncated bytes → ⊥)
    → (FaultHolds UnknownOpcode bytes → ⊥) → IsLowest BadRegister bytes
lowest_register bytes h a b = (h, none)
  where
    none : (other : SlotFault) → fault_number other < 5 → FaultHolds other bytes → ⊥
    none Truncated lt h = a h
    none UnknownOpcode lt h = b h
    none BadRegister lt h = omega arith
    none NonZeroField lt h = omega arith
    none BadWidth lt h = omega arith

lowest_field : (bytes : List ℕ) → FaultHolds NonZeroField bytes → (FaultHolds Truncated bytes → ⊥)
    → (FaultHolds UnknownOpcode bytes → ⊥) → (FaultHolds BadRegister bytes → ⊥) → IsLowest NonZeroField bytes
lowest_field bytes h a b c = (h, none)
  where
    none : (other : SlotFault) → fault_number other < 6 → FaultHolds other bytes → ⊥
    none Truncated lt h = a h
    none UnknownOpcode lt h = b h
    none BadRegister lt h = c h
    none NonZeroField lt h = omega arith
    none BadWidth lt h = omega arith

lowest_width : (bytes : List ℕ) → FaultHolds BadWidth bytes → (FaultHolds Truncated bytes → ⊥)
    → (FaultHolds UnknownOpcode bytes → ⊥) → (FaultHolds BadRegister bytes → ⊥) → (FaultHolds NonZeroField bytes → ⊥)
    → IsLowest BadWidth bytes
lowest_width bytes h a b c d = (h, none)
  where
    none : (other : SlotFault) → fault_number other < 7 → FaultHolds other bytes → ⊥
    none Truncated lt h = a h
    none UnknownOpcode lt h = b h
    none BadRegister lt h = c h
    none NonZeroField lt h = d h
    none BadWidth lt h = omega arith

-- with the opcode and the slot known
after_slot : (bytes : List ℕ) (o : Opcode) (s : Slot) (f : SlotFault) → IsBytes bytes → 8 ≤ length bytes
    → opcode_at (slice_index bytes 0) ≡ Some o → 8 * opcode_slots o ≤ length bytes → slot_at o bytes ≡ Ok s
    → (high_at (is_wide o) bytes >>= λ high. unless (has_stray_field s) NonZeroField (form_at s.opcode s high)) ≡ Err f
    → IsLowest f bytes
after_slot bytes o s f fits eight first whole read e =
    let spelled = slot_takes o bytes s fits eight (opcode_takes (slice_index bytes 0) o (fits 0) first) read in
    let stand = stands o bytes s spelled in
    let truncated = not_truncated bytes o eight first whole in
    let known = λ (h : FaultHolds UnknownOpcode bytes). h o (opcode_takes (slice_index bytes 0) o (fits 0) first) in
    let registers = not_bad_register o bytes s spelled in
    elim (bind_err (high_at (is_wide o) bytes) (λ high. unless (has_stray_field s) NonZeroField
    (form_at s.opcode s high)) f e) [
      | inl d ↦
          let second = second_fault (is_wide o) bytes f d whole in
          let byte : slice_index bytes 0 ≡ 0x18 = sym (opcode_takes (slice_index bytes 0) o (fits 0) first)
          ∙ wide_byte o second.0 in
          rw second.1 (lowest_field bytes (inr (byte, second.2)) truncated known registers)
      | inr d ↦
          elim (unless_err (has_stray_field s) NonZeroField f (form_at s.opcode s d.0) d.2) [
            | inl stray ↦ rw stray.1 (lowest_field bytes (inl (s, stand, stray.0)) truncated known registers)
            | inr clean ↦
                let second = second_takes (is_wide o) bytes d.0 fits whole d.1 in
                let bad = bad_width_at s.opcode s.dst s.src s.offset s.imm d.0 f
                (clean_from s spelled.fits clean.0) clean.1 in
                rw bad.0 (lowest_width bytes (s, stand, bad.1) truncated known registers
                (not_stray bytes o s d.0 first read clean.0 second))
          ]
    ]

below_both : (b : Bool) (n : ℕ) → n < 8 → n < (if b then 16 else 8)
below_both true n lt = omega arith
below_both false n lt = lt

not_cut_short : (bytes : List ℕ) → 8 ≤ length bytes → opcode_at (slice_index bytes 0) ≡ None
    → FaultHolds Truncated bytes → ⊥
unfolding opcode_at
not_cut_short bytes eight none h =
    elim (cases_eq (slice_index bytes 0) 0x18) [
      | inl e ↦ let wide : Some opcode.LoadImm64 ≡ None = sym (ap opcode_at e) ∙ none in absurd cc
      | inr ne ↦ omega (arith, rw (ne_eqb (slice_index bytes 0) 0x18 ne) at h.1)
    ]

lowest : (bytes : List ℕ) (f : SlotFault) → IsBytes bytes → 0 < length bytes → front_at bytes ≡ Err f → IsLowest f bytes
unfolding front_at
lowest bytes f fits some e =
    elim (unless_err (nat_lt (length bytes) 8) Truncated f _ e) [
      | inl short ↦ rw short.1 (lowest_truncated bytes
          (some, below_both (slice_index bytes 0 == 0x18) (length bytes) (ltb-true (length bytes) 8 short.0)))
      | inr enough ↦
          let eight = ltb-false (length bytes) 8 enough.0 in
          elim (bind_err (found UnknownOpcode (opcode_at (slice_index bytes 0))) _ f enough.1) [
            | inl d ↦
                let none = found_err UnknownOpcode f (opcode_at (slice_index bytes 0)) d in
                rw none.1 (lowest_unknown bytes (unknown bytes none.0) (not_cut_short bytes eight none.0))
            | inr d ↦
                let first = found_ok UnknownOpcode (opcode_at (slice_index bytes 0)) d.0 d.1 in
                elim (unless_err (nat_lt (length bytes) (8 * opcode_slots d.0)) Truncated f _ d.2) [
                  | inl short ↦ rw short.1 (lowest_truncated bytes
                      (is_cut_short bytes d.0 (fits 0) eight first
                      (ltb-true (length bytes) (8 * opcode_slots d.0) short.0)))
                  | inr whole ↦
                      let enough = ltb-false (length bytes) (8 * opcode_slots d.0) whole.0 in
                      elim (bind_err (slot_at d.0 bytes) _ f whole.1) [
                        | inl r ↦
                            let bad = bad_register d.0 bytes f (fits 1) r in
                            rw bad.0 (lowest_register bytes bad.1 (not_truncated bytes d.0 eight first enough)
                            (λ h. h d.0 (opcode_takes (slice_index bytes 0) d.0 (fits 0) first)))
                        | inr r ↦ after_slot bytes d.0 r.0 f fits eight first enough r.1 r.2
                      ]
                ]
          ]
    ]

pub front_fault : (bytes : List ℕ) (f : SlotFault) → IsBytes bytes → 0 < length bytes → front_at bytes ≡ Err f
    → IsFaultAt f bytes
front_fault bytes f fits some e =
    let low = lowest bytes f fits some e in
    record {
      left = some;
      none = λ i more range same. let again : front_at bytes ≡ Ok i = ap front_at same ∙ front_again i more range in
          absurd cc;
      holds = low.0;
      lowest = low.1;
    }

-- the answer of the reader: the instruction that is spelled at the front, or the fault there
pub front_read : (bytes : List ℕ) (read : Result Insn SlotFault) → IsBytes bytes → 0 < length bytes
    → read ≡ front_at bytes
    → IfOk read (IsFirst bytes) × IfErr read (λ f. IsFaultAt f bytes)
front_read bytes (Ok i) fits some e = (front_takes bytes i fits (sym e), tt)
front_read bytes (Err f) fits some e = (tt, front_fault bytes f fits some (sym e))
