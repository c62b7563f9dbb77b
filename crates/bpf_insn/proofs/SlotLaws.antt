-- The fields of a slot that is read are those that were spelled.
use Rattle.std.proofs.Common.{◌≡◌, ℕ, zero, suc, ◌+◌, ◌*◌, ◌/◌, ◌%◌, ◌^◌, ◌<◌, ◌≤◌, List, [], ◌∷◌, ◌++◌, length, get_or, drop, Option, Some, None, Result, Ok, Err, refl, ap, subst, ◌∙◌, arith, rules}
use Rattle.std.specs.Prelude.{FitsSigned, bit_and, slice_index}
use Rattle.std.specs.Int.{w16, w32, cast_signed, cast_unsigned, to_le_bytes, from_le_bytes}
use Rattle.std.proofs.lemmas.Int.{to_z-of_z, of_z-to_z}
use Rattle.std.proofs.lemmas.Nat.{le_bytes_2, le_bytes_4, from_le_bytes-to_le_bytes_2, from_le_bytes-to_le_bytes_4, and_mask}
use Rattle.std.proofs.Math.Facts.{Fits-of_z}
use Rattle.bpf_insn.specs.declared.forms.Reg.{Reg}
use Rattle.bpf_insn.specs.declared.opcode.Opcode.{Opcode}
use Rattle.bpf_insn.specs.declared.slot.Slot.{Slot}
use Rattle.bpf_insn.specs.declared.slot.SlotFault.{SlotFault}
use Rattle.bpf_insn.specs.declared.slot.SlotFault.TheVariants.{BadRegister}
use Rattle.bpf_insn.specs.Registers.{register_number}
use Rattle.bpf_insn.specs.inner.Registers.{register_at}
use Rattle.bpf_insn.specs.Opcodes.{opcode_byte}
use Rattle.bpf_insn.specs.Encoding.{slot_bytes}
use Rattle.bpf_insn.specs.inner.Reading.{◌>>=◌, found, fields_at, slot_at}
use Rattle.bpf_insn.proofs.OpcodeLaws.{register_takes, register_again, number_small}

abbrev pub IsBytes : List ℕ → Type 0
IsBytes bytes = (i : ℕ) → get_or bytes i 0 < 256

-- the value of a step that did not fail
pub bind_ok : {A B : Type 0} (r : Result A SlotFault) (f : A → Result B SlotFault) (y : B) → (r >>= f) ≡ Ok y
    → (x : A) × (r ≡ Ok x) × (f x ≡ Ok y)
bind_ok (Ok x) f y e = (x, refl, e)
bind_ok (Err d) f y e = absurd cc

pub found_ok : {A : Type 0} (d : SlotFault) (o : Option A) (x : A) → found d o ≡ Ok x → o ≡ Some x
found_ok d (Some y) x e = cc
found_ok d None x e = absurd cc

-- the fields fit their bytes
pub record SlotFits (s : Slot) : Type 0 where
  pub offset : FitsSigned w16 s.offset
  pub imm : FitsSigned w32 s.imm

pub IsBytes-nil : IsBytes []
IsBytes-nil i = omega arith

pub IsBytes-cons : (a : ℕ) (bytes : List ℕ) → a < 256 → IsBytes bytes → IsBytes (a ∷ bytes)
IsBytes-cons a bytes p h zero = p
IsBytes-cons a bytes p h (suc i) = h i

offset_takes : (a b : ℕ) → a < 256 → b < 256 → to_le_bytes w16
    (cast_unsigned w16 (cast_signed w16 (from_le_bytes w16 (a ∷ b ∷ [])))) ≡ a ∷ b ∷ []
offset_takes a b p q =
    let bytes : List ℕ = a ∷ b ∷ [] in
    ap (to_le_bytes w16) (of_z-to_z w16 (from_le_bytes w16 bytes) (omega arith))
    ∙ le_bytes_2 bytes (from_le_bytes w16 bytes) refl (IsBytes-cons a (b ∷ []) p (IsBytes-cons b [] q IsBytes-nil)) refl

pub four_bytes : (a b c d : ℕ) → a < 256 → b < 256 → c < 256 → d < 256
    → to_le_bytes w32 (from_le_bytes w32 (a ∷ b ∷ c ∷ d ∷ [])) ≡ a ∷ b ∷ c ∷ d ∷ []
four_bytes a b c d p q r s =
    let bytes : List ℕ = a ∷ b ∷ c ∷ d ∷ [] in
    le_bytes_4 bytes (from_le_bytes w32 bytes) refl
    (IsBytes-cons a (b ∷ c ∷ d ∷ []) p (IsBytes-cons b (c ∷ d ∷ []) q
    (IsBytes-cons c (d ∷ []) r (IsBytes-cons d [] s IsBytes-nil)))) refl

imm_takes : (a b c d : ℕ) → a < 256 → b < 256 → c < 256 → d < 256
    → to_le_bytes w32 (cast_unsigned w32 (cast_signed w32 (from_le_bytes w32 (a ∷ b ∷ c ∷ d ∷ [])))) ≡ a ∷ b ∷ c ∷ d
    ∷ []
imm_takes a b c d p q r s =
    ap (to_le_bytes w32) (of_z-to_z w32 (from_le_bytes w32 (a ∷ b ∷ c ∷ d ∷ [])) (omega arith))
    ∙ four_bytes a b c d p q r s

registers_take : (b : ℕ) (dst src : Reg) → b < 256 → register_at (bit_and b 15) ≡ Some dst
    → register_at (b / 16) ≡ Some src → register_number dst + 16 * register_number src ≡ b
registers_take b dst src lt d s =
    let low : bit_and b 15 ≡ b % 2 ^ 4 = and_mask b 4 in
    let dst-is : register_number dst ≡ bit_and b 15 = register_takes (bit_and b 15) dst (omega arith) d in
    let src-is : register_number src ≡ b / 16 = register_takes (b / 16) src (omega arith) s in
    omega arith

-- eight bytes and more
pub data IsLong : List ℕ → Type 0 where
  long : (b0 b1 b2 b3 b4 b5 b6 b7 : ℕ) (more : List ℕ) → IsLong (b0 ∷ b1 ∷ b2 ∷ b3 ∷ b4 ∷ b5 ∷ b6 ∷ b7 ∷ more)

pub long_from : (bytes : List ℕ) → 8 ≤ length bytes → IsLong bytes
long_from [] h = absurd (omega arith)
long_from (a ∷ []) h = absurd (omega arith)
long_from (a ∷ b ∷ []) h = absurd (omega arith)
long_from (a ∷ b ∷ c ∷ []) h = absurd (omega arith)
long_from (a ∷ b ∷ c ∷ d ∷ []) h = absurd (omega arith)
long_from (a ∷ b ∷ c ∷ d ∷ e ∷ []) h = absurd (omega arith)
long_from (a ∷ b ∷ c ∷ d ∷ e ∷ f ∷ []) h = absurd (omega arith)
long_from (a ∷ b ∷ c ∷ d ∷ e ∷ f ∷ g ∷ []) h = absurd (omega arith)
long_from (a ∷ b ∷ c ∷ d ∷ e ∷ f ∷ g ∷ k ∷ more) h = long a b c d e f g k more

abbrev pub done : {A : Type 0} → A → Result A SlotFault
done x = Ok x

pub ok_is : {A : Type 0} (x y : A) → done x ≡ done y → x ≡ y
ok_is x y e = cc

-- the slot of eight bytes is spelled by them
pub record Spells (opcode : Opcode) (bytes : List ℕ) (s : Slot) : Type 0 where
  pub same : s.opcode ≡ opcode
  pub fits : SlotFits s
  pub parts : bytes ≡ slot_bytes s ++ drop 8 bytes

slot_takes_8 : (opcode : Opcode) (s : Slot) (b0 b1 b2 b3 b4 b5 b6 b7 : ℕ) (more : List ℕ) → b1 < 256 → b2 < 256
    → b3 < 256 → b4 < 256 → b5 < 256 → b6 < 256 → b7 < 256
    → opcode_byte opcode ≡ b0 → slot_at opcode (b0 ∷ b1 ∷ b2 ∷ b3 ∷ b4 ∷ b5 ∷ b6 ∷ b7 ∷ more) ≡ Ok s
    → Spells opcode (b0 ∷ b1 ∷ b2 ∷ b3 ∷ b4 ∷ b5 ∷ b6 ∷ b7 ∷ more) s
unfolding slot_at
slot_takes_8 opcode s b0 b1 b2 b3 b4 b5 b6 b7 more f1 f2 f3 f4 f5 f6 f7 first e =
    let bytes : List ℕ = b0 ∷ b1 ∷ b2 ∷ b3 ∷ b4 ∷ b5 ∷ b6 ∷ b7 ∷ more in
    let d = bind_ok (found BadRegister (register_at (bit_and b1 15)))
    (λ dst. found BadRegister (register_at (b1 / 16)) >>= λ src. Ok (fields_at opcode dst src bytes)) s e in
    let q = bind_ok (found BadRegister (register_at (b1 / 16))) (λ src. Ok (fields_at opcode d.0 src bytes)) s d.2 in
    let registers : register_number d.0 + 16 * register_number q.0 ≡ b1 = registers_take b1 d.0 q.0 f1
    (found_ok BadRegister (register_at (bit_and b1 15)) d.0 d.1)
    (found_ok BadRegister (register_at (b1 / 16)) q.0 q.1) in
    let offset = offset_takes b2 b3 f2 f3 in
    let imm = imm_takes b4 b5 b6 b7 f4 f5 f6 f7 in
    subst (λ (t : Slot). Spells opcode bytes t) (ok_is (fields_at opcode d.0 q.0 bytes) s q.2)
    (record {
      same = refl;
      fits = record { offset = search rules; imm = search rules };
      parts = cc;
    })

pub slot_takes : (opcode : Opcode) (bytes : List ℕ) (s : Slot) → IsBytes bytes → 8 ≤ length bytes
    → opcode_byte opcode ≡ slice_index bytes 0 → slot_at opcode bytes ≡ Ok s → Spells opcode bytes s
slot_takes opcode bytes s fits len first e = by_long (long_from bytes len) fits first e
  where
    by_long : {bs : List ℕ} → IsLong bs → IsBytes bs → opcode_byte opcode ≡ slice_index bs 0 → slot_at opcode bs ≡ Ok s
        → Spells opcode bs s
    by_long (long b0 b1 b2 b3 b4 b5 b6 b7 more) fits first e =
        slot_takes_8 opcode s b0 b1 b2 b3 b4 b5 b6 b7 more (fits 1) (fits 2) (fits 3) (fits 4) (fits 5) (fits 6)
        (fits 7) first e

-- a slot is read again
pub slot_again : (s : Slot) (more : List ℕ) → SlotFits s → slot_at s.opcode (slot_bytes s ++ more) ≡ Ok s
unfolding slot_at
slot_again s more fits =
    let dst = number_small s.dst in
    let src = number_small s.src in
    let low : bit_and (register_number s.dst + 16 * register_number s.src) 15 ≡ register_number s.dst = and_mask
    (register_number s.dst + 16 * register_number s.src) 4 ∙ omega arith in
    let high : (register_number s.dst + 16 * register_number s.src) / 16 ≡ register_number s.src = omega arith in
    let offset : cast_signed w16 (from_le_bytes w16 (to_le_bytes w16 (cast_unsigned w16 s.offset))) ≡ s.offset =
    ap (cast_signed w16) (from_le_bytes-to_le_bytes_2 (cast_unsigned w16 s.offset)
    (omega (arith, Fits-of_z fits.offset))) ∙ to_z-of_z w16 s.offset fits.offset in
    let imm : cast_signed w32 (from_le_bytes w32 (to_le_bytes w32 (cast_unsigned w32 s.imm))) ≡ s.imm =
    ap (cast_signed w32) (from_le_bytes-to_le_bytes_4 (cast_unsigned w32 s.imm) (omega (arith, Fits-of_z fits.imm)))
    ∙ to_z-of_z w32 s.imm fits.imm in
    rw (low, high, register_again s.dst, register_again s.src, offset, imm) refl
