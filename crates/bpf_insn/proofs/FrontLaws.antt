-- The instruction at the front is the one that is spelled there.
use Rattle.std.proofs.Common.{◌≡◌, ℕ, ◌+◌, ◌*◌, ◌^◌, ◌<◌, ◌≤◌, Bool, true, false, cond, List, [], ◌∷◌, ◌++◌, length, drop, Some, Result, Ok, Err, refl, sym, ap, subst, ◌∙◌, append_assoc, arith}
use Rattle.std.specs.Prelude.{◌==◌, nat_lt, slice_index, if◌then◌else◌}
use Rattle.std.specs.Int.{w32, from_le_bytes}
use Rattle.std.proofs.lemmas.Bool.{ltb-false, le-ltb, eqb-true}
use Rattle.std.proofs.lemmas.List.{length-append}
use Rattle.std.proofs.lemmas.Nat.{from_le_bytes-to_le_bytes_4}
use Rattle.bpf_insn.specs.declared.forms.Insn.{Insn}
use Rattle.bpf_insn.specs.declared.forms.Insn.TheVariants as insn
use Rattle.bpf_insn.specs.declared.opcode.Opcode.{Opcode}
use Rattle.bpf_insn.specs.declared.slot.Slot.{Slot}
use Rattle.bpf_insn.specs.declared.slot.SlotFault.{SlotFault}
use Rattle.bpf_insn.specs.declared.slot.SlotFault.TheVariants.{Truncated, UnknownOpcode, NonZeroField}
use Rattle.bpf_insn.specs.inner.Opcodes.{is_wide, opcode_slots}
use Rattle.bpf_insn.specs.Encoding.{slot_bytes, slot_of, second_slot, spelling, has_stray_field, InRange, slots_taken}
use Rattle.bpf_insn.specs.inner.Encoding.{high_of}
use Rattle.bpf_insn.specs.inner.Images.{IsFirst}
use Rattle.bpf_insn.specs.inner.Reading.{found, unless, slot_at, high_at, form_at, after_opcode, ◌>>=◌}
use Rattle.bpf_insn.proofs.OpcodeLaws.{opcode_at, opcode_takes, opcode_again}
use Rattle.bpf_insn.proofs.SlotLaws.{IsBytes, IsLong, long, long_from, bind_ok, ok_is, done, found_ok, slot_takes, slot_again, four_bytes}
use Rattle.bpf_insn.proofs.FormLaws.{high_bytes, form_takes, form_again, slot_fits, no_stray_field, second_is, size_is, high_fits}

-- the instruction at the front
unfoldable pub front_at : List ℕ → Result Insn SlotFault
front_at bytes =
    unless (nat_lt (length bytes) 8) Truncated do
      opcode ← found UnknownOpcode (opcode_at (slice_index bytes 0))
      after_opcode opcode bytes

pub unless_ok : {A : Type 0} (b : Bool) (d : SlotFault) (next : Result A SlotFault) (y : A) → unless b d next ≡ Ok y
    → (b ≡ false) × (next ≡ Ok y)
unless_ok true d next y e = absurd cc
unless_ok false d next y e = (refl, e)

-- ---- the second slot

pub record Second (wide : Bool) (bytes : List ℕ) (high : ℕ) : Type 0 where
  pub parts : drop 8 bytes ≡ high_bytes wide high ++ drop (8 * (if wide then 2 else 1)) bytes
  pub fits : high < 2 ^ 32

chosen : {A : Type 0} (b : Bool) (d : SlotFault) (x y : A) → cond b (Ok x) (Err d) ≡ Ok y → (b ≡ true) × (x ≡ y)
chosen true d x y e = (refl, cc)
chosen false d x y e = absurd cc

second_16 : (b0 b1 b2 b3 b4 b5 b6 b7 c0 c1 c2 c3 c4 c5 c6 c7 : ℕ) (more : List ℕ) (high : ℕ) → c4 < 256 → c5 < 256
    → c6 < 256 → c7 < 256
    → high_at true (b0 ∷ b1 ∷ b2 ∷ b3 ∷ b4 ∷ b5 ∷ b6 ∷ b7 ∷ c0 ∷ c1 ∷ c2 ∷ c3 ∷ c4 ∷ c5 ∷ c6 ∷ c7 ∷ more) ≡ Ok high
    → Second true (b0 ∷ b1 ∷ b2 ∷ b3 ∷ b4 ∷ b5 ∷ b6 ∷ b7 ∷ c0 ∷ c1 ∷ c2 ∷ c3 ∷ c4 ∷ c5 ∷ c6 ∷ c7 ∷ more) high
second_16 b0 b1 b2 b3 b4 b5 b6 b7 c0 c1 c2 c3 c4 c5 c6 c7 more high f4 f5 f6 f7 e =
    let bytes : List ℕ = b0 ∷ b1 ∷ b2 ∷ b3 ∷ b4 ∷ b5 ∷ b6 ∷ b7 ∷ c0 ∷ c1 ∷ c2 ∷ c3 ∷ c4 ∷ c5 ∷ c6 ∷ c7 ∷ more in
    let t = chosen (from_le_bytes w32 (c0 ∷ c1 ∷ c2 ∷ c3 ∷ []) == 0) NonZeroField
    (from_le_bytes w32 (c4 ∷ c5 ∷ c6 ∷ c7 ∷ [])) high e in
    let none = eqb-true (from_le_bytes w32 (c0 ∷ c1 ∷ c2 ∷ c3 ∷ [])) 0 t.0 in
    let z0 : c0 ≡ 0 = omega arith in
    let z1 : c1 ≡ 0 = omega arith in
    let z2 : c2 ≡ 0 = omega arith in
    let z3 : c3 ≡ 0 = omega arith in
    let last = four_bytes c4 c5 c6 c7 f4 f5 f6 f7 in
    subst (λ h. Second true bytes h) t.1 (record { parts = cc; fits = omega arith })

pub second_takes : (wide : Bool) (bytes : List ℕ) (high : ℕ) → IsBytes bytes
    → 8 * (if wide then 2 else 1) ≤ length bytes → high_at wide bytes ≡ Ok high → Second wide bytes high
second_takes false bytes high fits len e = record { parts = refl; fits = omega (arith, ok_is 0 high e) }
second_takes true bytes high fits len e = by_long (long_from bytes (omega arith)) len fits e
  where
    by_more : {b0 b1 b2 b3 b4 b5 b6 b7 : ℕ} {more : List ℕ} → IsLong more
        → IsBytes (b0 ∷ b1 ∷ b2 ∷ b3 ∷ b4 ∷ b5 ∷ b6 ∷ b7 ∷ more)
        → high_at true (b0 ∷ b1 ∷ b2 ∷ b3 ∷ b4 ∷ b5 ∷ b6 ∷ b7 ∷ more) ≡ Ok high
        → Second true (b0 ∷ b1 ∷ b2 ∷ b3 ∷ b4 ∷ b5 ∷ b6 ∷ b7 ∷ more) high
    by_more {b0} {b1} {b2} {b3} {b4} {b5} {b6} {b7} (long c0 c1 c2 c3 c4 c5 c6 c7 more) fits e =
        second_16 b0 b1 b2 b3 b4 b5 b6 b7 c0 c1 c2 c3 c4 c5 c6 c7 more high (fits 12) (fits 13) (fits 14) (fits 15) e

    by_long : {bs : List ℕ} → IsLong bs → 16 ≤ length bs → IsBytes bs → high_at true bs ≡ Ok high → Second true bs high
    by_long (long b0 b1 b2 b3 b4 b5 b6 b7 more) len fits e = by_more (long_from more (omega arith)) fits e

-- ---- the instruction that is read is spelled at the front

joined : (a a' b b' c c' bytes rest : List ℕ) → bytes ≡ a ++ rest → rest ≡ b ++ c → a' ≡ a → b' ≡ b → c' ≡ c
    → bytes ≡ (a' ++ b') ++ c'
joined a a' b b' c c' bytes rest p q ea eb ec = rw (ea, eb, ec)
    (p ∙ (ap (λ (t : List ℕ). a ++ t) q ∙ sym (append_assoc a b c)))

pub front_takes : (bytes : List ℕ) (i : Insn) → IsBytes bytes → front_at bytes ≡ Ok i → IsFirst bytes i
unfolding front_at
front_takes bytes i fits e =
    let long = unless_ok (nat_lt (length bytes) 8) Truncated _ i e in
    let o = bind_ok (found UnknownOpcode (opcode_at (slice_index bytes 0))) _ i long.1 in
    let first = opcode_takes (slice_index bytes 0) o.0 (fits 0)
    (found_ok UnknownOpcode (opcode_at (slice_index bytes 0)) o.0 o.1) in
    let whole = unless_ok (nat_lt (length bytes) (8 * opcode_slots o.0)) Truncated _ i o.2 in
    let s = bind_ok (slot_at o.0 bytes) _ i whole.1 in
    let h = bind_ok (high_at (is_wide o.0) bytes) _ i s.2 in
    let clean = unless_ok (has_stray_field s.0) NonZeroField (form_at s.0.opcode s.0 h.0) i h.2 in
    let slot = slot_takes o.0 bytes s.0 fits (ltb-false (length bytes) 8 long.0) first s.1 in
    let second = second_takes (is_wide o.0) bytes h.0 fits
    (ltb-false (length bytes) (8 * opcode_slots o.0) whole.0) h.1 in
    let made = form_takes s.0 h.0 i slot.fits second.fits clean.0 clean.1 in
    let size : slots_taken i ≡ opcode_slots o.0 = made.size ∙ ap opcode_slots slot.same in
    let last : second_slot i ≡ high_bytes (is_wide o.0) h.0 = made.second
    ∙ ap (λ (p : Opcode). high_bytes (is_wide p) h.0) slot.same in
    record {
      parts = joined (slot_bytes s.0) (slot_bytes (slot_of i)) (high_bytes (is_wide o.0) h.0) (second_slot i)
          (drop (8 * opcode_slots o.0) bytes) (drop (8 * slots_taken i) bytes) bytes (drop 8 bytes)
          slot.parts second.parts (ap slot_bytes made.slot) last (ap (λ (n : ℕ). drop (8 * n) bytes) size);
      range = made.range;
      whole = rw size (ltb-false (length bytes) (8 * opcode_slots o.0) whole.0);
    }

-- ---- what is spelled at the front is read

high_again : (wide : Bool) (s : Slot) (high : ℕ) (more : List ℕ) → high < 2 ^ 32 → (wide ≡ false → high ≡ 0)
    → high_at wide (slot_bytes s ++ (high_bytes wide high ++ more)) ≡ Ok high
high_again false s high more lt zero_is = ap done (sym (zero_is refl))
high_again true s high more lt zero_is = ap done (from_le_bytes-to_le_bytes_4 high lt)

narrow_high : (i : Insn) → is_wide (slot_of i).opcode ≡ false → high_of i ≡ 0
narrow_high (insn.LoadImm64 dst value) e = absurd cc
narrow_high (insn.Alu op width dst src) e = refl
narrow_high (insn.Neg width dst) e = refl
narrow_high (insn.Movsx kind dst src) e = refl
narrow_high (insn.Swap order bits dst) e = refl
narrow_high (insn.Ja off) e = refl
narrow_high (insn.JaLong off) e = refl
narrow_high (insn.Branch test width dst src off) e = refl
narrow_high (insn.Call id) e = refl
narrow_high insn.Exit e = refl
narrow_high (insn.Load size dst base off) e = refl
narrow_high (insn.LoadSx size dst base off) e = refl
narrow_high (insn.StoreReg size base off src) e = refl
narrow_high (insn.StoreImm size base off imm) e = refl

length_second : (wide : Bool) (high : ℕ) → 8 + length (high_bytes wide high) ≡ 8 * (if wide then 2 else 1)
length_second false high = refl
length_second true high = refl

pub length_spelling : (i : Insn) → length (spelling i) ≡ 8 * slots_taken i
length_spelling i =
    length-append (slot_bytes (slot_of i)) (second_slot i) ∙ ap (λ (t : List ℕ). 8 + length t) (second_is i)
    ∙ length_second (is_wide (slot_of i).opcode) (high_of i) ∙ ap (λ (n : ℕ). 8 * n) (sym (size_is i))

read_all : (bytes : List ℕ) (o : Opcode) (s : Slot) (high : ℕ) (read : Result Insn SlotFault)
    → nat_lt (length bytes) 8 ≡ false → opcode_at (slice_index bytes 0) ≡ Some o
    → nat_lt (length bytes) (8 * opcode_slots o) ≡ false
    → slot_at o bytes ≡ Ok s → high_at (is_wide o) bytes ≡ Ok high → has_stray_field s ≡ false
    → form_at s.opcode s high ≡ read → front_at bytes ≡ read
unfolding front_at
read_all bytes o s high read eight first whole slot second clean made = rw
    (eight, first, whole, slot, second, clean) made

pub front_again : (i : Insn) (more : List ℕ) → InRange i → front_at (spelling i ++ more) ≡ Ok i
front_again i more range =
    let s = slot_of i in
    let wide = is_wide s.opcode in
    let regroup : spelling i ++ more ≡ slot_bytes s ++ (high_bytes wide (high_of i) ++ more) =
    ap (λ (t : List ℕ). (slot_bytes s ++ t) ++ more) (second_is i)
    ∙ append_assoc (slot_bytes s) (high_bytes wide (high_of i)) more in
    let len : length (slot_bytes s ++ (high_bytes wide (high_of i) ++ more)) ≡ 8 * opcode_slots s.opcode + length more =
    length-append (slot_bytes s) (high_bytes wide (high_of i) ++ more)
    ∙ omega (arith, length-append (high_bytes wide (high_of i)) more, length_second wide (high_of i)) in
    ap front_at regroup
    ∙ read_all (slot_bytes s ++ (high_bytes wide (high_of i) ++ more)) s.opcode s (high_of i) (Ok i)
    (le-ltb (length (slot_bytes s ++ (high_bytes wide (high_of i) ++ more))) 8
    (omega (arith, length-append (slot_bytes s) (high_bytes wide (high_of i) ++ more))))
    (opcode_again s.opcode)
    (le-ltb (length (slot_bytes s ++ (high_bytes wide (high_of i) ++ more))) (8 * opcode_slots s.opcode) (omega arith))
    (slot_again s (high_bytes wide (high_of i) ++ more) (slot_fits i range))
    (high_again wide s (high_of i) more (high_fits i range) (narrow_high i))
    (no_stray_field i)
    (form_again i range)
