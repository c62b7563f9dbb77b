-- Registers of two runs that differ in marked numbers alone.
use Rattle.std.proofs.Common.{◌≡◌, ℕ, ◌<◌, Bool, false, List, Option, Some, None, length, refl, ◌∙◌, subst, ap, arith, inl, inr}
use Rattle.std.specs.Prelude.{slice_set}
use Rattle.std.specs.Ordering.{nat_cmp}
use Rattle.std.specs.Cmp.{nat_cmp_total, unsigned_tied}
use Rattle.std.specs.FinMap.{FinMap, get, insert, remove, get-insert, get-remove}
use Rattle.std.proofs.lemmas.Bool.{cases_eq, cases_lt, eq-eqb, ne_eqb}
use Rattle.std.proofs.lemmas.List.{get_or_past, get_or-set_other, get_or-set_same, length-set}
use Rattle.bpf_insn.specs.declared.forms.Reg.{Reg}
use Rattle.bpf_insn.specs.Registers.{register_number}
use Rattle.bpf_machine.specs.declared.word.Word.{Word}
use Rattle.bpf_machine.specs.declared.word.TrapKind.TheVariants.{Unset}
use Rattle.bpf_machine.specs.Machine.{Frame}
use Rattle.bpf_machine.specs.Step.{needed, word_of}
use Rattle.bounded_runs.specs.inner.Marks.{has_mark}
use Rattle.bounded_runs.specs.inner.Similar.{AreSimilarFrames, AreSimilarRegisters, HoldAlike}

-- ---- marks

pub marked_same : (marks : List Bool) (k : ℕ) (b : Bool) → k < length marks → has_mark (slice_set marks k b) k ≡ b
marked_same marks k b within = get_or-set_same marks k b false within

pub marked_other : (marks : List Bool) (k n : ℕ) (b : Bool) → (n ≡ k → ⊥)
    → has_mark (slice_set marks k b) n ≡ has_mark marks n
marked_other marks k n b other = get_or-set_other marks k n b false other

-- a mark that is taken away is gone
pub cleared_mark : (marks : List Bool) (k : ℕ) → has_mark (slice_set marks k false) k ≡ false
cleared_mark marks k = elim (cases_lt k (length marks)) [
  | inl lt ↦ marked_same marks k false lt
  | inr le ↦ get_or_past (slice_set marks k false) k false (omega (arith, le, length-set marks k false))
]

-- ---- registers

put_same : (m : FinMap nat_cmp Word) (k n : ℕ) (w : Word) → n ≡ k → get (insert m k w) n ≡ Some w
put_same m k n w same =
    rw (get-insert nat_cmp_total m k w n, unsigned_tied n k, eq-eqb n k same) refl

put_other : (m : FinMap nat_cmp Word) (k n : ℕ) (w : Word) → (n ≡ k → ⊥) → get (insert m k w) n ≡ get m n
put_other m k n w other =
    rw (get-insert nat_cmp_total m k w n, unsigned_tied n k, ne_eqb n k other) refl

gone_same : (m : FinMap nat_cmp Word) (k n : ℕ) → n ≡ k → get (remove m k) n ≡ None
gone_same m k n same = rw (get-remove nat_cmp_total m k n, unsigned_tied n k, eq-eqb n k same) refl

gone_other : (m : FinMap nat_cmp Word) (k n : ℕ) → (n ≡ k → ⊥) → get (remove m k) n ≡ get m n
gone_other m k n other = rw (get-remove nat_cmp_total m k n, unsigned_tied n k, ne_eqb n k other) refl

-- a register is written, and marked or not
pub put_similar : (bound : ℕ) (marks : List Bool) (m l : FinMap nat_cmp Word) (k : ℕ) (b : Bool) (w v : Word)
    → k < length marks → HoldAlike bound b (Some w) (Some v) → AreSimilarRegisters bound marks m l
    → AreSimilarRegisters bound (slice_set marks k b) (insert m k w) (insert l k v)
put_similar bound marks m l k b w v within alike similar n = elim (cases_eq n k) [
  | inl same ↦
      let mark : has_mark (slice_set marks k b) n ≡ b =
      ap (has_mark (slice_set marks k b)) same ∙ marked_same marks k b within in
      rw (mark, put_same m k n w same, put_same l k n v same) alike
  | inr other ↦
      rw (marked_other marks k n b other, put_other m k n w other, put_other l k n v other) (similar n)
]

-- a register is unset
pub gone_similar : (bound : ℕ) (marks : List Bool) (m l : FinMap nat_cmp Word) (k : ℕ) → k < length marks
    → AreSimilarRegisters bound marks m l
    → AreSimilarRegisters bound (slice_set marks k false) (remove m k) (remove l k)
gone_similar bound marks m l k within similar n = elim (cases_eq n k) [
  | inl same ↦
      let mark : has_mark (slice_set marks k false) n ≡ false =
      ap (has_mark (slice_set marks k false)) same ∙ marked_same marks k false within in
      rw (mark, gone_same m k n same, gone_same l k n same) refl
  | inr other ↦
      rw (marked_other marks k n false other, gone_other m k n other, gone_other l k n other) (similar n)
]

-- ---- what is read

pub plain_same : (bound : ℕ) (b : Bool) (o p : Option Word) → b ≡ false → HoldAlike bound b o p → o ≡ p
plain_same bound b o p plain alike = subst (λ (c : Bool). HoldAlike bound c o p) plain alike

pub word_same : (bound : ℕ) (marks : List Bool) (s t : Frame) (register : Reg) → AreSimilarFrames bound marks s t
    → has_mark marks (register_number register) ≡ false → word_of s register ≡ word_of t register
word_same bound marks s t register similar plain =
    ap (λ (o : Option Word). needed Unset o)
    (plain_same bound (has_mark marks (register_number register)) _ _ plain
    (similar.registers (register_number register)))
