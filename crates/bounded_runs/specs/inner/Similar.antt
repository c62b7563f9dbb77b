-- States of two runs that differ in marked numbers alone.
use Rattle.std.specs.Prelude.{◌≡◌, ℕ, ◌*◌, ◌/◌, ◌^◌, ◌<◌, ◌≤◌, Bool, true, false, List, All, Option, Some, Ok, length, slice_get}
use Rattle.std.specs.Ordering.{nat_cmp}
use Rattle.std.specs.FinMap.{FinMap, get}
use Rattle.node_env.specs.Env.{IsSetting, Setting}
use Rattle.bpf_insn.specs.declared.forms.Insn.{Insn}
use Rattle.bpf_machine.specs.declared.word.Word.{Word}
use Rattle.bpf_machine.specs.declared.word.Word.TheVariants.{Num}
use Rattle.bpf_machine.specs.Machine.{Frame, MachineState}
use Rattle.bpf_machine.specs.Run.{RunsTo}
use Rattle.bpf_machine.specs.Step.{number_at}
use Rattle.bounded_runs.specs.declared.marks.Marks.{Marks}
use Rattle.bounded_runs.specs.Bounded.{AreAlikeInputs, Bound, is_kept}
use Rattle.bounded_runs.specs.inner.Marks.{all_marked, has_mark}

abbrev pub IsLarge : ℕ → ℕ → Type 0
IsLarge bound n = (bound ≤ n) × (n < 2 ^ 32)

-- two registers hold the same; if they are marked, two large numbers
abbrev pub HoldAlike : ℕ → Bool → Option Word → Option Word → Type 0
HoldAlike bound false held other = held ≡ other
HoldAlike bound true held other = (a : ℕ) × (b : ℕ) × (held ≡ Some (Num a)) × (other ≡ Some (Num b))
    × IsLarge bound a × IsLarge bound b

abbrev pub AreSimilarRegisters : ℕ → List Bool → FinMap nat_cmp Word → FinMap nat_cmp Word → Type 0
AreSimilarRegisters bound marks m l = (n : ℕ) → HoldAlike bound (has_mark marks n) (get m n) (get l n)

pub record AreSimilarFrames (bound : ℕ) (marks : List Bool) (s t : Frame) : Type 0 where
  pub wide : length marks ≡ 11
  pub slot : s.slot ≡ t.slot
  pub registers : AreSimilarRegisters bound marks s.registers t.registers
  pub stack : s.stack ≡ t.stack
  pub kept : s.kept ≡ t.kept

-- word k of the memory is large
abbrev pub IsLargeWord : ℕ → List ℕ → ℕ → Type 0
IsLargeWord bound m k = (n : ℕ) × (number_at (slice_get m) (4 * k) 4 ≡ Ok n) × IsLarge bound n

-- two memories have the same bytes but for marked ones. Words of four marked bytes are large or kept, and the marked
-- bytes of the second are as when its run began
pub record AreSimilarMemories (bound : Bound) (begun : List ℕ) (bytes : List Bool) (m l : List ℕ) : Type 0 where
  pub size : length m ≡ length l
  pub plain : (p : ℕ) → has_mark bytes p ≡ false → slice_get m p ≡ slice_get l p
  pub large : (k : ℕ) → all_marked bytes (4 * k) 4 ≡ true → is_kept bound.kept k ≡ false
      → IsLargeWord bound.number m k × IsLargeWord bound.number l k
  pub stays : (p : ℕ) → has_mark bytes p ≡ true → slice_get l p ≡ slice_get begun p

pub record AreSimilar (bound : Bound) (begun : List ℕ) (marks : Marks) (s t : MachineState) : Type 0 where
  pub frame : AreSimilarFrames bound.number marks.registers s.frame t.frame
  pub memory : AreSimilarMemories bound begun marks.bytes s.memory t.memory
  pub sent : s.sent ≡ t.sent

-- from each input that is alike, as many steps lead to a state that is similar
abbrev pub AreFollowed : List Insn → Bound → Setting → List ℕ → ℕ → MachineState → Marks → Type 0
AreFollowed program bound env before count s marks = (other : Setting) (start : List ℕ) → IsSetting other
    → All (λ byte. byte < 256) start → AreAlikeInputs bound env other before start
    → (t : MachineState) × RunsTo program other start count t × AreSimilar bound start marks s t
