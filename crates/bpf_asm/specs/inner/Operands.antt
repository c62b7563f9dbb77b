-- Beside Operands: what proofs and private contracts alone cite.
use Rattle.std.specs.Prelude.{ℕ, pos, neg_ℤ, ◌+◌, ◌≤ℤ◌, ◌≡◌}
use Rattle.std.specs.Prelude.{Option, Some, None, Result, Ok, Err}
use Rattle.bpf_asm.specs.declared.operands.Target as code
use Rattle.bpf_asm.specs.declared.operands.Parts.{Parts}
use Rattle.bpf_asm.specs.declared.operands.Parts.TheVariants as code_parts
use Rattle.bpf_asm.specs.Operands.{Target, distance, label, Operands, one, two, three, more}

-- the code has a value exactly if there is one, and that one
abbrev pub Reads : {A E : Type 0} → Option A → Result A E → Type 0
Reads wanted (Ok value) = wanted ≡ Some value
Reads wanted (Err error) = wanted ≡ None

abbrev pub target_in : code.Target → Target
target_in (code.TheVariants.Distance off) = distance off
target_in (code.TheVariants.Label name) = label name.now

abbrev pub ReadsTarget : {E : Type 0} → Option Target → Result code.Target E → Type 0
ReadsTarget wanted (Ok target) = wanted ≡ Some (target_in target)
ReadsTarget wanted (Err error) = wanted ≡ None

abbrev pub operands_in : Parts → Operands
operands_in (code_parts.One a) = one a.now
operands_in (code_parts.Two a b) = two a.now b.now
operands_in (code_parts.Three a b c) = three a.now b.now c.now
operands_in code_parts.More = more

-- the distance is within a field of this greatest number
abbrev pub IsTargetWithin : ℕ → code.Target → Type 0
IsTargetWithin most (code.TheVariants.Distance off) = (neg_ℤ (pos (most + 1)) ≤ℤ off) × (off ≤ℤ pos most)
IsTargetWithin most (code.TheVariants.Label name) = Unit {0}
