-- Beside Numbers: what proofs and private contracts alone cite.
use Rattle.std.specs.Prelude.{◌≡◌, ◌≤◌, ◌^◌, ℕ}
use Rattle.std.specs.Prelude.{Option, Some, None}
use Rattle.bpf_asm.specs.declared.numbers.Magnitude.{Magnitude}
use Rattle.bpf_asm.specs.declared.numbers.Magnitude.TheVariants.{Fits, TooGreat}
use Rattle.bpf_asm.specs.declared.numbers.Number.{Number}
use Rattle.bpf_asm.specs.Numbers.{Written}

-- the code's number is this one, or this one doesn't fit 64 bits
abbrev pub IsMagnitude : ℕ → Magnitude → Type 0
IsMagnitude n (Fits m) = n ≡ m
IsMagnitude n TooGreat = 2 ^ 64 ≤ n

-- the code has a number exactly if there is one, and that one
abbrev pub CountsTo : Option ℕ → Option Magnitude → Type 0
CountsTo None None = Unit {0}
CountsTo (Some n) (Some m) = IsMagnitude n m
CountsTo _ _ = ⊥

-- the same of a number with its sign
abbrev pub CountsSigned : Option Written → Option Number → Type 0
CountsSigned None None = Unit {0}
CountsSigned (Some w) (Some n) = (w.below_zero ≡ n.below_zero) × IsMagnitude w.size n.magnitude
CountsSigned _ _ = ⊥
