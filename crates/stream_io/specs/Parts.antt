-- A text that is written part by part (docs/COMMANDS.md, "Faults").
use Rattle.std.specs.Prelude.{◌≡◌, ℕ, ◌-◌, ◌^◌, ◌<◌, min, Bool, IsTrue, List, ◌++◌, length, take, Option}
use Rattle.std.specs.Io.KnownBytes.{Appends, Keeps}
use Rattle.stream_io.specs.declared.parts.PartFault.{PartFault}
use Rattle.stream_io.specs.declared.parts.PartFault.TheVariants as faults

-- the greatest number of bytes that is told; more are told as this
abbrev pub MAX_TOLD : ℕ
MAX_TOLD = 2 ^ 64 - 1

-- the text was written, and this is how many bytes it has
pub record Wrote (old new : Option (List ℕ)) (text : List ℕ) (count : ℕ) : Type 0 where
  pub left : Appends old new text
  pub number : count ≡ min (length text) MAX_TOLD

-- the first bytes of the text were written, and not all, and this is how many
pub record Breaks (old new : Option (List ℕ)) (text : List ℕ) (written : ℕ) : Type 0 where
  pub taken : ℕ
  pub part : taken < length text
  pub number : written ≡ min taken MAX_TOLD
  pub left : Appends old new (take taken text)

-- after each text of this many bytes the part was written too, and there are this many then
abbrev pub Adds : (old new : Option (List ℕ)) (before : ℕ) (part : List ℕ) (after : ℕ) → Type 0
Adds old new before part after =
    (start : Option (List ℕ)) (text : List ℕ) → Wrote start old text before → Wrote start new (text ++ part) after

-- after each text of this many bytes the part was broken off; or there was no memory for it, and nothing was written
abbrev pub IsPartFault : (old new : Option (List ℕ)) (before : ℕ) (part : List ℕ) → PartFault → Type 0
IsPartFault old new before part (faults.Write written) =
    (start : Option (List ℕ)) (text : List ℕ) → Wrote start old text before → Breaks start new (text ++ part) written
IsPartFault old new before part faults.Memory = Keeps old new

-- a call of `write` failed or took nothing; or memory ran out
abbrev pub HasPartCause : (failed : Bool) → PartFault → Type 0
HasPartCause failed (faults.Write written) = IsTrue failed
HasPartCause failed faults.Memory = Unit {0}
