-- What a bounded read takes, and why it fails (docs/COMMANDS.md, "What exec, dis and verify read"); and when a write
-- takes nothing.
use Rattle.std.specs.Prelude.{◌≡◌, ℕ, ◌<◌, ◌≤◌, ◌⊎◌, Bool, IsTrue, List, length, Option, Result, Ok, Err}
use Rattle.std.specs.Io.KnownBytes.{Consumes}
use Rattle.stream_io.specs.declared.reading.ReadFault.{ReadFault}
use Rattle.stream_io.specs.declared.reading.ReadFault.TheVariants.{Stream, Memory}

-- at most this many bytes were taken from a reader, whatever came of the read
abbrev pub TakesAtMost : ℕ → Option (List ℕ) → Option (List ℕ) → Type 0
TakesAtMost limit old new = (front : List ℕ) × Consumes old new front × (length front ≤ limit)

-- a call of `read` failed, or the bound on calls was reached, which is then less than that on bytes; or memory ran out
abbrev pub HasReadCause : (failed : Bool) (limit calls : ℕ) → ReadFault → Type 0
HasReadCause failed limit calls Stream = IsTrue failed ⊎ (calls < limit)
HasReadCause failed limit calls Memory = Unit {0}

-- a call of `write` with these bytes failed, or took none of them, and there were some
abbrev pub TakesNone : {E : Type 0} → Result ℕ E → List ℕ → Type 0
TakesNone (Ok count) bytes = (count ≡ 0) × (0 < length bytes)
TakesNone (Err error) bytes = Unit {0}
