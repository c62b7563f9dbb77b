-- The rows of keys on a writer (docs/LUCK.md, "What is promised").
use Rattle.std.specs.Prelude.{◌≡◌, ◌⊎◌, ℕ, ◌+◌, ◌<◌, ◌≤◌, List, [], ◌∷◌, ◌++◌, length, slice_get, Option, Some, Result, Ok, Err}
use Rattle.std.specs.Io.KnownBytes.{Appends, Keeps}
use Rattle.parameters.specs.Keys.{KeyRange, count_of}
use Rattle.stream_io.specs.declared.parts.PartFault.{PartFault}
use Rattle.stream_io.specs.declared.parts.PartFault.TheVariants as parts
use Rattle.stream_io.specs.Parts.{Breaks}

-- one row after the other
abbrev pub joined_rows : List (List ℕ) → List ℕ
joined_rows [] = []
joined_rows (row ∷ rows) = row ++ joined_rows rows

-- rows of keys in a row, the first of which is this one
abbrev pub AreKeyRows : (ℕ → List ℕ → Type 0) → ℕ → List (List ℕ) → Type 0
AreKeyRows is_row first rows = (i : ℕ) (row : List ℕ) → slice_get rows i ≡ Some row → is_row (first + i) row

-- the row of names, and those of this many keys from this one on
pub record KeyRows (is_row : ℕ → List ℕ → Type 0) (names : List ℕ) (first count : ℕ) (told : List ℕ) : Type 0 where
  pub rows : List (List ℕ)
  pub each : AreKeyRows is_row first rows
  pub all : length rows ≡ count
  pub whole : told ≡ names ++ joined_rows rows

-- those of the first keys, and not of all
pub record LeavesFirstRows (is_row : ℕ → List ℕ → Type 0) (names : List ℕ) (old new : Option (List ℕ)) (keys : KeyRange)
    : Type 0 where
  pub told : List ℕ
  pub count : ℕ
  pub fewer : count < count_of keys
  pub lines : KeyRows is_row names keys.first count told
  pub left : Appends old new told

-- the rows of all keys; the front of them if a write failed; those of the first keys if there was no memory for one more
abbrev pub LeavesRows : (ℕ → List ℕ → Type 0) → List ℕ → Option (List ℕ) → Option (List ℕ) → KeyRange
    → Result (Unit {0}) PartFault → Type 0
LeavesRows is_row names old new keys (Ok done) =
    (told : List ℕ) × KeyRows is_row names keys.first (count_of keys) told × Appends old new told
LeavesRows is_row names old new keys (Err (parts.Write written)) =
    (told : List ℕ) × (count : ℕ) × (count ≤ count_of keys) × KeyRows is_row names keys.first count told
    × Breaks old new told written
LeavesRows is_row names old new keys (Err parts.Memory) =
    Keeps old new ⊎ LeavesFirstRows is_row names old new keys
