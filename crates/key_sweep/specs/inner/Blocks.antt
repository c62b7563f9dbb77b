-- A block of keys whose rows are shared out (docs/THREADS.md, "When workers pay").
use Rattle.std.specs.Prelude.{◌≡◌, ℕ, ◌+◌, ◌≤◌, List, [], ◌∷◌, length, slice_get, Option, Some, None, Vec}
use Rattle.std.specs.declared.alloc.Global.{Global}
use Rattle.key_sweep.specs.KeyRows.{AreKeyRows, joined_rows}

-- the rows up to the first that is missing
abbrev pub front_rows : List (Option (Vec ℕ Global)) → List (List ℕ)
front_rows [] = []
front_rows (None ∷ slots) = []
front_rows (Some row ∷ slots) = row.items ∷ front_rows slots

-- this many, each the row of its key, or nothing
pub record AreSlots (is_row : ℕ → List ℕ → Type 0) (first count : ℕ) (slots : List (Option (Vec ℕ Global))) : Type 0 where
  pub all : length slots ≡ count
  pub each : (i : ℕ) (row : Vec ℕ Global) → slice_get slots i ≡ Some (Some row) → is_row (first + i) row.items

-- rows of at most this many keys
pub record IsBlock (is_row : ℕ → List ℕ → Type 0) (first count : ℕ) (text : List ℕ) (number : ℕ) : Type 0 where
  pub rows : List (List ℕ)
  pub each : AreKeyRows is_row first rows
  pub all : number ≡ length rows
  pub few : number ≤ count
  pub whole : text ≡ joined_rows rows
