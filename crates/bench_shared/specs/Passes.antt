-- What contracts see of a pass: its receipts, each an entry that was put into the history and its place there.
use Rattle.std.specs.Prelude.{◌≡◌, ℕ, List, [], ◌∷◌, ◌++◌, map, Option, Some, slice_get}
use Rattle.atomic_table.specs.Seated.{TableId}
use Rattle.bench_core.specs.Told.{Row}
use Rattle.bench_core.specs.Replay.{Entry, rows_of}

-- a place in the history, from 0, and the entry there
abbrev pub Placed : Type 0
Placed = ℕ × Entry

abbrev pub entry_in : Placed → Entry
entry_in placed = placed.1

-- a loader's pass
pub record LoaderView : Type 0 where
  pub number : ℕ
  pub receipts : List Placed

-- the engine's pass: its board, its receipts, the rows that it posted, and the row that it owes the board
pub record EngineView : Type 0 where
  pub board : TableId
  pub receipts : List Placed
  pub posted : List Row
  pub owed : Option Row

-- one receipt more, for this entry
abbrev pub OneMore : List Placed → Entry → List Placed → Type 0
OneMore old entry new = (place : ℕ) × (new ≡ old ++ (place, entry) ∷ [])

-- the rows of the closes among these receipts
abbrev pub rows_in : List Placed → List Row
rows_in receipts = rows_of (map entry_in receipts)

-- the passes of a new bench: pass k has the number k and no receipt
unfoldable pub AreNew : List LoaderView → Type 0
AreNew passes = (k : ℕ) (pass : LoaderView) → slice_get passes k ≡ Some pass → (pass.number ≡ k) × (pass.receipts ≡ [])
