-- The board: one word, which shows the last row that was posted, and what each seat knows of the rows.
use Rattle.std.specs.Prelude.{◌≡◌, ℕ, ◌++◌, List, [], ◌∷◌, true, false}
use mathlib.Core.Option.{some}
use lib.ListN.{get_elem?}
use Rattle.atomic_table.specs.Table.{State, Me, Step}
use Rattle.bench_core.specs.Told.{Row, IsPulseRow}
use Rattle.bench_shared.specs.Rows.{InOrder, StartsWith}
use Rattle.bench_shared.specs.inner.Rows.{row_word, row_word_at}
use Rattle.bench_shared.specs.declared.rule.View.{View}

-- the engine's view, with the posted list
abbrev pub engine : List Row → View
engine rows = record { posts = true; rows = rows; heard = [] }

-- a watcher's view, with the seen list; a note of the engine's is one
abbrev pub watcher : List Row → View
watcher rows = record { posts = false; rows = rows; heard = [] }

-- a view beside what another seat had seen
abbrev pub hearing : View → View → View
hearing v w = record { posts = v.posts; rows = v.rows; heard = w.rows }

-- what a seat knows is a beginning of the posted list, and the one seat that posts knows it whole
pub record FitsSeat (seat : ℕ) (posted : List Row) (by : ℕ) (v : View) : Type 0 where
  pub whole : v.posts ≡ true → (by ≡ seat) × (v.rows ≡ posted)
  pub seen : StartsWith posted v.rows
  pub heard : StartsWith posted v.heard

-- there is one posted list, in order; the word shows its last row; each seat fits
abbrev pub Kept : State (Unit {0}) View → Type 0
Kept s =
    (posted : List Row) × (seat : ℕ)
    × (s.words ≡ row_word_at posted ∷ []) × InOrder posted
    × ((by : ℕ) (v : View) → get_elem? s.views by ≡ some v → FitsSeat seat posted by v)

-- the row that is stored is put last
abbrev pub Posts : Step (Unit {0}) → Me (Unit {0}) View → ℕ → Me (Unit {0}) View → Type 0
Posts s v n w = (r : Row) × IsPulseRow r × (row_word r ≡ n) × (w ≡ (engine (v.0.rows ++ r ∷ []), v.1))

-- a longer list may be seen, whose last row was found
abbrev pub Looks : Step (Unit {0}) → Me (Unit {0}) View → ℕ → Me (Unit {0}) View → Type 0
Looks s v n w =
    (rows : List Row) × (w ≡ (watcher rows, v.1)) × (n ≡ row_word_at rows) × InOrder rows × StartsWith rows v.0.rows

-- what was heard is a beginning of what was posted
abbrev pub Compares : Step (Unit {0}) → Me (Unit {0}) View → ℕ → Me (Unit {0}) View → Type 0
Compares s v n w = (w ≡ (engine v.0.rows, v.1)) × StartsWith v.0.rows v.0.heard × InOrder v.0.rows
