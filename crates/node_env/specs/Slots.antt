-- A row of slots, each with a value or empty, as the finite map from places to values.
use Rattle.std.specs.Prelude.{ℕ, suc, ◌<◌, ◌^◌, List, [], ◌∷◌, Option, Some, None}
use Rattle.std.specs.Ordering.{nat_cmp}
use Rattle.std.specs.FinMap.{FinMap, from_entries}

-- the values of the slots, each under its place, where the first slot has place k
abbrev pub entries_from : {A : Type 0} → ℕ → List (Option A) → List (ℕ × A)
entries_from k [] = []
entries_from k (None ∷ slots) = entries_from (suc k) slots
entries_from k (Some x ∷ slots) = (k, x) ∷ entries_from (suc k) slots

-- the map from places to the values there
unfoldable pub map_of : {A : Type 0} → List (Option A) → FinMap nat_cmp A
map_of slots = from_entries (entries_from 0 slots)

-- a slot with a number of 32 bits, or empty
abbrev pub IsSlot : Option ℕ → Type 0
IsSlot None = Unit {0}
IsSlot (Some n) = n < 2 ^ 32
