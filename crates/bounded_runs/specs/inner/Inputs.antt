-- Inputs of which each input is alike one: their numbers are below the bound or NO_MAIL, which is large.
use Rattle.std.specs.Prelude.{ℕ, zero, suc, if◌then◌else◌, List, [], ◌∷◌, ◌++◌, map, Option, Some, None, unwrap_or}
use Rattle.std.specs.List.{flat_map, range_with_len}
use Rattle.std.specs.Int.{w32, to_le_bytes}
use Rattle.node_env.specs.declared.env.TheConstants.{NO_MAIL}
use Rattle.node_env.specs.Env.{Extent, Setting}
use Rattle.node_env.specs.Slots.{map_of}
use Rattle.bounded_runs.specs.Bounded.{Bound, is_kept}

-- the numbers below the bound
abbrev pub small_slots : ℕ → List (Option ℕ)
small_slots bound = map Some (range_with_len 0 bound)

-- and none, which is received as NO_MAIL
abbrev pub slots_tried : ℕ → List (Option ℕ)
slots_tried bound = small_slots bound ++ None ∷ []

-- of a word that is kept 0 alone
abbrev pub slots_at : Bound → ℕ → List (Option ℕ)
slots_at bound k = if is_kept bound.kept k then Some 0 ∷ [] else slots_tried bound.number

-- each row, with each of these slots in front
abbrev pub longer_rows : List (Option ℕ) → List (List (Option ℕ)) → List (List (Option ℕ))
longer_rows slots rows = flat_map (λ slot. map (λ row. slot ∷ row) rows) slots

-- all rows of this length, from place k on
abbrev pub rows_of : Bound → ℕ → ℕ → List (List (Option ℕ))
rows_of bound k zero = [] ∷ []
rows_of bound k (suc n) = longer_rows (slots_at bound k) (rows_of bound (suc k) n)

-- the bytes of the word that a slot represents
abbrev pub word_bytes : Option ℕ → List ℕ
word_bytes slot = to_le_bytes w32 (unwrap_or slot NO_MAIL)

-- the memory of these words
abbrev pub memory_with : List (Option ℕ) → List ℕ
memory_with row = flat_map word_bytes row

-- what a node sees with these messages
abbrev pub env_with : Extent → ℕ → List (Option ℕ) → ℕ → Setting
env_with shape id row coin = record { shape = shape; id = id; inbox = map_of row; coin = coin }
