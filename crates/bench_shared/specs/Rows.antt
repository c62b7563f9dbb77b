-- Rows as words, and the rows of pulses 1, 2, 3 and so on.
use Rattle.std.specs.Prelude.{◌≡◌, ℕ, ◌+◌, ◌++◌, List, [], ◌∷◌, Option, Some, None}
use Rattle.bench_core.specs.Told.{Row, IsPulseRow}

abbrev pub last_row : List Row → Option Row
last_row [] = None
last_row (r ∷ []) = Some r
last_row (r ∷ s ∷ rs) = last_row (s ∷ rs)

-- rows of the pulses after the n-th, in order
abbrev pub InOrderFrom : ℕ → List Row → Type 0
InOrderFrom n [] = Unit {0}
InOrderFrom n (r ∷ rs) = IsPulseRow r × (r.pulse ≡ n + 1) × InOrderFrom (n + 1) rs

-- the row at place i, from 1, has pulse i
abbrev pub InOrder : List Row → Type 0
InOrder rows = InOrderFrom 0 rows

-- the second list is a prefix of the first
abbrev pub StartsWith : List Row → List Row → Type 0
StartsWith rows first = (rest : List Row) × (rows ≡ first ++ rest)
