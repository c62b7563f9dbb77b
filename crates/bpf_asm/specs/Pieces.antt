-- A text in pieces (docs/ASSEMBLER.md, "Lines").
use Rattle.std.specs.Prelude.{ℕ, ◌==◌, ◌||◌, ◌&&◌, nat_le, Bool, List, [], ◌∷◌, ◌++◌, if◌then◌else◌}

-- the first piece gets more in front
abbrev pub prepend : List ℕ → List (List ℕ) → List (List ℕ)
prepend front [] = front ∷ []
prepend front (piece ∷ pieces) = (front ++ piece) ∷ pieces

-- the pieces between the bytes that pass the test: one more than there are such bytes
abbrev pub pieces_of : (ℕ → Bool) → List ℕ → List (List ℕ)
pieces_of parts [] = [] ∷ []
pieces_of parts (c ∷ cs) = if parts c then [] ∷ pieces_of parts cs else prepend (c ∷ []) (pieces_of parts cs)

abbrev pub first_of : List (List ℕ) → List ℕ
first_of [] = []
first_of (piece ∷ pieces) = piece

-- the lines end with LF; a line counts up to its first "#"
abbrev pub lines_of : List ℕ → List (List ℕ)
lines_of text = pieces_of (λ c. c == 10) text

abbrev pub without_comment : List ℕ → List ℕ
without_comment line = first_of (pieces_of (λ c. c == 35) line)

-- ---- runs of letters

abbrev pub between : ℕ → ℕ → ℕ → Bool
between low high c = nat_le low c && nat_le c high

-- space, tab and CR
abbrev pub is_blank : ℕ → Bool
is_blank c = (c == 32) || ((c == 9) || (c == 13))

-- a letter or "_"
abbrev pub begins_name : ℕ → Bool
begins_name c = between 97 122 c || (between 65 90 c || (c == 95))

abbrev pub is_word_letter : ℕ → Bool
is_word_letter c = begins_name c || between 48 57 c

-- the longest front of bytes that pass the test
abbrev pub front_of : (ℕ → Bool) → List ℕ → List ℕ
front_of passes [] = []
front_of passes (c ∷ cs) = if passes c then c ∷ front_of passes cs else []

-- what comes after it
abbrev pub rest_of : (ℕ → Bool) → List ℕ → List ℕ
rest_of passes [] = []
rest_of passes (c ∷ cs) = if passes c then rest_of passes cs else c ∷ cs

-- a byte before others; a blank with nothing after it goes
abbrev pub before_more : ℕ → List ℕ → List ℕ
before_more c [] = if is_blank c then [] else c ∷ []
before_more c (d ∷ ds) = c ∷ d ∷ ds

-- a text without the blanks at its end
abbrev pub before_blanks : List ℕ → List ℕ
before_blanks [] = []
before_blanks (c ∷ cs) = before_more c (before_blanks cs)

-- a text without the blanks at its ends
abbrev pub trimmed : List ℕ → List ℕ
trimmed text = before_blanks (rest_of is_blank text)
