-- The text of notes, and the words of a note on a rule (docs/RULES.md, "Errors").
use Rattle.std.specs.Prelude.{◌≡◌, ◌⊎◌, ◌==◌, ◌&&◌, if◌then◌else◌, nat_le, nat_lt, ℕ, false, List, [], ◌∷◌, ◌++◌, codes, flat_map}
use Rattle.std.specs.Fmt.{decimal}
use Rattle.std.specs.List.{list_any}

-- ---- a line of a source, and a mark under a place of it

-- text without the end of a line
abbrev pub IsOneLine : List ℕ → Type 0
IsOneLine text = list_any (λ c. c == 10) text ≡ false

-- what is below a byte: a tab below a tab, nothing below a byte that continues a character, a blank below any other
abbrev pub below_byte : ℕ → List ℕ
below_byte byte = if byte == 9 then 9 ∷ [] else if nat_le 128 byte && nat_lt byte 192 then [] else 32 ∷ []

-- what is below the characters before a mark
abbrev pub padding : List ℕ → List ℕ
padding before = flat_map below_byte before

-- a line with this before a place and this from there on, and the line with the mark under the place
abbrev pub marked_lines : List ℕ → List ℕ → List ℕ
marked_lines before rest = before ++ (rest ++ (codes "\n" ++ (padding before ++ codes "^\n")))

-- nothing, or a line with a mark under a place of it
abbrev pub IsMark : List ℕ → Type 0
IsMark lines = (lines ≡ []) ⊎ ((before : List ℕ) × (rest : List ℕ) × IsOneLine before × IsOneLine rest
    × (lines ≡ marked_lines before rest))

-- ---- notes

-- what a note says: a line of words without its end, and a marked line or nothing
pub record Note : Type 0 where
  pub words : List ℕ
  pub mark : List ℕ

abbrev pub note_text : Note → List ℕ
note_text note = codes "note: " ++ (note.words ++ (codes "\n" ++ note.mark))

-- the words are one line, and at most one line is marked
abbrev pub IsWholeNote : Note → Type 0
IsWholeNote note = IsOneLine note.words × IsMark note.mark

-- the text of a note
abbrev pub IsNote : List ℕ → Type 0
IsNote text = (note : Note) × IsWholeNote note × (text ≡ note_text note)

-- ---- a note on a rule

-- a place of the rule, and what is said of it
abbrev pub place_words : ℕ → ℕ → List ℕ → List ℕ
place_words line column advice = codes "line " ++ (decimal line ++ (codes ", column "
    ++ (decimal column ++ (codes ": " ++ advice))))

-- the note has the place, and after it advice, of which nothing is promised
pub record TellsPlace (line column : ℕ) (note : Note) : Type 0 where
  pub advice : List ℕ
  pub words_are : note.words ≡ place_words line column advice
