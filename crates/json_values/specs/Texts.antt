-- The text of a value, as a line.
use Rattle.std.specs.Prelude.{◌≡◌, ℕ, List, ◌++◌, Some, codes}
use Rattle.serde_json.specs.Data.{Data}
use Rattle.serde_json.specs.Read.{read}
use Rattle.serde_json.specs.Written.{compact_text}

-- the text of a value, and the end of a line
abbrev pub json_line : Data → List ℕ
json_line d = compact_text d ++ codes "\n"

-- the text of the value reads as it
abbrev pub ReadsBack : Data → Type 0
ReadsBack d = read (compact_text d) ≡ Some d
