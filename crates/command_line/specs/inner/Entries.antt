-- What a part adds to the entries of `--cells`.
use Rattle.std.specs.Prelude.{◌≡◌, ◌⊎◌, ℕ, List, [], ◌∷◌, ◌++◌, codes}
use Rattle.command_line.specs.Lists.{AreLongest, IsPart, IsSpan, byte_spans}
use Rattle.command_line.specs.inner.Spans.{JoinsSpan}
use Rattle.explored.specs.declared.options.Cells.{Cells}
use Rattle.node_env.specs.declared.shape.TheConstants.{MAX_MEMORY}

-- the values of an entry and those of a part
pub record JoinsPart (old new : List (ℕ × ℕ)) (part : List ℕ) : Type 0 where
  pub first : ℕ
  pub last : ℕ
  pub span : IsSpan 256 part first last
  pub joined : JoinsSpan old new (first, last)
  pub longest : AreLongest new

-- the last entry has the values of a part too
pub record AddsValue (old new : List Cells) (part : List ℕ) : Type 0 where
  pub front : List Cells
  pub before : Cells
  pub after : Cells
  pub was : old ≡ front ++ before ∷ []
  pub is : new ≡ front ++ after ∷ []
  pub same_first : after.first ≡ before.first
  pub same_last : after.last ≡ before.last
  pub values : JoinsPart (byte_spans before.values.items) (byte_spans after.values.items) part

-- there is one entry more, with these places and this value
pub record BeginsEntry (old new : List Cells) (places value : List ℕ) : Type 0 where
  pub entry : Cells
  pub is : new ≡ old ++ entry ∷ []
  pub placed : IsSpan MAX_MEMORY places entry.first entry.last
  pub values : JoinsPart [] (byte_spans entry.values.items) value

-- one of the two
abbrev pub AddsCells : List Cells → List Cells → List ℕ → Type 0
AddsCells old new part = AddsValue old new part
    ⊎ ((places : List ℕ) × (value : List ℕ) × (part ≡ places ++ (codes "=" ++ value))
    × BeginsEntry old new places value)

-- a part that adds to no entries: it begins none, and it has no values for a last one
pub record EndsCells (old : List Cells) (part : List ℕ) : Type 0 where
  pub begins : (places value : List ℕ) → part ≡ places ++ (codes "=" ++ value) → IsPart MAX_MEMORY places
      → IsPart 256 value → ⊥
  pub adds : IsPart 256 part → old ≡ []
