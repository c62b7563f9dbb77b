-- Numbers and flags of options, by what `clap` read of them: a text for each option that is there.
use Rattle.std.specs.Prelude.{◌≡◌, ◌⊎◌, ◌<◌, ◌^◌, ℕ, Bool, true, false, List, Option, Some, None, codes}
use Rattle.std.specs.Str.Parse.{IsNumeral, digits_value, without_leading_plus}
use Rattle.clap.specs.Matches.{one_text}
use Rattle.clap.specs.declared.parser.matches.Found.{Found}
use Rattle.command_words.specs.declared.rows.NumberOption.{NumberOption}

-- a text is this number, below 2 to the bits
abbrev pub IsNumeralOf : ℕ → List ℕ → ℕ → Type 0
IsNumeralOf bits text n = IsNumeral 10 (without_leading_plus text)
    × (digits_value 10 (without_leading_plus text) ≡ n) × (n < 2 ^ bits)

-- the number that an option has; none if it isn't there, or if its text is no such number
abbrev pub OptionHasNumber : ℕ → Found → List ℕ → Option ℕ → Type 0
OptionHasNumber bits f name (Some n) = (text : List ℕ) × (one_text f name ≡ Some text) × IsNumeralOf bits text n
OptionHasNumber bits f name None = (text : List ℕ) (n : ℕ) → one_text f name ≡ Some text → IsNumeralOf bits text n → ⊥

-- the number that an option has, or its default
abbrev pub IsNumberOr : ℕ → ℕ → Found → List ℕ → ℕ → Type 0
IsNumberOr bits default f name n =
    OptionHasNumber bits f name (Some n) ⊎ (OptionHasNumber bits f name None × (n ≡ default))

-- the same by a row of the table of options
abbrev pub IsNumberOf : NumberOption (record { now : List ℕ }) ℕ → Found → ℕ → Type 0
IsNumberOf option f n = IsNumberOr 32 option.default f option.name.now n

-- whether a flag is there
abbrev pub HasFlag : Found → List ℕ → Bool → Type 0
HasFlag f name there = (one_text f name ≡ None → there ≡ false)
    × (one_text f name ≡ Some (codes "false") → there ≡ false)
    × (one_text f name ≡ Some (codes "true") → there ≡ true)
