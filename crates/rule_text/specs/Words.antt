-- The names of the words of a rule's memory (docs/RULES.md, "Names"), by their places: word 0 is the clock.
use Rattle.std.specs.Prelude.{ℕ, if◌then◌else◌, List, [], ◌∷◌, codes, drop, map, filter, Ok}
use Rattle.std.specs.Prelude.{Result}
use Rattle.rule_text.specs.declared.errors.ReadRuleError.{ReadRuleError}
use Rattle.rule_text.specs.declared.layout.TheConstants.{MAX_LINES}
use Rattle.rule_text.specs.declared.lexemes.Class.TheVariants.{Letters}
use Rattle.rule_text.specs.declared.scope.Entry.{Entry}
use Rattle.rule_text.specs.Scopes.{◌>>=◌, is_word}
use Rattle.rule_text.specs.Statements.{first_column, header_read}
use Rattle.rule_text.specs.Tables.{no_header}
use Rattle.rule_text.specs.Tokens.{is_in, tokens_of}

-- the letters of the word at the front of a text
abbrev pub front_word : List ℕ → List ℕ
front_word [] = []
front_word (c ∷ cs) = if is_in Letters c then c ∷ front_word cs else []

-- the words of the text at which names of words of the memory begin
abbrev pub names_at : List ℕ → List Entry → List (List ℕ)
names_at text names = map (λ e. front_word (drop e.name.from text)) (filter (λ e. is_word e.meaning) names)

-- the clock, and the names that the lines of `state` give, as the reader reads them; or the first error in these lines
abbrev pub word_names : List ℕ → Result (List (List ℕ)) ReadRuleError
word_names text = let ts = tokens_of text in
    header_read MAX_LINES text (first_column ts) no_header ts
    >>= λ header. Ok (codes "clock" ∷ names_at text header.0.names)
