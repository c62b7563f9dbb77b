-- The tokens of a text, each with its line and column (docs/RULES.md, "Tokens"). Bytes that are no token give a
-- token that is the fault, and no reading goes past it.
use Rattle.std.specs.Prelude.{ℕ, zero, suc, ◌+◌, ◌-◌, ◌*◌, ◌==◌, ◌&&◌, ◌||◌, nat_le, not, Bool, true, false}
use Rattle.std.specs.Prelude.{if◌then◌else◌}
use Rattle.std.specs.Prelude.{List, [], ◌∷◌, ◌++◌, length, take, Option, Some, None}
use Rattle.rule_text.specs.declared.errors.RuleError.TheVariants.{BadCharacter, BadIndent, OutOfRange, TooLong}
use Rattle.rule_text.specs.declared.signs.Sign.{Sign}
use Rattle.rule_text.specs.declared.signs.Sign.TheVariants as signs
use Rattle.rule_text.specs.declared.lexemes.Kind.{Kind}
use Rattle.rule_text.specs.declared.lexemes.Kind.TheVariants.{Number, Named, Mark, Fault, LineStart, TextEnd}
use Rattle.rule_text.specs.declared.lexemes.Position.{Position}
use Rattle.rule_text.specs.declared.lexemes.Token.{Token}
use Rattle.rule_text.specs.declared.lexemes.Place.{Place}
use Rattle.rule_text.specs.declared.lexemes.Lexeme.{Lexeme}
use Rattle.rule_text.specs.declared.lexemes.Class.{Class}
use Rattle.rule_text.specs.declared.lexemes.Class.TheVariants.{Digits, Letters, Comment}
use Rattle.rule_text.specs.declared.lexemes.TheConstants.{MAX_NAME_LETTERS}
use Rattle.rule_text.specs.declared.layout.Lines.{Lines}
use Rattle.rule_text.specs.declared.layout.TheConstants.{MAX_LINES, MAX_LINE_TOKENS, MAX_TABLE_CELLS, MAX_LOOKUPS}
use Rattle.rule_text.specs.Signs.{sign_text, sign_of}

-- ---- bytes

abbrev pub between : ℕ → ℕ → ℕ → Bool
between low high c = nat_le low c && nat_le c high

-- space, tab, CR, and the end of a line
abbrev pub is_space : ℕ → Bool
is_space c = (c == 32) || ((c == 9) || ((c == 13) || (c == 10)))

abbrev pub is_digit : ℕ → Bool
is_digit c = between 48 57 c

abbrev pub begins_name : ℕ → Bool
begins_name c = between 97 122 c || (between 65 90 c || (c == 95))

abbrev pub is_in : Class → ℕ → Bool
is_in Digits c = is_digit c
is_in Letters c = begins_name c || is_digit c
is_in Comment c = not (c == 10)

-- how many bytes of a class stand at the front
abbrev pub run : Class → List ℕ → ℕ
run class [] = 0
run class (c ∷ cs) = if is_in class c then run class cs + 1 else 0

-- the decimal number of digits that follow those of n
abbrev pub decimal : ℕ → List ℕ → ℕ
decimal n [] = n
decimal n (c ∷ cs) = decimal (n * 10 + (c - 48)) cs

abbrev pub number_spelled : List ℕ → Option ℕ
number_spelled digits = if nat_le (decimal 0 digits) 4294967295 then Some (decimal 0 digits) else None

-- ---- words, numbers and signs

abbrev pub number_kind : Option ℕ → Kind
number_kind (Some v) = Number v
number_kind None = Fault OutOfRange

-- a word that isn't reserved is a name
abbrev pub name_kind : ℕ → ℕ → Kind
name_kind from letters =
    if nat_le letters MAX_NAME_LETTERS then Named (record { from = from; letters = letters }) else Fault OutOfRange

abbrev pub reserved_kind : Option Sign → Kind → Kind
reserved_kind (Some sign) other = Mark sign
reserved_kind None other = other

abbrev pub word_kind : ℕ → List ℕ → Kind
word_kind from word = reserved_kind (sign_of word) (name_kind from (length word))

abbrev pub lexeme : Kind → ℕ → Lexeme
lexeme kind further = record { kind = Some kind; further = further }

abbrev pub no_lexeme : ℕ → Lexeme
no_lexeme further = record { kind = None; further = further }

-- the digits at the front are a number
abbrev pub number_lexeme : List ℕ → Lexeme
number_lexeme text = lexeme (number_kind (number_spelled (take (run Digits text) text))) (run Digits text - 1)

-- no word directly follows a number
abbrev pub word_from : Place → List ℕ → Kind
word_from at word = if is_digit at.before then Fault BadCharacter else word_kind at.offset word

-- the letters at the front are a word
unfoldable pub word_lexeme : Place → List ℕ → Lexeme
word_lexeme at text = lexeme (word_from at (take (run Letters text) text)) (run Letters text - 1)

abbrev pub lexeme_of_sign : Sign → Lexeme
lexeme_of_sign sign = lexeme (Mark sign) (length (sign_text sign) - 1)

abbrev pub marked_or : Option Sign → Lexeme → Lexeme
marked_or (Some sign) other = lexeme_of_sign sign
marked_or None other = other

-- of two signs that stand there, the longer
abbrev pub sign_lexeme : List ℕ → Lexeme
sign_lexeme text = marked_or (sign_of (take 2 text)) (marked_or (sign_of (take 1 text)) (lexeme (Fault BadCharacter) 0))

-- what begins with the first byte: blanks are no token, and a comment goes from "#" (35) to the end of its line
abbrev pub lexeme_at : Place → List ℕ → Lexeme
lexeme_at at [] = no_lexeme 0
lexeme_at at (c ∷ cs) =
    if is_space c then no_lexeme 0 else
    if c == 35 then no_lexeme (run Comment cs) else
    if is_digit c then number_lexeme (c ∷ cs) else
    if begins_name c then word_lexeme at (c ∷ cs) else sign_lexeme (c ∷ cs)

-- ---- the text

abbrev pub first_place : Place
first_place = record { offset = 0; line = 1; column = 1; before = 10; spaced = true }

-- the place after a byte
abbrev pub past : Place → ℕ → Place
past at c = record {
  offset = at.offset + 1;
  line = if c == 10 then at.line + 1 else at.line;
  column = if c == 10 then 1 else at.column + 1;
  before = c;
  spaced = (c == 10) || (at.spaced && (c == 32));
}

-- a token, after one with this end
abbrev pub token : Kind → Position → Place → Token
token kind end at =
    record { kind = kind; line = at.line; column = at.column; spaced = at.spaced; last_end = end }

abbrev pub tokens_at : Option Kind → Position → Place → List Token
tokens_at (Some kind) end at = token kind end at ∷ []
tokens_at None end at = []

-- the end of the last token, after what begins at a place: its first byte, and further ones
abbrev pub end_after : Option Kind → ℕ → Position → Place → Position
end_after (Some kind) further end at = record { line = at.line; column = at.column + (further + 1) }
end_after None further end at = end

-- the tokens from a place on, if this many bytes belong to a token before it, and the last token has this end
abbrev pub lexemes_from : ℕ → Position → Place → List ℕ → List Token
lexemes_from skip end at [] = token TextEnd end at ∷ []
lexemes_from (suc skip) end at (c ∷ cs) = lexemes_from skip end (past at c) cs
lexemes_from zero end at (c ∷ cs) =
    let here = lexeme_at at (c ∷ cs) in
    tokens_at here.kind end at ++ lexemes_from here.further (end_after here.kind here.further end at) (past at c) cs

abbrev pub first_end : Position
first_end = record { line = 1; column = 1 }

abbrev pub lexemes_of : List ℕ → List Token
lexemes_of text = lexemes_from 0 first_end first_place text

-- ---- lines

abbrev pub opened : Kind → ℕ → ℕ
opened (Mark signs.Open) n = n + 1
opened (Mark signs.OpenSquare) n = n + 1
opened (Mark signs.Close) n = n - 1
opened (Mark signs.CloseSquare) n = n - 1
opened kind n = n

-- a token begins a line if the one before it is on another; inside brackets none does
abbrev pub begins_line : Lines → Token → Bool
begins_line s t = not (s.line == t.line) && (s.depth == 0)

-- a lookup in a table: the token before is a name, and this one opens its index
abbrev pub opens_index : Bool → Kind → Bool
opens_index after_name (Mark signs.OpenSquare) = after_name
opens_index after_name kind = false

abbrev pub is_lookup : Lines → Token → Bool
is_lookup s t = opens_index s.after_name t.kind && not (begins_line s t)

abbrev pub is_named : Kind → Bool
is_named (Named name) = true
is_named kind = false

abbrev pub begins_table : Kind → Bool
begins_table (Mark signs.Table) = true
begins_table kind = false

-- the most tokens of a line: a table has four before its cells, and a comma or a bracket after each of them
abbrev pub most_tokens : Lines → ℕ
most_tokens s = if s.in_table then 2 * MAX_TABLE_CELLS + 4 else MAX_LINE_TOKENS

abbrev pub of_kind : Kind → Token → Token
of_kind kind t =
    record { kind = kind; line = t.line; column = t.column; spaced = t.spaced; last_end = t.last_end }

abbrev pub first_lines : Lines
first_lines =
    record { line = 0; depth = 0; tokens = 0; lines = 0; in_table = false; after_name = false; lookups = 0 }

abbrev pub beyond : Lines → Token → Lines
beyond s t = record {
  line = t.line;
  depth = opened t.kind s.depth;
  tokens = if begins_line s t then 1 else s.tokens + 1;
  lines = if begins_line s t then s.lines + 1 else s.lines;
  in_table = if begins_line s t then begins_table t.kind else s.in_table;
  after_name = is_named t.kind;
  lookups = if is_lookup s t then s.lookups + 1 else s.lookups;
}

-- what a token that begins a line puts before itself: the start of a line, or a fault
abbrev pub start_kind : Lines → Token → Kind
start_kind s t =
    if not t.spaced then Fault BadIndent else if nat_le MAX_LINES s.lines then Fault TooLong else LineStart

-- a token too many in its line, or a lookup too many in the text
abbrev pub is_past_limit : Lines → Token → Bool
is_past_limit s t = nat_le (most_tokens s) s.tokens || (is_lookup s t && nat_le MAX_LOOKUPS s.lookups)

-- the kind of a token inside a line
abbrev pub inner_kind : Lines → Token → Kind
inner_kind s t = if is_past_limit s t then Fault TooLong else t.kind

abbrev pub is_end : Kind → Bool
is_end TextEnd = true
is_end kind = false

abbrev pub laid : Lines → Token → List Token
laid s t =
    if is_end t.kind then t ∷ [] else
    if begins_line s t then of_kind (start_kind s t) t ∷ t ∷ [] else of_kind (inner_kind s t) t ∷ []

abbrev pub laid_from : Lines → List Token → List Token
laid_from s [] = []
laid_from s (t ∷ ts) = laid s t ++ laid_from (beyond s t) ts

abbrev pub tokens_of : List ℕ → List Token
tokens_of text = laid_from first_lines (lexemes_of text)
