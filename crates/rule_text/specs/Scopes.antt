-- Names in scope, and the error at a token (docs/RULES.md, "Names").
use Rattle.std.specs.Prelude.{◌≡◌, ◌⊎◌, ℕ, ◌+◌, nat_le, Bool, true, false, if◌then◌else◌, List, [], ◌∷◌, ◌++◌, length}
use Rattle.std.specs.Prelude.{take, drop, count_by}
use Rattle.std.specs.Prelude.{Option, Some, None, option_map, Result, Ok, Err}
use Rattle.std.specs.List.{find}
use Rattle.std.specs.Str.{bytes_eq}
use Rattle.rule_text.specs.declared.errors.RuleError.{RuleError}
use Rattle.rule_text.specs.declared.errors.RuleError.TheVariants.{Expected, NameTwice, TooDeep}
use Rattle.rule_text.specs.declared.errors.ReadRuleError.{ReadRuleError}
use Rattle.rule_text.specs.declared.errors.ReadRuleError.TheVariants.{At, Memory}
use Rattle.rule_text.specs.declared.lexemes.Name.{Name}
use Rattle.rule_text.specs.declared.lexemes.Kind.{Kind}
use Rattle.rule_text.specs.declared.lexemes.Kind.TheVariants.{Named, Fault, LineStart, TextEnd}
use Rattle.rule_text.specs.declared.lexemes.Position.{Position}
use Rattle.rule_text.specs.declared.lexemes.Token.{Token}
use Rattle.rule_text.specs.declared.scope.Meaning.{Meaning}
use Rattle.rule_text.specs.declared.scope.Meaning.TheVariants.{Local, LoopNode, Word, Table}
use Rattle.rule_text.specs.declared.scope.Entry.{Entry}
use Rattle.rule_text.specs.declared.scope.Maker.{Maker}
use Rattle.rule_text.specs.declared.scope.Maker.TheVariants as makers
use Rattle.rule_text.specs.declared.scope.TheConstants.{MAX_NAMES}

-- ---- errors

-- a token that is a fault gives that error
abbrev pub told_instead : RuleError → Kind → RuleError
told_instead e (Fault other) = other
told_instead e kind = e

abbrev pub token_position : Token → Position
token_position t = record { line = t.line; column = t.column }

-- what is missing before the next line or the end of the text is missing where the last token ends
abbrev pub missing_position : Kind → Token → Position
missing_position LineStart t = t.last_end
missing_position TextEnd t = t.last_end
missing_position kind t = token_position t

abbrev pub error_position : RuleError → Token → Position
error_position Expected t = missing_position t.kind t
error_position e t = token_position t

abbrev pub error_of : RuleError → Position → ReadRuleError
error_of e at = At e at.line at.column

abbrev pub rule_error_at : RuleError → Token → ReadRuleError
rule_error_at e t = error_of (told_instead e t.kind) (error_position e t)

-- the error at the first token
abbrev pub error_in : RuleError → List Token → ReadRuleError
error_in e [] = At e 0 0
error_in e (t ∷ ts) = rule_error_at e t

-- the error is the reading's, or memory was short
abbrev pub TellsError : {A : Type 0} → Result A ReadRuleError → ReadRuleError → Type 0
TellsError r e = (e ≡ Memory) ⊎ (r ≡ Err e)

-- what is read of the tokens, and the tokens after it; or the first error
abbrev pub Reading : Type 0 → Type 0
Reading A = Result (A × List Token) ReadRuleError

-- what is read after a reading; an error goes on
infixl 10 ◌>>=◌
abbrev pub ◌>>=◌ : {A B : Type 0} → Result A ReadRuleError → (A → Result B ReadRuleError) → Result B ReadRuleError
(Ok x) >>= f = f x
(Err e) >>= f = Err e

-- ---- names

abbrev pub letters_of : List ℕ → Name → List ℕ
letters_of text name = take name.letters (drop name.from text)

abbrev pub is_same_name : List ℕ → Name → Name → Bool
is_same_name text a b = bytes_eq (letters_of text a) (letters_of text b)

abbrev pub found_entry : List ℕ → List Entry → Name → Option Entry
found_entry text names name = find (λ e. is_same_name text e.name name) names

abbrev pub meaning_of : List ℕ → List Entry → Name → Option Meaning
meaning_of text names name = option_map (λ e. e.meaning) (found_entry text names name)

abbrev pub means_local : Meaning → Bool
means_local (Local k) = true
means_local meaning = false

abbrev pub is_loop : Meaning → Bool
is_loop (LoopNode k) = true
is_loop meaning = false

abbrev pub is_word : Meaning → Bool
is_word (Word k) = true
is_word meaning = false

abbrev pub means_table : Meaning → Bool
means_table (Table k) = true
means_table meaning = false

-- the words of the memory, the clock among them
abbrev pub words_of : List Entry → ℕ
words_of names = count_by (λ e. is_word e.meaning) names + 1

-- a new name is numbered by the lets, loops, words or tables before it; word 0 is the clock
abbrev pub next_meaning : Maker → List Entry → Meaning
next_meaning makers.Let names = Local (count_by (λ e. means_local e.meaning) names)
next_meaning makers.Loop names = LoopNode (count_by (λ e. is_loop e.meaning) names)
next_meaning makers.State names = Word (words_of names)
next_meaning makers.Table names = Table (count_by (λ e. means_table e.meaning) names)

abbrev pub scope_entry : Name → Meaning → Entry
scope_entry name meaning = record { name = name; meaning = meaning }

-- the names with one more
abbrev pub added : Option Meaning → Maker → Name → List Entry → Token → Result (List Entry) ReadRuleError
added (Some meaning) maker name names t = Err (rule_error_at NameTwice t)
added None maker name names t =
    if nat_le MAX_NAMES (length names) then Err (rule_error_at TooDeep t)
    else Ok (names ++ scope_entry name (next_meaning maker names) ∷ [])

abbrev pub named_entry_by : List ℕ → Maker → List Entry → Kind → Token → Result (List Entry) ReadRuleError
named_entry_by text maker names (Named name) t = added (meaning_of text names name) maker name names t
named_entry_by text maker names kind t = Err (rule_error_at Expected t)

-- the names with the new one that a token gives
abbrev pub named_entry : List ℕ → Maker → List Entry → Token → Result (List Entry) ReadRuleError
named_entry text maker names t = named_entry_by text maker names t.kind t

-- and the tokens after it
abbrev pub new_name : List ℕ → Maker → List Entry → List Token → Reading (List Entry)
new_name text maker names [] = Err (error_in Expected [])
new_name text maker names (t ∷ ts) = named_entry text maker names t >>= λ more. Ok (more, ts)
