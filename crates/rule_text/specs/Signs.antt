-- How the reserved words and the signs are written (docs/RULES.md, "Words and signs").
use Rattle.std.specs.Prelude.{ℕ, Bool, List, codes, Option}
use Rattle.std.specs.List.{find}
use Rattle.std.specs.Str.{bytes_eq}
use Rattle.rule_text.specs.declared.signs.Sign.{Sign}
use Rattle.rule_text.specs.declared.signs.Sign.TheVariants as signs
use Rattle.rule_text.specs.declared.signs.TheConstants.{SIGNS}

abbrev pub sign_text : Sign → List ℕ
sign_text signs.State = codes "state"
sign_text signs.Let = codes "let"
sign_text signs.If = codes "if"
sign_text signs.Elif = codes "elif"
sign_text signs.Else = codes "else"
sign_text signs.For = codes "for"
sign_text signs.Count = codes "count"
sign_text signs.Send = codes "send"
sign_text signs.To = codes "to"
sign_text signs.And = codes "and"
sign_text signs.Or = codes "or"
sign_text signs.Not = codes "not"
sign_text signs.Mail = codes "mail"
sign_text signs.Nodes = codes "n"
sign_text signs.Faults = codes "f"
sign_text signs.Modulus = codes "M"
sign_text signs.Me = codes "me"
sign_text signs.Coin = codes "coin"
sign_text signs.NoMessage = codes "none"
sign_text signs.Clock = codes "clock"
sign_text signs.Table = codes "table"
sign_text signs.Sorted = codes "sorted"
sign_text signs.Plus = codes "+"
sign_text signs.Minus = codes "-"
sign_text signs.Times = codes "*"
sign_text signs.Over = codes "/"
sign_text signs.Modulo = codes "%"
sign_text signs.Equal = codes "=="
sign_text signs.NotEqual = codes "!="
sign_text signs.Less = codes "<"
sign_text signs.AtMost = codes "<="
sign_text signs.Greater = codes ">"
sign_text signs.AtLeast = codes ">="
sign_text signs.Becomes = codes "="
sign_text signs.Comma = codes ","
sign_text signs.Colon = codes ":"
sign_text signs.Open = codes "("
sign_text signs.Close = codes ")"
sign_text signs.OpenSquare = codes "["
sign_text signs.CloseSquare = codes "]"

-- the word or sign that is written so
abbrev pub sign_of : List ℕ → Option Sign
sign_of text = find (λ sign. bytes_eq (sign_text sign) text) SIGNS

abbrev pub is_same : Sign → Sign → Bool
is_same a b = bytes_eq (sign_text a) (sign_text b)
