-- The lines of the statements of a text (docs/RULES.md, "Lines and instructions"), in the order of the text.
use Rattle.std.specs.Prelude.{ℕ, ◌+◌, Bool, true, false, if◌then◌else◌, List, [], ◌∷◌, ◌++◌}
use Rattle.rule_text.specs.declared.signs.Sign.TheVariants as signs
use Rattle.rule_text.specs.declared.lexemes.Kind.{Kind}
use Rattle.rule_text.specs.declared.lexemes.Kind.TheVariants.{Named, Mark, LineStart, TextEnd}
use Rattle.rule_text.specs.declared.lexemes.Token.{Token}
use Rattle.rule_text.specs.declared.lines.Spot.{Spot}
use Rattle.rule_text.specs.declared.lines.Spot.TheVariants.{Front, Counting, BeforeNode, Inside}
use Rattle.rule_text.specs.Forms.{StatementForm, nothing, sequence, let_in, assign, branch, each, send_all, send_to}
use Rattle.rule_text.specs.Tokens.{tokens_of}

-- a statement can come at the start of a line, and after a colon that isn't that of an aggregate: before such a colon
-- is the name of a node. It comes after `count`, after another name, which is `least`, or after the bracket of `sorted`
abbrev pub spot_after : Spot → Kind → Spot
spot_after Counting (Mark signs.Colon) = Inside
spot_after spot (Mark signs.Colon) = Front
spot_after spot (Mark signs.Count) = Counting
spot_after spot LineStart = Front
spot_after Counting kind = Counting
spot_after spot (Mark signs.CloseSquare) = BeforeNode
spot_after BeforeNode (Named name) = Counting
spot_after spot (Named name) = BeforeNode
spot_after spot kind = Inside

-- the tokens that begin no statement there
abbrev pub begins_statement : Kind → Bool
begins_statement LineStart = false
begins_statement TextEnd = false
begins_statement (Mark signs.State) = false
begins_statement (Mark signs.Table) = false
begins_statement (Mark signs.Else) = false
begins_statement kind = true

-- the line of the statement that begins with a token
abbrev pub token_line : Spot → Token → List ℕ
token_line Front t = if begins_statement t.kind then t.line ∷ [] else []
token_line spot t = []

abbrev pub token_lines_from : Spot → List Token → List ℕ
token_lines_from spot [] = []
token_lines_from spot (t ∷ ts) = token_line spot t ++ token_lines_from (spot_after spot t.kind) ts

abbrev pub statement_lines : List ℕ → List ℕ
statement_lines text = token_lines_from Inside (tokens_of text)

-- how many statements there are
abbrev pub form_statements : StatementForm → ℕ
form_statements nothing = 0
form_statements (sequence a b) = form_statements a + form_statements b
form_statements (let_in e rest) = form_statements rest + 1
form_statements (assign a) = 1
form_statements (branch t a b) = form_statements a + form_statements b + 1
form_statements (each body) = form_statements body + 1
form_statements (send_all e) = 1
form_statements (send_to e k) = 1
