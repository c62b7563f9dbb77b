-- From tokens to a rule (docs/RULES.md, "Statements" and "Blocks"): the reading, or the first error.
use Rattle.std.specs.Prelude.{ℕ, zero, suc, ◌-◌, ◌==◌, ◌&&◌, nat_lt, nat_le, Bool, true, false, if◌then◌else◌}
use Rattle.std.specs.Prelude.{List, [], ◌∷◌, ◌++◌}
use Rattle.std.specs.Prelude.{Option, Some, None, Result, Ok, Err}
use Rattle.std.specs.List.{list_any}
use Rattle.node_env.specs.declared.env.TheConstants.{NO_MAIL}
use Rattle.rule_syntax.specs.declared.syntax.Target.{Target}
use Rattle.rule_syntax.specs.declared.syntax.Target.TheVariants.{ToLocal, ToWord}
use Rattle.rule_text.specs.declared.errors.RuleError.TheVariants.{BadIndent, Expected, UnknownName, NameTwice}
use Rattle.rule_text.specs.declared.errors.RuleError.TheVariants.{NotAssignable, TooDeep, TooLong}
use Rattle.rule_text.specs.declared.errors.ReadRuleError.{ReadRuleError}
use Rattle.rule_text.specs.declared.signs.Sign.{Sign}
use Rattle.rule_text.specs.declared.signs.Sign.TheVariants as signs
use Rattle.rule_text.specs.declared.lexemes.Kind.{Kind}
use Rattle.rule_text.specs.declared.lexemes.Kind.TheVariants.{Number, Named, Mark, LineStart, TextEnd}
use Rattle.rule_text.specs.declared.lexemes.Token.{Token}
use Rattle.rule_text.specs.declared.layout.TheConstants.{MAX_LINES, MAX_LINE_TOKENS, MAX_TABLE_CELLS}
use Rattle.rule_text.specs.declared.scope.Meaning.{Meaning}
use Rattle.rule_text.specs.declared.scope.Meaning.TheVariants.{Local, LoopNode, Word, Table}
use Rattle.rule_text.specs.declared.scope.Entry.{Entry}
use Rattle.rule_text.specs.declared.scope.Maker.TheVariants as makers
use Rattle.rule_text.specs.declared.terms.TheConstants.{MAX_PARTS}
use Rattle.rule_text.specs.declared.statements.Layer.{Layer}
use Rattle.rule_text.specs.declared.statements.Layer.TheVariants.{Rest, Branch}
use Rattle.rule_text.specs.declared.statements.TheConstants.{MAX_STEPS}
use Rattle.rule_text.specs.Forms.{TermForm, AssignmentForm, one, also, StatementForm, nothing, sequence, let_in}
use Rattle.rule_text.specs.Forms.{assign, branch, each, send_all, send_to}
use Rattle.rule_text.specs.Tables.{SourceForm, HeaderForm, no_header, source_with}
use Rattle.rule_text.specs.Tokens.{is_end, tokens_of}
use Rattle.rule_text.specs.Scopes.{Reading, ◌>>=◌, rule_error_at, error_in, meaning_of, words_of, new_name}
use Rattle.rule_text.specs.Terms.{rest_after, wanted, term_read}

-- ---- assignments

abbrev pub same_target : Target → Target → Bool
same_target (ToLocal j) (ToLocal k) = j == k
same_target (ToWord j) (ToWord k) = j == k
same_target a b = false

abbrev pub target_meant : Option Meaning → Token → Result Target ReadRuleError
target_meant (Some (Local k)) t = Ok (ToLocal k)
target_meant (Some (Word k)) t = Ok (ToWord k)
target_meant (Some (LoopNode k)) t = Err (rule_error_at NotAssignable t)
target_meant (Some (Table k)) t = Err (rule_error_at NotAssignable t)
target_meant None t = Err (rule_error_at UnknownName t)

-- the clock can be set; other words have fixed numbers
abbrev pub target_marked : Sign → Token → Result Target ReadRuleError
target_marked signs.Clock t = Ok (ToWord 0)
target_marked signs.Nodes t = Err (rule_error_at NotAssignable t)
target_marked signs.Faults t = Err (rule_error_at NotAssignable t)
target_marked signs.Modulus t = Err (rule_error_at NotAssignable t)
target_marked signs.Me t = Err (rule_error_at NotAssignable t)
target_marked signs.Coin t = Err (rule_error_at NotAssignable t)
target_marked signs.NoMessage t = Err (rule_error_at NotAssignable t)
target_marked s t = Err (rule_error_at Expected t)

abbrev pub target_by : List ℕ → List Entry → Kind → Token → Result Target ReadRuleError
target_by text names (Named name) t = target_meant (meaning_of text names name) t
target_by text names (Mark s) t = target_marked s t
target_by text names kind t = Err (rule_error_at Expected t)

abbrev pub has_target : List Target → Target → Bool
has_target done target = list_any (λ other. same_target target other) done

-- the targets with one more that isn't among them
abbrev pub with_target : List Target → Target → Token → Result (List Target) ReadRuleError
with_target done target t =
    if has_target done target then Err (rule_error_at NameTwice t) else Ok (done ++ target ∷ [])

abbrev pub more_targets : List ℕ → List Entry → List Target → Token → Result (List Target) ReadRuleError
more_targets text names done t = target_by text names t.kind t >>= λ target. with_target done target t

-- the targets with the one that the first token names
abbrev pub new_target : List ℕ → List Entry → List Target → List Token → Reading (List Target)
new_target text names done [] = Err (error_in Expected [])
new_target text names done (t ∷ ts) = more_targets text names done t >>= λ more. Ok (more, ts)

-- a target, and further ones after a comma; the tokens after the "=" that follows them
abbrev pub targets_with : (List Target → List Token → Reading (List Target)) → List ℕ → List Entry → List Target
    → List Token → Reading (List Target)
targets_with further text names done ts =
    new_target text names done ts >>= λ more. elim (rest_after signs.Comma more.1) [
      | Some rest ↦ further more.0 rest
      | None ↦ wanted signs.Becomes more.1 >>= λ rest. Ok (more.0, rest)
    ]

-- at most this many
unfoldable pub targets_read : ℕ → List ℕ → List Entry → List Target → List Token → Reading (List Target)
targets_read zero text names done ts = Err (error_in TooLong ts)
targets_read (suc left) text names done ts = targets_with (targets_read left text names) text names done ts

-- the numbers of further targets, after those of the first ones
abbrev pub values_read : SourceForm → List Entry → AssignmentForm → List Target → List Token → Reading AssignmentForm
values_read source names front [] ts = Ok (front, ts)
values_read source names front (target ∷ targets) ts =
    wanted signs.Comma ts >>= λ rest. term_read source names rest
    >>= λ e. values_read source names (also front target e.0) targets e.1

abbrev pub numbers_read : SourceForm → List Entry → List Target → List Token → Reading StatementForm
numbers_read source names [] ts = Err (error_in Expected ts)
numbers_read source names (target ∷ targets) ts =
    term_read source names ts >>= λ e. values_read source names (one target e.0) targets e.1
    >>= λ a. Ok (assign a.0, a.1)

abbrev pub assign_read : SourceForm → List Entry → List Token → Reading StatementForm
assign_read source names ts =
    targets_read MAX_LINE_TOKENS source.text names [] ts >>= λ targets. numbers_read source names targets.0 targets.1

-- ---- simple statements

abbrev pub send_rest : SourceForm → List Entry → TermForm → List Token → Reading StatementForm
send_rest source names e ts = elim (rest_after signs.To ts) [
  | Some rest ↦ term_read source names rest >>= λ k. Ok (send_to e k.0, k.1)
  | None ↦ Ok (send_all e, ts)
]

abbrev pub send_read : SourceForm → List Entry → List Token → Reading StatementForm
send_read source names ts = term_read source names ts >>= λ e. send_rest source names e.0 e.1

-- the number of a let, and the names with its own: the number can't use it
abbrev pub let_read : SourceForm → List Entry → List Token → Result (TermForm × List Entry × List Token) ReadRuleError
let_read source names ts =
    new_name source.text makers.Let names ts >>= λ more. wanted signs.Becomes more.1
    >>= λ rest. term_read source names rest >>= λ e. Ok (e.0, more.0, e.1)

abbrev pub let_alone : SourceForm → List Entry → List Token → Reading StatementForm
let_alone source names ts = let_read source names ts >>= λ x. Ok (let_in x.0 nothing, x.2)

abbrev pub simple_by : SourceForm → List Entry → Kind → Token → List Token → Reading StatementForm
simple_by source names (Mark signs.Let) t ts = let_alone source names ts
simple_by source names (Mark signs.Send) t ts = send_read source names ts
simple_by source names kind t ts = assign_read source names (t ∷ ts)

abbrev pub simple_read : SourceForm → List Entry → List Token → Reading StatementForm
simple_read source names [] = Err (error_in Expected [])
simple_read source names (t ∷ ts) = simple_by source names t.kind t ts

-- ---- blocks, where `inner` reads further lines: of a block of a column, in which there is room for this many blocks

abbrev pub Inner : Type 0
Inner = Layer → ℕ → ℕ → List Entry → List Token → Reading StatementForm

abbrev pub is_start : Kind → Bool
is_start LineStart = true
is_start kind = false

-- the lines of a deeper block, of which t is the first token
abbrev pub deeper_read : Inner → ℕ → ℕ → List Entry → Token → List Token → Reading StatementForm
deeper_read inner room column names t ts =
    if nat_le t.column column then Err (rule_error_at Expected t) else
    if room == 0 then Err (rule_error_at TooDeep t) else inner Rest (room - 1) t.column names ts

-- the block after a colon: deeper lines, or a simple statement on the same line
abbrev pub block_read : Inner → SourceForm → ℕ → ℕ → List Entry → List Token → Reading StatementForm
block_read inner source room column names [] = Err (error_in Expected [])
block_read inner source room column names (t ∷ ts) =
    if is_start t.kind then deeper_read inner room column names t (t ∷ ts) else simple_read source names (t ∷ ts)

-- a colon and the block after it
abbrev pub body_read : Inner → SourceForm → ℕ → ℕ → List Entry → List Token → Reading StatementForm
body_read inner source room column names ts =
    wanted signs.Colon ts >>= λ rest. block_read inner source room column names rest

abbrev pub other_by : Inner → SourceForm → ℕ → ℕ → List Entry → Kind → Token → Token → List Token
    → Reading StatementForm
other_by inner source room column names (Mark signs.Elif) t u us = inner Branch room column names us
other_by inner source room column names (Mark signs.Else) t u us = body_read inner source room column names us
other_by inner source room column names kind t u us = Ok (nothing, t ∷ u ∷ us)

-- what is done otherwise: a line of the same column that begins with `elif` or `else`
abbrev pub other_read : Inner → SourceForm → ℕ → ℕ → List Entry → List Token → Reading StatementForm
other_read inner source room column names [] = Ok (nothing, [])
other_read inner source room column names (t ∷ []) = Ok (nothing, t ∷ [])
other_read inner source room column names (t ∷ u ∷ us) =
    if is_start t.kind && (t.column == column) then other_by inner source room column names u.kind t u us
    else Ok (nothing, t ∷ u ∷ us)

-- what follows `if` or `elif`
abbrev pub branch_read : Inner → SourceForm → ℕ → ℕ → List Entry → List Token → Reading StatementForm
branch_read inner source room column names ts =
    term_read source names ts >>= λ t. body_read inner source room column names t.1
    >>= λ a. other_read inner source room column names a.1 >>= λ b. Ok (branch t.0 a.0 b.0, b.1)

-- a statement and the rest of its block
abbrev pub followed : Inner → ℕ → ℕ → List Entry → StatementForm → List Token → Reading StatementForm
followed inner room column names a ts = inner Rest room column names ts >>= λ rest. Ok (sequence a rest.0, rest.1)

abbrev pub let_line : Inner → SourceForm → ℕ → ℕ → List Entry → List Token → Reading StatementForm
let_line inner source room column names ts =
    let_read source names ts >>= λ x. inner Rest room column x.1 x.2 >>= λ rest. Ok (let_in x.0 rest.0, rest.1)

abbrev pub for_line : Inner → SourceForm → ℕ → ℕ → List Entry → List Token → Reading StatementForm
for_line inner source room column names ts =
    new_name source.text makers.Loop names ts >>= λ more. body_read inner source room column more.0 more.1
    >>= λ body. followed inner room column names (each body.0) body.1

abbrev pub if_line : Inner → ℕ → ℕ → List Entry → List Token → Reading StatementForm
if_line inner room column names ts =
    inner Branch room column names ts >>= λ a. followed inner room column names a.0 a.1

abbrev pub simple_line : Inner → SourceForm → ℕ → ℕ → List Entry → List Token → Reading StatementForm
simple_line inner source room column names ts =
    simple_read source names ts >>= λ a. followed inner room column names a.0 a.1

abbrev pub statement_by : Inner → SourceForm → ℕ → ℕ → List Entry → Kind → Token → List Token → Reading StatementForm
statement_by inner source room column names (Mark signs.Let) t ts = let_line inner source room column names ts
statement_by inner source room column names (Mark signs.For) t ts = for_line inner source room column names ts
statement_by inner source room column names (Mark signs.If) t ts = if_line inner room column names ts
statement_by inner source room column names kind t ts = simple_line inner source room column names (t ∷ ts)

abbrev pub line_read : Inner → SourceForm → ℕ → ℕ → List Entry → List Token → Reading StatementForm
line_read inner source room column names [] = Err (error_in Expected [])
line_read inner source room column names (t ∷ ts) = statement_by inner source room column names t.kind t ts

-- a line further left ends the block, and one further right has none
abbrev pub start_read : Inner → SourceForm → ℕ → ℕ → List Entry → Token → List Token → Reading StatementForm
start_read inner source room column names t ts =
    if nat_lt t.column column then Ok (nothing, t ∷ ts) else
    if nat_lt column t.column then Err (rule_error_at BadIndent t) else line_read inner source room column names ts

abbrev pub rest_by : Inner → SourceForm → ℕ → ℕ → List Entry → Kind → Token → List Token → Reading StatementForm
rest_by inner source room column names TextEnd t ts = Ok (nothing, t ∷ ts)
rest_by inner source room column names LineStart t ts = start_read inner source room column names t ts
rest_by inner source room column names kind t ts = Err (rule_error_at Expected t)

-- the rest of a block
abbrev pub rest_read : Inner → SourceForm → ℕ → ℕ → List Entry → List Token → Reading StatementForm
rest_read inner source room column names [] = Err (error_in Expected [])
rest_read inner source room column names (t ∷ ts) = rest_by inner source room column names t.kind t ts

unfoldable pub lines_read : ℕ → SourceForm → Inner
lines_read zero source layer room column names ts = Err (error_in TooLong ts)
lines_read (suc left) source Rest room column names ts = rest_read (lines_read left source) source room column names ts
lines_read (suc left) source Branch room column names ts = branch_read (lines_read left source) source room column
    names ts

-- ---- rules

-- a new name, and further ones after a comma
abbrev pub state_names_with : (List Entry → List Token → Reading (List Entry)) → List ℕ → List Entry → List Token
    → Reading (List Entry)
state_names_with further text names ts =
    new_name text makers.State names ts >>= λ more. elim (rest_after signs.Comma more.1) [
      | Some rest ↦ further more.0 rest
      | None ↦ Ok more
    ]

-- at most this many
unfoldable pub state_names : ℕ → List ℕ → List Entry → List Token → Reading (List Entry)
state_names zero text names ts = Err (error_in TooLong ts)
state_names (suc left) text names ts = state_names_with (state_names left text) text names ts

-- a number, or `none`
abbrev pub cell_by : Kind → Token → Result ℕ ReadRuleError
cell_by (Number v) t = Ok v
cell_by (Mark signs.NoMessage) t = Ok NO_MAIL
cell_by kind t = Err (rule_error_at Expected t)

abbrev pub cell_read : List Token → Reading ℕ
cell_read [] = Err (error_in Expected [])
cell_read (t ∷ ts) = cell_by t.kind t >>= λ cell. Ok (cell, ts)

-- one more cell, and further ones after a comma
abbrev pub cells_with : (List ℕ → List Token → Reading (List ℕ)) → List ℕ → List Token → Reading (List ℕ)
cells_with further done ts =
    cell_read ts >>= λ cell. elim (rest_after signs.Comma cell.1) [
      | Some rest ↦ further (done ++ cell.0 ∷ []) rest
      | None ↦ Ok (done ++ cell.0 ∷ [], cell.1)
    ]

-- at most this many
unfoldable pub cells_read : ℕ → List ℕ → List Token → Reading (List ℕ)
cells_read zero done ts = Err (error_in TooLong ts)
cells_read (suc left) done ts = cells_with (cells_read left) done ts

-- the name of a new table, and its cells in brackets
abbrev pub table_read : List ℕ → HeaderForm → List Token → Reading HeaderForm
table_read text before ts =
    new_name text makers.Table before.names ts >>= λ more. wanted signs.Becomes more.1
    >>= λ opening. wanted signs.OpenSquare opening >>= λ inside. cells_read MAX_TABLE_CELLS [] inside
    >>= λ cells. wanted signs.CloseSquare cells.1
    >>= λ rest. Ok (record { names = more.0; tables = before.tables ++ cells.0 ∷ [] }, rest)

abbrev pub states_read : List ℕ → HeaderForm → List Token → Reading HeaderForm
states_read text before ts =
    state_names MAX_LINE_TOKENS text before.names ts
    >>= λ more. Ok (record { names = more.0; tables = before.tables }, more.1)

-- the tokens after a word that begins a line of the column
abbrev pub after_heading : Sign → ℕ → List Token → Option (List Token)
after_heading s column [] = None
after_heading s column (t ∷ ts) = if is_start t.kind && (t.column == column) then rest_after s ts else None

-- the lines that name words of the memory and tables
abbrev pub header_with : (HeaderForm → List Token → Reading HeaderForm) → List ℕ → ℕ → HeaderForm → List Token
    → Reading HeaderForm
header_with further text column before ts = elim (after_heading signs.State column ts) [
  | Some rest ↦ states_read text before rest >>= λ more. further more.0 more.1
  | None ↦ elim (after_heading signs.Table column ts) [
    | Some rest ↦ table_read text before rest >>= λ more. further more.0 more.1
    | None ↦ Ok (before, ts)
  ]
]

-- at most this many
unfoldable pub header_read : ℕ → List ℕ → ℕ → HeaderForm → List Token → Reading HeaderForm
header_read zero text column before ts = Err (error_in TooLong ts)
header_read (suc left) text column before ts =
    header_with (header_read left text column) text column before ts

-- a rule: what it does, and the words of the memory that it has
pub record RuleForm : Type 0 where
  pub statement : StatementForm
  pub words : ℕ

abbrev pub ended : List Entry → StatementForm → List Token → Result RuleForm ReadRuleError
ended names a [] = Err (error_in Expected [])
ended names a (t ∷ ts) =
    if is_end t.kind then Ok (record { statement = a; words = words_of names }) else Err (rule_error_at BadIndent t)

-- the first line has the column of the rule
abbrev pub first_column : List Token → ℕ
first_column [] = 0
first_column (t ∷ ts) = t.column

abbrev pub rule_in : List ℕ → List Token → Result RuleForm ReadRuleError
rule_in text ts =
    let column = first_column ts in
    header_read MAX_LINES text column no_header ts
    >>= λ h. lines_read MAX_STEPS (source_with text h.0) Rest MAX_PARTS column h.0.names h.1
    >>= λ a. ended h.0.names a.0 a.1

-- the rule of a text, or the first error
abbrev pub rule_read : List ℕ → Result RuleForm ReadRuleError
rule_read text = rule_in text (tokens_of text)
