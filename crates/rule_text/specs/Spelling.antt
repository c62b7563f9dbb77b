-- The texts that spell a rule (docs/RULES.md, "Terms", "Statements" and "Blocks"): each case is a production of the
-- grammar, over tokens, with the names in scope. Nothing here says how a text is read.
use Rattle.std.specs.Prelude.{◌≡◌, ℕ, ◌<◌, IsTrue, IsFalse, List, [], ◌∷◌, ◌++◌, length, codes, Some, None}
use Rattle.node_env.specs.declared.env.TheConstants.{NO_MAIL}
use Rattle.rule_syntax.specs.declared.syntax.Comparison.{Comparison}
use Rattle.rule_syntax.specs.declared.syntax.Operator.TheVariants.{Compare}
use Rattle.rule_syntax.specs.declared.syntax.Target.{Target}
use Rattle.rule_syntax.specs.declared.syntax.Target.TheVariants.{ToLocal, ToWord}
use Rattle.rule_text.specs.declared.signs.Sign.{Sign}
use Rattle.rule_text.specs.declared.signs.Sign.TheVariants as signs
use Rattle.rule_text.specs.declared.lexemes.Name.{Name}
use Rattle.rule_text.specs.declared.lexemes.Kind.{Kind}
use Rattle.rule_text.specs.declared.lexemes.Kind.TheVariants.{Number, Named, Mark, LineStart, TextEnd}
use Rattle.rule_text.specs.declared.lexemes.Token.{Token}
use Rattle.rule_text.specs.declared.scope.Meaning.{Meaning}
use Rattle.rule_text.specs.declared.scope.Meaning.TheVariants.{Local, Word, Table}
use Rattle.rule_text.specs.declared.scope.Entry.{Entry}
use Rattle.rule_text.specs.declared.scope.Maker.{Maker}
use Rattle.rule_text.specs.declared.scope.Maker.TheVariants as makers
use Rattle.rule_text.specs.declared.scope.TheConstants.{MAX_NAMES}
use Rattle.rule_text.specs.declared.joints.Joint.{Joint}
use Rattle.rule_text.specs.declared.joints.Chain.{Chain}
use Rattle.rule_text.specs.declared.joints.Chain.TheVariants as chains
use Rattle.rule_text.specs.Forms.{TermForm, number, message, binary, inverse, choice, count, least, sorted, is_constant_form}
use Rattle.rule_text.specs.Forms.{AssignmentForm, one, also}
use Rattle.rule_text.specs.Forms.{StatementForm, nothing, sequence, let_in, assign, branch, each, send_all, send_to}
use Rattle.rule_text.specs.Tables.{SourceForm, HeaderForm, no_header, source_with, table_at, table_term}
use Rattle.rule_text.specs.Tokens.{tokens_of}
use Rattle.rule_text.specs.Scopes.{letters_of, meaning_of, scope_entry, next_meaning, words_of}
use Rattle.rule_text.specs.Terms.{joint_of, comparison_of, join, named_term, leaf_of}
use Rattle.rule_text.specs.Statements.{RuleForm, has_target}

-- ---- tokens

pub record HasKind (kind : Kind) (t : Token) : Type 0 where
  pub is : t.kind ≡ kind

abbrev pub IsSign : Sign → Token → Type 0
IsSign s t = HasKind (Mark s) t

-- a line begins here, in this column
pub record IsLineStart (column : ℕ) (t : Token) : Type 0 where
  pub start : HasKind LineStart t
  pub at : t.column ≡ column

-- a token gives a new name, so that these names are in scope then
pub record IsNew (text : List ℕ) (maker : Maker) (known : List Entry) (t : Token) (more : List Entry) : Type 0 where
  pub name : Name
  pub named : HasKind (Named name) t
  pub new : meaning_of text known name ≡ None
  pub room : length known < MAX_NAMES
  pub added : more ≡ known ++ scope_entry name (next_meaning maker known) ∷ []

-- a name is written so
pub record IsNameOf (text letters : List ℕ) (t : Token) : Type 0 where
  pub name : Name
  pub named : HasKind (Named name) t
  pub written : letters_of text name ≡ letters

-- ---- terms

-- the left sides of the grammar, from the loosest to the tightest; those that are chains have operators of one kind
pub data Level : Type 0 where
  whole : Level
  chain : Chain → Level
  inverted : Level
  compared : Level
  atom : Level

-- the operands of each are of the next one
abbrev pub tighter : Level → Level
tighter whole = chain chains.Either
tighter (chain chains.Either) = chain chains.Both
tighter (chain chains.Both) = inverted
tighter inverted = compared
tighter compared = chain chains.Sum
tighter (chain chains.Sum) = chain chains.Product
tighter (chain chains.Product) = atom
tighter atom = atom

-- a term of one token
pub data IsLeaf (text : List ℕ) (names : List Entry) (t : Token) : TermForm → Type 0 where
  -- number
  numeral : {v : ℕ} → HasKind (Number v) t → IsLeaf text names t (number v)
  -- name: no table's
  named : {name : Name} {meaning : Meaning} {a : TermForm} → HasKind (Named name) t
      → meaning_of text names name ≡ Some meaning → named_term meaning ≡ Some a → IsLeaf text names t a
  -- given
  given : {s : Sign} {a : TermForm} → IsSign s t → leaf_of s ≡ Some a → IsLeaf text names t a

pub data IsTerm (source : SourceForm) : Level → List Entry → List Token → TermForm → Type 0 where
  -- an operand alone
  alone : {level : Level} {names : List Entry} {ts : List Token} {a : TermForm}
      → IsTerm source (tighter level) names ts a
      → IsTerm source level names ts a
  -- "if" either "else" term, after an either
  chosen : {names : List Entry} {xs ts ys : List Token} {i e : Token} {x t y : TermForm}
      → IsTerm source (chain chains.Either) names xs x → IsSign signs.If i
      → IsTerm source (chain chains.Either) names ts t
      → IsSign signs.Else e → IsTerm source whole names ys y
      → IsTerm source whole names (xs ++ (i ∷ (ts ++ (e ∷ ys)))) (choice t x y)
  -- "count" name ":" term
  counted : {names more : List Entry} {ts : List Token} {c n d : Token} {a : TermForm} → IsSign signs.Count c
      → IsNew source.text makers.Loop names n more → IsSign signs.Colon d → IsTerm source whole more ts a
      → IsTerm source whole names (c ∷ n ∷ d ∷ ts) (count a)
  -- "least" name ":" term: this word isn't reserved
  least_of : {names more : List Entry} {ts : List Token} {l n d : Token} {a : TermForm}
      → IsNameOf source.text (codes "least") l → IsNew source.text makers.Loop names n more → IsSign signs.Colon d
      → IsTerm source whole more ts a → IsTerm source whole names (l ∷ n ∷ d ∷ ts) (least a)
  -- "sorted" "[" place "]" name ":" term: the place is a constant, and can't use the name
  sorted_at : {names more : List Entry} {ks ts : List Token} {w o c n d : Token} {k a : TermForm}
      → IsSign signs.Sorted w → IsSign signs.OpenSquare o → IsTerm source whole names ks k → IsTrue (is_constant_form k)
      → IsSign signs.CloseSquare c → IsNew source.text makers.Loop names n more → IsSign signs.Colon d
      → IsTerm source whole more ts a → IsTerm source whole names (w ∷ o ∷ (ks ++ (c ∷ n ∷ d ∷ ts))) (sorted k a)
  -- a chain and one more operand: operators of one kind group from the left
  joined : {kind : Chain} {names : List Entry} {xs ys : List Token} {a b : TermForm} {joint : Joint} (o : Token)
      → IsTerm source (chain kind) names xs a → joint_of kind o.kind ≡ Some joint
      → IsTerm source (tighter (chain kind)) names ys b
      → IsTerm source (chain kind) names (xs ++ (o ∷ ys)) (join joint a b)
  -- "not" inverse
  not_so : {names : List Entry} {ts : List Token} {o : Token} {a : TermForm} → IsSign signs.Not o
      → IsTerm source inverted names ts a → IsTerm source inverted names (o ∷ ts) (inverse a)
  -- sum, one comparison, sum
  beside : {names : List Entry} {xs ys : List Token} {a b : TermForm} {comparison : Comparison} (o : Token)
      → IsTerm source (chain chains.Sum) names xs a → comparison_of o.kind ≡ Some comparison
      → IsTerm source (chain chains.Sum) names ys b
      → IsTerm source compared names (xs ++ (o ∷ ys)) (binary (Compare comparison) a b)
  -- leaf
  leaf : {names : List Entry} {t : Token} {a : TermForm} → IsLeaf source.text names t a
      → IsTerm source atom names (t ∷ []) a
  -- name "[" leaf "]": a table's cell
  looked_up : {names : List Entry} {n o t c : Token} {name : Name} {k : ℕ} {x : TermForm} → HasKind (Named name) n
      → meaning_of source.text names name ≡ Some (Table k) → IsSign signs.OpenSquare o → IsLeaf source.text names t x
      → IsSign signs.CloseSquare c
      → IsTerm source atom names (n ∷ o ∷ t ∷ c ∷ []) (table_term (table_at source.tables k) x)
  -- "mail" "[" term "]"
  received : {names : List Entry} {ts : List Token} {m o c : Token} {a : TermForm} → IsSign signs.Mail m
      → IsSign signs.OpenSquare o → IsTerm source whole names ts a → IsSign signs.CloseSquare c
      → IsTerm source atom names (m ∷ o ∷ (ts ++ (c ∷ []))) (message a)
  -- "(" term ")"
  bracketed : {names : List Entry} {ts : List Token} {o c : Token} {a : TermForm} → IsSign signs.Open o
      → IsTerm source whole names ts a → IsSign signs.Close c → IsTerm source atom names (o ∷ (ts ++ (c ∷ []))) a

-- ---- statements without blocks

-- what a token sets: the clock, or a name that is no node of a loop
pub data IsTarget (text : List ℕ) (names : List Entry) (t : Token) : Target → Type 0 where
  the_clock : IsSign signs.Clock t → IsTarget text names t (ToWord 0)
  a_let : {name : Name} {k : ℕ} → HasKind (Named name) t → meaning_of text names name ≡ Some (Local k)
      → IsTarget text names t (ToLocal k)
  a_word : {name : Name} {k : ℕ} → HasKind (Named name) t → meaning_of text names name ≡ Some (Word k)
      → IsTarget text names t (ToWord k)

-- target { "," target }: none of them twice
pub data AreTargets (text : List ℕ) (names : List Entry) : List Token → List Target → Type 0 where
  first_target : {t : Token} {target : Target} → IsTarget text names t target
      → AreTargets text names (t ∷ []) (target ∷ [])
  next_target : {ts : List Token} {c t : Token} {targets : List Target} {target : Target}
      → AreTargets text names ts targets → IsSign signs.Comma c → IsTarget text names t target
      → IsFalse (has_target targets target) → AreTargets text names (ts ++ (c ∷ t ∷ [])) (targets ++ (target ∷ []))

-- term { "," term }: one for each target
pub data AreTerms (source : SourceForm) (names : List Entry) : List Token → List Target → AssignmentForm → Type 0 where
  first_number : {ts : List Token} {target : Target} {e : TermForm} → IsTerm source whole names ts e
      → AreTerms source names ts (target ∷ []) (one target e)
  next_number : {ts us : List Token} {c : Token} {targets : List Target} {target : Target} {a : AssignmentForm}
      {e : TermForm} → AreTerms source names ts targets a → IsSign signs.Comma c → IsTerm source whole names us e
      → AreTerms source names (ts ++ (c ∷ us)) (targets ++ (target ∷ [])) (also a target e)

pub data IsAction (source : SourceForm) (names : List Entry) : List Token → StatementForm → Type 0 where
  -- "send" term
  sent : {ts : List Token} {s : Token} {e : TermForm} → IsSign signs.Send s → IsTerm source whole names ts e
      → IsAction source names (s ∷ ts) (send_all e)
  -- "send" term "to" term
  sent_to : {ts us : List Token} {s t : Token} {e k : TermForm} → IsSign signs.Send s → IsTerm source whole names ts e
      → IsSign signs.To t → IsTerm source whole names us k → IsAction source names (s ∷ (ts ++ (t ∷ us))) (send_to e k)
  -- targets "=" numbers
  set : {ts us : List Token} {b : Token} {targets : List Target} {a : AssignmentForm}
      → AreTargets source.text names ts targets → IsSign signs.Becomes b → AreTerms source names us targets a
      → IsAction source names (ts ++ (b ∷ us)) (assign a)

-- "let" name "=" term, and the names with its own: the term can't use it
pub record IsLet (source : SourceForm) (names : List Entry) (ts : List Token) (more : List Entry)
    (e : TermForm) : Type 0 where
  pub «let» : Token
  pub name : Token
  pub becomes : Token
  pub term : List Token
  pub tokens : ts ≡ «let» ∷ name ∷ becomes ∷ term
  pub is_let : IsSign signs.Let «let»
  pub is_new : IsNew source.text makers.Let names name more
  pub is_becomes : IsSign signs.Becomes becomes
  pub is_term : IsTerm source whole names term e

pub data IsSimple (source : SourceForm) (names : List Entry) : List Token → StatementForm → Type 0 where
  action : {ts : List Token} {a : StatementForm} → IsAction source names ts a → IsSimple source names ts a
  let_alone : {ts : List Token} {more : List Entry} {e : TermForm} → IsLet source names ts more e
      → IsSimple source names ts (let_in e nothing)

-- ---- statements and blocks

mutual
  -- the lines of a block, which begin in this column
  pub data IsBlock (source : SourceForm) : ℕ → List Entry → List Token → StatementForm → Type 0 where
    empty : {column : ℕ} {names : List Entry} → IsBlock source column names [] nothing
    -- a let, whose name the rest of the block can use
    let_line : {column : ℕ} {names more : List Entry} {ts us : List Token} {s : Token} {e : TermForm}
        {rest : StatementForm} → IsLineStart column s → IsLet source names ts more e
        → IsBlock source column more us rest
        → IsBlock source column names (s ∷ (ts ++ us)) (let_in e rest)
    line : {column : ℕ} {names : List Entry} {ts us : List Token} {s : Token} {a rest : StatementForm}
        → IsLineStart column s → IsStatement source column names ts a → IsBlock source column names us rest
        → IsBlock source column names (s ∷ (ts ++ us)) (sequence a rest)

  -- a statement of a line in this column
  pub data IsStatement (source : SourceForm) : ℕ → List Entry → List Token → StatementForm → Type 0 where
    does : {column : ℕ} {names : List Entry} {ts : List Token} {a : StatementForm} → IsAction source names ts a
        → IsStatement source column names ts a
    -- "for" name block
    loop : {column : ℕ} {names more : List Entry} {ts : List Token} {f n : Token} {body : StatementForm}
        → IsSign signs.For f → IsNew source.text makers.Loop names n more → IsBody source column more ts body
        → IsStatement source column names (f ∷ n ∷ ts) (each body)
    -- "if" cases
    case : {column : ℕ} {names : List Entry} {ts : List Token} {i : Token} {a : StatementForm} → IsSign signs.If i
        → AreCases source column names ts a → IsStatement source column names (i ∷ ts) a

  -- term block, and the cases that follow
  pub data AreCases (source : SourceForm) : ℕ → List Entry → List Token → StatementForm → Type 0 where
    cases : {column : ℕ} {names : List Entry} {ts us vs : List Token} {t : TermForm} {a b : StatementForm}
        → IsTerm source whole names ts t → IsBody source column names us a → IsOtherwise source column names vs b
        → AreCases source column names (ts ++ (us ++ vs)) (branch t a b)

  -- further cases: nothing, a line "elif" cases, or a line "else" block
  pub data IsOtherwise (source : SourceForm) : ℕ → List Entry → List Token → StatementForm → Type 0 where
    none : {column : ℕ} {names : List Entry} → IsOtherwise source column names [] nothing
    elif_line : {column : ℕ} {names : List Entry} {ts : List Token} {s e : Token} {a : StatementForm}
        → IsLineStart column s → IsSign signs.Elif e → AreCases source column names ts a
        → IsOtherwise source column names (s ∷ e ∷ ts) a
    else_line : {column : ℕ} {names : List Entry} {ts : List Token} {s e : Token} {a : StatementForm}
        → IsLineStart column s → IsSign signs.Else e → IsBody source column names ts a
        → IsOtherwise source column names (s ∷ e ∷ ts) a

  -- ":" and a simple statement on the same line, or at least one line further right
  pub data IsBody (source : SourceForm) : ℕ → List Entry → List Token → StatementForm → Type 0 where
    same_line : {column : ℕ} {names : List Entry} {ts : List Token} {c : Token} {a : StatementForm}
        → IsSign signs.Colon c → IsSimple source names ts a → IsBody source column names (c ∷ ts) a
    deeper : {column further : ℕ} {names : List Entry} {ts : List Token} {c s : Token} {a : StatementForm}
        → IsSign signs.Colon c → column < further → IsBlock source further names (s ∷ ts) a
        → IsBody source column names (c ∷ s ∷ ts) a

-- ---- rules

-- name { "," name }: words of the memory
pub data AreWords (text : List ℕ) : List Entry → List Token → List Entry → Type 0 where
  last_word : {names more : List Entry} {t : Token} → IsNew text makers.State names t more
      → AreWords text names (t ∷ []) more
  word_before : {names more all : List Entry} {ts : List Token} {t c : Token} → IsNew text makers.State names t more
      → IsSign signs.Comma c → AreWords text more ts all → AreWords text names (t ∷ c ∷ ts) all

-- number, or "none"
pub data IsCell (t : Token) : ℕ → Type 0 where
  a_number : {v : ℕ} → HasKind (Number v) t → IsCell t v
  no_message : IsSign signs.NoMessage t → IsCell t NO_MAIL

-- cell { "," cell }, after the first cells of a table; and all its cells
pub data AreCells : List ℕ → List Token → List ℕ → Type 0 where
  last_cell : {done : List ℕ} {t : Token} {v : ℕ} → IsCell t v → AreCells done (t ∷ []) (done ++ v ∷ [])
  cell_before : {done all : List ℕ} {ts : List Token} {t c : Token} {v : ℕ} → IsCell t v → IsSign signs.Comma c
      → AreCells (done ++ v ∷ []) ts all → AreCells done (t ∷ c ∷ ts) all

-- name "=" "[" cells "]": the header with a new table
pub record IsTableLine (text : List ℕ) (before : HeaderForm) (ts : List Token) (more : HeaderForm) : Type 0 where
  pub name : Token
  pub becomes : Token
  pub opening : Token
  pub inside : List Token
  pub closing : Token
  pub names : List Entry
  pub cells : List ℕ
  pub tokens : ts ≡ name ∷ becomes ∷ opening ∷ (inside ++ (closing ∷ []))
  pub is_new : IsNew text makers.Table before.names name names
  pub is_becomes : IsSign signs.Becomes becomes
  pub is_opening : IsSign signs.OpenSquare opening
  pub are_cells : AreCells [] inside cells
  pub is_closing : IsSign signs.CloseSquare closing
  pub added : more ≡ record { names = names; tables = before.tables ++ cells ∷ [] }

-- the lines of "state" and "table", after those before them; and what all of them name
pub data IsHeader (text : List ℕ) (column : ℕ) : HeaderForm → List Token → HeaderForm → Type 0 where
  no_line : {before : HeaderForm} → IsHeader text column before [] before
  state_line : {before all : HeaderForm} {names : List Entry} {ts us : List Token} {s w : Token}
      → IsLineStart column s → IsSign signs.State w → AreWords text before.names ts names
      → IsHeader text column (record { names = names; tables = before.tables }) us all
      → IsHeader text column before (s ∷ w ∷ (ts ++ us)) all
  table_line : {before more all : HeaderForm} {ts us : List Token} {s w : Token} → IsLineStart column s
      → IsSign signs.Table w → IsTableLine text before ts more → IsHeader text column more us all
      → IsHeader text column before (s ∷ w ∷ (ts ++ us)) all

-- the text spells the rule: its tokens are lines of "state" and "table", the lines of a block, and the end
pub record Spells (text : List ℕ) (rule : RuleForm) : Type 0 where
  pub column : ℕ
  pub named : HeaderForm
  pub header : List Token
  pub lines : List Token
  pub end : Token
  pub tokens : tokens_of text ≡ header ++ (lines ++ (end ∷ []))
  pub ends : HasKind TextEnd end
  pub is_header : IsHeader text column no_header header named
  pub is_block : IsBlock (source_with text named) column named.names lines rule.statement
  pub words : rule.words ≡ words_of named.names
