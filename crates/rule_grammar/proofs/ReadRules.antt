-- A rule that is spelled is read.
use Rattle.std.proofs.Common.{◌≡◌, ◌⊎◌, inl, inr, ℕ, ◌<◌, zero, suc, cond, List, [], ◌∷◌, ◌++◌, refl, sym, ap, subst, ◌∙◌, arith, append_assoc}
use Rattle.std.specs.Prelude.{Bool, false, Some, None, Result, Ok, Err}
use Rattle.rule_text.specs.declared.errors.RuleError.{RuleError}
use Rattle.rule_text.specs.declared.errors.RuleError.TheVariants.{TooLong}
use Rattle.rule_text.specs.declared.errors.ReadRuleError.{ReadRuleError}
use Rattle.rule_text.specs.declared.errors.ReadRuleError.TheVariants.{At}
use Rattle.rule_text.specs.declared.signs.Sign.{Sign}
use Rattle.rule_text.specs.declared.signs.Sign.TheVariants as signs
use Rattle.rule_text.specs.declared.lexemes.Kind.{Kind}
use Rattle.rule_text.specs.declared.lexemes.Kind.TheVariants.{Mark, TextEnd}
use Rattle.rule_text.specs.declared.lexemes.Token.{Token}
use Rattle.rule_text.specs.declared.layout.TheConstants.{MAX_LINES, MAX_LINE_TOKENS, MAX_TABLE_CELLS}
use Rattle.rule_text.specs.declared.scope.Entry.{Entry}
use Rattle.rule_text.specs.declared.scope.Maker.TheVariants as makers
use Rattle.rule_text.specs.declared.terms.TheConstants.{MAX_PARTS}
use Rattle.rule_text.specs.declared.statements.Layer.TheVariants.{Rest}
use Rattle.rule_text.specs.declared.statements.TheConstants.{MAX_STEPS}
use Rattle.rule_text.specs.Forms.{StatementForm, sequence, let_in}
use Rattle.rule_text.specs.Tables.{SourceForm, HeaderForm, no_header, source_with}
use Rattle.rule_text.specs.Tokens.{is_end}
use Rattle.rule_text.specs.Scopes.{◌>>=◌, told_instead, words_of}
use Rattle.rule_text.specs.Terms.{rest_after}
use Rattle.rule_text.specs.Statements.{lines_read, state_names_with, state_names, cell_read, cells_with, cells_read, table_read, after_heading, header_with, header_read, RuleForm, ended, first_column, rule_in, rule_read}
use Rattle.rule_text.specs.Spelling as s
use Rattle.rule_grammar.specs.Limits.{IsLimit, IsPastLimit}
use Rattle.rule_grammar.proofs.Readings.{Gives, found, stopped, bind, by_some, by_none, by_true, IsClear, Clear, limit_in, after_sign, wanted_sign, no_sign, first_no}
use Rattle.rule_grammar.proofs.ReadTerms.{new_gives}
use Rattle.rule_grammar.proofs.Follows.{class, After, at_end, at_left, Next, block_ends, at_line, next_after, after_clear, after_no, block_next}
use Rattle.rule_grammar.proofs.ReadBlocks.{is_line, line_test, other_kind, other_column, block_gives}

module _ (text : List ℕ) where
  -- ---- the names of words

  -- if there is a step left
  words_part : (names : List Entry) (ts : List Token) (y : List Entry × List Token) → Clear ts
      → ((left : ℕ) → Gives (state_names_with (state_names left text) text names ts) y) → (left : ℕ)
      → Gives (state_names left text names ts) y
  unfolding state_names
  words_part names ts y clear h zero = limit_in TooLong ts y (inr refl) clear
  words_part names ts y clear h (suc left) = h left

  new_clear : (names more : List Entry) (t : Token) (ts : List Token) → s.IsNew text makers.State names t more
      → Clear (t ∷ ts)
  new_clear names more t ts new = λ e. subst (λ (k : Kind). told_instead e k ≡ e) (sym new.named.is) refl

  words_give : {names all : List Entry} {ts : List Token} → s.AreWords text names ts all → (left : ℕ)
      (rest : List Token) → rest_after signs.Comma rest ≡ None → Gives (state_names left text names (ts ++ rest)) (all, rest)
  words_give (s.last_word {names = names} {more = more} {t = t} new) = λ left rest no_comma.
      words_part names (t ∷ rest) (more, rest) (new_clear names more t rest new)
      (λ n. bind _ (new_gives text makers.State names more t rest new) (by_none _ _ no_comma (found refl))) left
  words_give (s.word_before {names = names} {more = more} {all = all} {ts = ts} {t = t} {c = c} new comma d) =
      λ left rest no_comma.
      words_part names (t ∷ c ∷ (ts ++ rest)) (all, rest) (new_clear names more t (c ∷ (ts ++ rest)) new)
      (λ n. bind _ (new_gives text makers.State names more t (c ∷ (ts ++ rest)) new)
      (by_some _ _ (after_sign signs.Comma c (ts ++ rest) comma) (words_give d n rest no_comma))) left

  -- ---- cells

  cell_gives : (t : Token) (v : ℕ) (rest : List Token) → s.IsCell t v → Gives (cell_read (t ∷ rest)) (v, rest)
  cell_gives t v rest (s.a_number h) = rw h.is (found refl)
  cell_gives t v rest (s.no_message h) = rw h.is (found refl)

  cell_clear : (t : Token) (v : ℕ) → s.IsCell t v → IsClear t.kind
  cell_clear t v (s.a_number h) = λ e. subst (λ (k : Kind). told_instead e k ≡ e) (sym h.is) refl
  cell_clear t v (s.no_message h) = λ e. subst (λ (k : Kind). told_instead e k ≡ e) (sym h.is) refl

  -- if there is a step left
  cells_part : (done : List ℕ) (ts : List Token) (y : List ℕ × List Token) → Clear ts
      → ((left : ℕ) → Gives (cells_with (cells_read left) done ts) y) → (left : ℕ)
      → Gives (cells_read left done ts) y
  unfolding cells_read
  cells_part done ts y clear h zero = limit_in TooLong ts y (inr refl) clear
  cells_part done ts y clear h (suc left) = h left

  cells_give : {done all : List ℕ} {ts : List Token} → s.AreCells done ts all → (left : ℕ) (rest : List Token)
      → rest_after signs.Comma rest ≡ None → Gives (cells_read left done (ts ++ rest)) (all, rest)
  cells_give (s.last_cell {done = done} {t = t} {v = v} is) = λ left rest no_comma.
      cells_part done (t ∷ rest) (done ++ v ∷ [], rest) (cell_clear t v is)
      (λ n. bind _ (cell_gives t v rest is) (by_none _ _ no_comma (found refl))) left
  cells_give (s.cell_before {done = done} {all = all} {ts = ts} {t = t} {c = c} {v = v} is comma d) =
      λ left rest no_comma.
      cells_part done (t ∷ c ∷ (ts ++ rest)) (all, rest) (cell_clear t v is)
      (λ n. bind _ (cell_gives t v (c ∷ (ts ++ rest)) is)
      (by_some _ _ (after_sign signs.Comma c (ts ++ rest) comma) (cells_give d n rest no_comma))) left

  table_gives : (before more : HeaderForm) (ts rest : List Token) → s.IsTableLine text before ts more
      → Gives (table_read text before (ts ++ rest)) (more, rest)
  table_gives before more ts rest h =
      let others = h.closing ∷ rest in
      rw (h.tokens, h.added, append_assoc h.inside (h.closing ∷ []) rest)
      (bind _ (new_gives text makers.Table before.names h.names h.name (h.becomes ∷ h.opening ∷ (h.inside ++ others))
      h.is_new)
      (bind _ (wanted_sign signs.Becomes h.becomes (h.opening ∷ (h.inside ++ others)) h.is_becomes)
      (bind _ (wanted_sign signs.OpenSquare h.opening (h.inside ++ others) h.is_opening)
      (bind _ (cells_give h.are_cells MAX_TABLE_CELLS others
      (no_sign signs.Comma (Mark signs.CloseSquare) h.closing rest h.is_closing refl))
      (bind _ (wanted_sign signs.CloseSquare h.closing rest h.is_closing) (found refl))))))

  -- ---- the header

  heading_here : (a : Sign) (column : ℕ) (t w : Token) (ts : List Token) → s.IsLineStart column t → s.IsSign a w
      → after_heading a column (t ∷ w ∷ ts) ≡ Some ts
  heading_here a column t w ts start word =
      ap (λ (b : Bool). cond b (rest_after a (w ∷ ts)) None) (line_test column t start) ∙ after_sign a w ts word

  other_line : (a : Sign) (column : ℕ) (t : Token) (ts : List Token) → is_line column t ≡ false
      → after_heading a column (t ∷ ts) ≡ None
  other_line a column t ts e = ap (λ (b : Bool). cond b (rest_after a ts) None) e

  no_heading_in : (a : Sign) (column : ℕ) (ts : List Token) → 5 < class (Mark a) → Next column ts
      → after_heading a column ts ≡ None
  no_heading_in a column ts high (block_ends (at_end {t = t} {ts = us} h)) =
      other_line a column t us (other_kind column TextEnd t h refl)
  no_heading_in a column ts high (block_ends (at_left {t = t} {ts = us} h left)) =
      other_line a column t us (other_column column t h left)
  no_heading_in a column ts high (at_line {t = t} {ts = us} start leads) =
      ap (λ (b : Bool). cond b (rest_after a us) None) (line_test column t start) ∙ first_no class 5 a us leads high

  -- a line of "table" is none of "state"
  no_state : (column : ℕ) (t w : Token) (ts : List Token) → s.IsLineStart column t → s.IsSign signs.Table w
      → after_heading signs.State column (t ∷ w ∷ ts) ≡ None
  no_state column t w ts start table =
      ap (λ (b : Bool). cond b (rest_after signs.State (w ∷ ts)) None) (line_test column t start)
      ∙ no_sign signs.State (Mark signs.Table) w ts table refl

  header_after : {column : ℕ} {before all : HeaderForm} {ts : List Token} → s.IsHeader text column before ts all
      → (rest : List Token) → Next column rest → After (suc column) (ts ++ rest)
  header_after (s.no_line) rest next = next_after _ rest next
  header_after (s.state_line start state d others) rest next = at_left start.start (let at = start.at in omega arith)
  header_after (s.table_line start table d others) rest next = at_left start.start (let at = start.at in omega arith)

  -- if there is a step left
  header_part : (column : ℕ) (before : HeaderForm) (ts : List Token) (y : HeaderForm × List Token) → Clear ts
      → ((left : ℕ) → Gives (header_with (header_read left text column) text column before ts) y) → (left : ℕ)
      → Gives (header_read left text column before ts) y
  unfolding header_read
  header_part column before ts y clear h zero = limit_in TooLong ts y (inr refl) clear
  header_part column before ts y clear h (suc left) = h left

  line_clear : (column : ℕ) (t : Token) (ts : List Token) → s.IsLineStart column t → Clear (t ∷ ts)
  line_clear column t ts start =
      after_clear (suc column) (t ∷ ts) (at_left start.start (let at = start.at in omega arith))

  header_gives : {column : ℕ} {before all : HeaderForm} {ts : List Token} → s.IsHeader text column before ts all
      → (left : ℕ) (rest : List Token) → Next column rest
      → Gives (header_read left text column before (ts ++ rest)) (all, rest)
  header_gives {column} (s.no_line {before = before}) = λ left rest next.
      header_part column before rest (before, rest) (after_clear (suc column) rest (next_after column rest next))
      (λ n. by_none _ _ (no_heading_in signs.State column rest (omega arith) next)
      (by_none _ _ (no_heading_in signs.Table column rest (omega arith) next) (found refl))) left
  header_gives {column} (s.state_line {before = before} {all = all} {names = names} {ts = ts} {us = us} {s = t}
      {w = w} start state d others) = λ left rest next.
      let all_after = header_after others rest next in
      rw (append_assoc ts us rest)
      (header_part column before (t ∷ w ∷ (ts ++ (us ++ rest))) (all, rest)
      (line_clear column t (w ∷ (ts ++ (us ++ rest))) start)
      (λ n. by_some _ _ (heading_here signs.State column t w (ts ++ (us ++ rest)) start state)
      (bind _ (bind _ (words_give d MAX_LINE_TOKENS (us ++ rest)
      (after_no signs.Comma (suc column) (us ++ rest) all_after)) (found refl))
      (header_gives others n rest next))) left)
  header_gives {column} (s.table_line {before = before} {more = more} {all = all} {ts = ts} {us = us} {s = t} {w = w}
      start table d others) = λ left rest next.
      rw (append_assoc ts us rest)
      (header_part column before (t ∷ w ∷ (ts ++ (us ++ rest))) (all, rest)
      (line_clear column t (w ∷ (ts ++ (us ++ rest))) start)
      (λ n. by_none _ _ (no_state column t w (ts ++ (us ++ rest)) start table)
      (by_some _ _ (heading_here signs.Table column t w (ts ++ (us ++ rest)) start table)
      (bind _ (table_gives before more ts (us ++ rest) d) (header_gives others n rest next)))) left)

  -- ---- the rule

  ended_gives : (names : List Entry) (rule : RuleForm) (t : Token) → s.HasKind TextEnd t → rule.words ≡ words_of names
      → Gives (ended names rule.statement (t ∷ [])) rule
  ended_gives names rule t h words =
      by_true _ _ (ap is_end h.is)
      (found (ap (λ (n : ℕ). Ok (record { statement = rule.statement; words = n })) (sym words)))

  rule_gives : (column : ℕ) (named : HeaderForm) (header lines : List Token) (t : Token) (rule : RuleForm)
      → s.IsHeader text column no_header header named
      → s.IsBlock (source_with text named) column named.names lines rule.statement → s.HasKind TextEnd t
      → rule.words ≡ words_of named.names
      → Gives (header_read MAX_LINES text column no_header (header ++ (lines ++ (t ∷ [])))
      >>= λ h. lines_read MAX_STEPS (source_with text h.0) Rest MAX_PARTS column h.0.names h.1
      >>= λ a. ended h.0.names a.0 a.1) rule
  rule_gives column named header lines t rule heads block h words =
      let ending = at_end h in
      bind _ (header_gives heads MAX_LINES (lines ++ (t ∷ [])) (block_next block (t ∷ []) ending))
      (bind _ (block_gives (source_with text named) block MAX_STEPS MAX_PARTS (t ∷ []) ending)
      (ended_gives named.names rule t h words))

  -- the column is that of the first token, or no line has it
  block_column : {source : SourceForm} {column : ℕ} {names : List Entry} {lines : List Token} {a : StatementForm}
      → s.IsBlock source column names lines a → (rest : List Token)
      → s.IsBlock source (first_column (lines ++ rest)) names lines a
  block_column s.empty rest = s.empty
  block_column {source} (s.let_line {names = names} {ts = ts} {us = us} {s = t} {e = e} {rest = b} start l d) rest =
      subst (λ (c : ℕ). s.IsBlock source c names (t ∷ (ts ++ us)) (let_in e b)) (sym start.at) (s.let_line start l d)
  block_column {source} (s.line {names = names} {ts = ts} {us = us} {s = t} {a = a} {rest = b} start d others) rest =
      subst (λ (c : ℕ). s.IsBlock source c names (t ∷ (ts ++ us)) (sequence a b)) (sym start.at) (s.line start d others)

  record Placed (source : SourceForm) (column : ℕ) (names : List Entry) (before all : HeaderForm)
      (header lines : List Token) (a : StatementForm) : Type 0 where
    pub is_header : s.IsHeader text column before header all
    pub is_block : s.IsBlock source column names lines a

  placed : {source : SourceForm} {column : ℕ} {names : List Entry} {before all : HeaderForm} {header : List Token}
      → s.IsHeader text column before header all → (lines rest : List Token) (a : StatementForm)
      → s.IsBlock source column names lines a
      → Placed source (first_column (header ++ (lines ++ rest))) names before all header lines a
  placed (s.no_line) lines rest a block = record { is_header = s.no_line; is_block = block_column block rest }
  placed {source} {column} {names} {before} {all} {header} (s.state_line start state d others) lines rest a block =
      subst (λ (c : ℕ). Placed source c names before all header lines a) (sym start.at)
      (record { is_header = s.state_line start state d others; is_block = block })
  placed {source} {column} {names} {before} {all} {header} (s.table_line start table d others) lines rest a block =
      subst (λ (c : ℕ). Placed source c names before all header lines a) (sym start.at)
      (record { is_header = s.table_line start table d others; is_block = block })

  pub spelled_gives : (rule : RuleForm) → s.Spells text rule → Gives (rule_read text) rule
  spelled_gives rule h =
      let at = placed h.is_header h.lines (h.end ∷ []) rule.statement h.is_block in
      subst (λ (ts : List Token). Gives (rule_in text ts) rule) (sym h.tokens)
      (rule_gives (first_column (h.header ++ (h.lines ++ (h.end ∷ [])))) h.named h.header h.lines h.end rule
      at.is_header at.is_block h.ends h.words)

-- ---- the clauses

or_limit : (r : Result RuleForm ReadRuleError) (rule : RuleForm) → Gives r rule → (r ≡ Ok rule) ⊎ IsPastLimit r
or_limit r rule (found e) = inl e
or_limit r rule (stopped h) = inr (h.error, h.line, h.column, h.limit, h.is)

pub spelled_read : (text : List ℕ) (rule : RuleForm) → s.Spells text rule
    → (rule_read text ≡ Ok rule) ⊎ IsPastLimit (rule_read text)
spelled_read text rule h = or_limit (rule_read text) rule (spelled_gives text rule h)

-- another error is no limit
other_error : (r : Result RuleForm ReadRuleError) (rule : RuleForm) (error : RuleError) (line column : ℕ)
    → r ≡ Err (At error line column) → (IsLimit error → ⊥) → (r ≡ Ok rule) ⊎ IsPastLimit r → ⊥
other_error r rule error line column e other (inl is) = let no : Ok rule ≡ Err (At error line column) = sym is ∙ e in cc
other_error r rule error line column e other (inr h) =
    let same = sym h.4 ∙ e in
    let same_error : h.0 ≡ error = cc in
    other (subst IsLimit same_error h.3)

pub spelled_not_rejected : (text : List ℕ) (error : RuleError) (line column : ℕ)
    → rule_read text ≡ Err (At error line column) → (IsLimit error → ⊥) → (rule : RuleForm) → s.Spells text rule → ⊥
spelled_not_rejected text error line column e other rule h =
    other_error (rule_read text) rule error line column e other (spelled_read text rule h)

same_rule : (r : Result RuleForm ReadRuleError) (a b : RuleForm) → (IsPastLimit r → ⊥) → (r ≡ Ok a) ⊎ IsPastLimit r
    → (r ≡ Ok b) ⊎ IsPastLimit r → a ≡ b
same_rule r a b within (inl e) (inl f) = let same : Ok a ≡ Ok b = sym e ∙ f in cc
same_rule r a b within (inr h) g = absurd (within h)
same_rule r a b within (inl e) (inr h) = absurd (within h)

pub spelled_once : (text : List ℕ) (a b : RuleForm) → s.Spells text a → s.Spells text b
    → (IsPastLimit (rule_read text) → ⊥) → a ≡ b
spelled_once text a b h g within =
    same_rule (rule_read text) a b within (spelled_read text a h) (spelled_read text b g)
