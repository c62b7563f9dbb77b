-- A statement or a block that is spelled is read.
use Rattle.std.proofs.Common.{◌≡◌, inl, inr, ℕ, zero, suc, ◌-◌, ◌<◌, cond, List, [], ◌∷◌, ◌++◌, refl, sym, ap, subst, ◌∙◌, arith, append_assoc, lt-ltb, le-ltb, eq-eqb, ne_eqb}
use Rattle.std.specs.Prelude.{◌==◌, ◌&&◌, Bool, true, false, Result}
use Rattle.std.proofs.lemmas.Bool.{lt-leb}
use Rattle.rule_text.specs.declared.errors.RuleError.TheVariants.{TooDeep, TooLong}
use Rattle.rule_text.specs.declared.errors.ReadRuleError.{ReadRuleError}
use Rattle.rule_text.specs.declared.signs.Sign.TheVariants as signs
use Rattle.rule_text.specs.declared.lexemes.Kind.{Kind}
use Rattle.rule_text.specs.declared.lexemes.Kind.TheVariants.{Mark, LineStart, TextEnd}
use Rattle.rule_text.specs.declared.lexemes.Token.{Token}
use Rattle.rule_text.specs.declared.scope.Entry.{Entry}
use Rattle.rule_text.specs.declared.scope.Maker.TheVariants as makers
use Rattle.rule_text.specs.declared.statements.Layer.TheVariants.{Rest, Branch}
use Rattle.rule_text.specs.Forms.{StatementForm, nothing, sequence, let_in, branch}
use Rattle.rule_text.specs.Tables.{SourceForm}
use Rattle.rule_text.specs.Scopes.{told_instead}
use Rattle.rule_text.specs.Statements.{simple_read, Inner, is_start, block_read, body_read, other_read, branch_read, followed, line_read, rest_read, lines_read}
use Rattle.rule_text.specs.Spelling as s
use Rattle.rule_grammar.proofs.Readings.{Gives, found, bind, by_true, by_false, IsClear, Clear, limit_at, limit_in, wanted_sign, first_more}
use Rattle.rule_grammar.proofs.Levels.{Ends, ends_at, term_clear}
use Rattle.rule_grammar.proofs.ReadTerms.{new_gives, term_gives}
use Rattle.rule_grammar.proofs.Follows.{class, class_start, simple_leads, act_line, none_by, After, at_end, at_left, Next, block_ends, at_line, after_right, next_after, next_ends, after_clear, block_next}
use Rattle.rule_grammar.proofs.ReadActions.{action_gives, let_line_gives, simple_gives}

-- ---- starts of lines

start_clear : {column : ℕ} {t : Token} → s.IsLineStart column t → IsClear t.kind
start_clear start = λ e. subst (λ (k : Kind). told_instead e k ≡ e) (sym start.start.is) refl

-- the test of the start of a line of this column
abbrev pub is_line : ℕ → Token → Bool
is_line column t = is_start t.kind && (t.column == column)

pub line_test : (column : ℕ) (t : Token) → s.IsLineStart column t → is_line column t ≡ true
line_test column t start =
    ap (λ (k : Kind). is_start k && (t.column == column)) start.start.is ∙ eq-eqb t.column column start.at

pub other_kind : (column : ℕ) (kind : Kind) (t : Token) → s.HasKind kind t → is_start kind ≡ false
    → is_line column t ≡ false
other_kind column kind t h e =
    ap (λ (k : Kind). is_start k && (t.column == column)) h.is ∙ ap (λ (b : Bool). b && (t.column == column)) e

pub other_column : (column : ℕ) (t : Token) → s.HasKind LineStart t → t.column < column → is_line column t ≡ false
other_column column t h left =
    ap (λ (k : Kind). is_start k && (t.column == column)) h.is ∙ ne_eqb t.column column (λ e. omega arith)

module _ (source : SourceForm) where
  -- ---- steps from line to line

  -- if there is a step left
  rest_part : (room column : ℕ) (names : List Entry) (ts : List Token) (y : StatementForm × List Token) → Clear ts
      → ((left : ℕ) → Gives (rest_read (lines_read left source) source room column names ts) y) → (left : ℕ)
      → Gives (lines_read left source Rest room column names ts) y
  unfolding lines_read
  rest_part room column names ts y clear h zero = limit_in TooLong ts y (inr refl) clear
  rest_part room column names ts y clear h (suc left) = h left

  branch_part : (room column : ℕ) (names : List Entry) (ts : List Token) (y : StatementForm × List Token) → Clear ts
      → ((left : ℕ) → Gives (branch_read (lines_read left source) source room column names ts) y) → (left : ℕ)
      → Gives (lines_read left source Branch room column names ts) y
  unfolding lines_read
  branch_part room column names ts y clear h zero = limit_in TooLong ts y (inr refl) clear
  branch_part room column names ts y clear h (suc left) = h left

  -- ---- lines of a block

  -- nothing more
  ended_gives : (inner : Inner) (room column : ℕ) (names : List Entry) (rest : List Token) → After column rest
      → Gives (rest_read inner source room column names rest) (nothing, rest)
  ended_gives inner room column names rest (at_end h) = rw h.is (found refl)
  ended_gives inner room column names rest (at_left {t = t} h left) =
      rw h.is (by_true _ _ (lt-ltb t.column column left) (found refl))

  -- after the start of a line of this column
  started : (inner : Inner) (room column : ℕ) (names : List Entry) (t : Token) (ts : List Token)
      (y : StatementForm × List Token) → s.IsLineStart column t → Gives (line_read inner source room column names ts) y
      → Gives (rest_read inner source room column names (t ∷ ts)) y
  started inner room column names t ts y start h =
      let at = start.at in
      rw start.start.is
      (by_false _ _ (le-ltb t.column column (omega arith)) (by_false _ _ (le-ltb column t.column (omega arith)) h))

  -- a line, and the rest of its block
  line_gives : (room column : ℕ) (names : List Entry) (t : Token) (ts : List Token) (y : StatementForm × List Token)
      → s.IsLineStart column t → ((left : ℕ) → Gives (line_read (lines_read left source) source room column names ts) y)
      → (left : ℕ) → Gives (lines_read left source Rest room column names (t ∷ ts)) y
  line_gives room column names t ts y start h left =
      rest_part room column names (t ∷ ts) y (start_clear start)
      (λ n. started (lines_read n source) room column names t ts y start (h n)) left

  -- the first token of a block
  abbrev StartsIn : ℕ → List Token → Type 0
  StartsIn column [] = Unit {0}
  StartsIn column (t ∷ ts) = s.IsLineStart column t

  block_start : {column : ℕ} {names : List Entry} {ts : List Token} {a : StatementForm}
      → s.IsBlock source column names ts a → StartsIn column ts
  block_start s.empty = tt
  block_start (s.let_line start l d) = start
  block_start (s.line start d others) = start

  does_gives : (inner : Inner) (room column : ℕ) (names : List Entry) (ts rest : List Token) (a : StatementForm)
      (y : StatementForm × List Token) → s.IsAction source names ts a → Next column rest
      → Gives (followed inner room column names a rest) y
      → Gives (line_read inner source room column names (ts ++ rest)) y
  does_gives inner room column names ts rest a y d next k =
      rw (act_line source inner room column names ts rest a d)
      (bind _ (action_gives source names d rest (next_after column rest next)) k)

  -- ---- bodies

  body_ends : {column : ℕ} {names : List Entry} {ts : List Token} {a : StatementForm}
      → s.IsBody source column names ts a → (rest : List Token) → Ends s.whole (ts ++ rest)
  body_ends (s.same_line {ts = ts} {c = c} colon d) rest =
      ends_at s.whole (Mark signs.Colon) c (ts ++ rest) colon (omega arith)
  body_ends (s.deeper {ts = ts} {c = c} {s = t} colon further d) rest =
      ends_at s.whole (Mark signs.Colon) c (t ∷ (ts ++ rest)) colon (omega arith)

  same_line_gives : (inner : Inner) (room column : ℕ) (names : List Entry) (ts rest : List Token) (a : StatementForm)
      → s.IsSimple source names ts a → After (suc column) rest
      → Gives (block_read inner source room column names (ts ++ rest)) (a, rest)
  same_line_gives inner room column names ts rest a d h =
      let leads = first_more class 5 5 ts rest (omega arith) (simple_leads source d) in
      let simple = simple_gives source names d rest h in
      rw leads.split (by_false _ _ (class_start leads.token.kind leads.is)
      (subst (λ (us : List Token). Gives (simple_read source names us) (a, rest)) leads.split simple))

  -- the room for blocks may be used up
  by_either : {B : Type 0} {y : B} (b : Bool) (first other : Result B ReadRuleError) → Gives first y → Gives other y
      → Gives (cond b first other) y
  by_either true first other g h = g
  by_either false first other g h = h

  deeper_gives : (inner : Inner) (room column further : ℕ) (names : List Entry) (t : Token) (ts : List Token)
      (y : StatementForm × List Token) → s.IsLineStart further t → column < further
      → Gives (inner Rest (room - 1) further names (t ∷ ts)) y
      → Gives (block_read inner source room column names (t ∷ ts)) y
  deeper_gives inner room column further names t ts y start less h =
      let at = start.at in
      by_true _ _ (ap is_start start.start.is)
      (by_false _ _ (lt-leb t.column column (omega arith))
      (by_either (room == 0) _ _ (limit_at TooDeep t y (inl refl) (start_clear start))
      (subst (λ (c : ℕ). Gives (inner Rest (room - 1) c names (t ∷ ts)) y) (sym start.at) h)))

  -- ---- what is done otherwise

  other_none : (inner : Inner) (room column : ℕ) (names : List Entry) (t : Token) (ts : List Token)
      → is_line column t ≡ false → Gives (other_read inner source room column names (t ∷ ts)) (nothing, t ∷ ts)
  other_none inner room column names t [] e = found refl
  other_none inner room column names t (u ∷ us) e = by_false _ _ e (found refl)

  none_gives : (inner : Inner) (room column : ℕ) (names : List Entry) (rest : List Token) → Next column rest
      → Gives (other_read inner source room column names rest) (nothing, rest)
  none_gives inner room column names rest (block_ends (at_end {t = t} {ts = ts} h)) =
      other_none inner room column names t ts (other_kind column TextEnd t h refl)
  none_gives inner room column names rest (block_ends (at_left {t = t} {ts = ts} h left)) =
      other_none inner room column names t ts (other_column column t h left)
  none_gives inner room column names rest (at_line {t = t} {ts = ts} start leads) =
      rw leads.split
      (by_true _ _ (line_test column t start)
      (found (none_by source inner room column names leads.token.kind t leads.token leads.others leads.is)))

  otherwise_after : {column : ℕ} {names : List Entry} {ts : List Token} {a : StatementForm}
      → s.IsOtherwise source column names ts a → (rest : List Token) → Next column rest
      → After (suc column) (ts ++ rest)
  otherwise_after s.none rest h = next_after _ rest h
  otherwise_after (s.elif_line start e d) rest h = at_left start.start (let at = start.at in omega arith)
  otherwise_after (s.else_line start e d) rest h = at_left start.start (let at = start.at in omega arith)

  -- ---- every block

  abbrev BlockGives : ℕ → List Entry → List Token → StatementForm → Type 0
  BlockGives column names ts a = (left room : ℕ) (rest : List Token) → After column rest
      → Gives (lines_read left source Rest room column names (ts ++ rest)) (a, rest)

  abbrev StatementGives : ℕ → List Entry → List Token → StatementForm → Type 0
  StatementGives column names ts a = (left room : ℕ) (rest : List Token) (y : StatementForm × List Token)
      → Next column rest → Gives (followed (lines_read left source) room column names a rest) y
      → Gives (line_read (lines_read left source) source room column names (ts ++ rest)) y

  abbrev CasesGive : ℕ → List Entry → List Token → StatementForm → Type 0
  CasesGive column names ts a = (left room : ℕ) (rest : List Token) → Next column rest
      → Gives (lines_read left source Branch room column names (ts ++ rest)) (a, rest)

  abbrev OtherwiseGives : ℕ → List Entry → List Token → StatementForm → Type 0
  OtherwiseGives column names ts a = (left room : ℕ) (rest : List Token) → Next column rest
      → Gives (other_read (lines_read left source) source room column names (ts ++ rest)) (a, rest)

  abbrev BodyGives : ℕ → List Entry → List Token → StatementForm → Type 0
  BodyGives column names ts a = (left room : ℕ) (rest : List Token) → After (suc column) rest
      → Gives (body_read (lines_read left source) source room column names (ts ++ rest)) (a, rest)

  mutual
    pub block_gives : {column : ℕ} {names : List Entry} {ts : List Token} {a : StatementForm}
        → s.IsBlock source column names ts a → BlockGives column names ts a
    block_gives (s.empty {column = column} {names = names}) = λ left room rest ending.
        rest_part room column names rest (nothing, rest) (after_clear column rest ending)
        (λ n. ended_gives (lines_read n source) room column names rest ending) left
    block_gives (s.let_line {column = column} {names = names} {more = more} {ts = ts} {us = us} {s = t} {e = e}
        {rest = b} start l d) = λ left room rest ending.
        let others = us ++ rest in
        rw (append_assoc ts us rest)
        (line_gives room column names t (ts ++ others) (let_in e b, rest) start
        (λ n. let_line_gives source names (lines_read n source) room column more ts others e (b, rest) l
        (next_ends column others (block_next d rest ending)) (block_gives d n room rest ending)) left)
    block_gives (s.line {column = column} {names = names} {ts = ts} {us = us} {s = t} {a = a} {rest = b}
        start d others) = λ left room rest ending.
        rw (append_assoc ts us rest)
        (line_gives room column names t (ts ++ (us ++ rest)) (sequence a b, rest) start
        (λ n. statement_gives d n room (us ++ rest) (sequence a b, rest) (block_next others rest ending)
        (bind _ (block_gives others n room rest ending) (found refl))) left)

    statement_gives : {column : ℕ} {names : List Entry} {ts : List Token} {a : StatementForm}
        → s.IsStatement source column names ts a → StatementGives column names ts a
    statement_gives (s.does {column = column} {names = names} {ts = ts} {a = a} d) = λ left room rest y next k.
        does_gives (lines_read left source) room column names ts rest a y d next k
    statement_gives (s.loop {column = column} {names = names} {more = more} {ts = ts} {f = f} {n = n} is_for new d) =
        λ left room rest y next k.
        rw is_for.is
        (bind _ (new_gives source.text makers.Loop names more n (ts ++ rest) new)
        (bind _ (body_gives d left room rest (next_after column rest next)) k))
    statement_gives (s.case {column = column} {names = names} {ts = ts} {i = i} is_if d) = λ left room rest y next k.
        rw is_if.is (bind _ (cases_give d left room rest next) k)

    cases_give : {column : ℕ} {names : List Entry} {ts : List Token} {a : StatementForm}
        → s.AreCases source column names ts a → CasesGive column names ts a
    cases_give (s.cases {column = column} {names = names} {ts = ts} {us = us} {vs = vs} {t = t} {a = a} {b = b}
        d body other) = λ left room rest next.
        let others = us ++ (vs ++ rest) in
        rw (append_assoc ts (us ++ vs) rest, append_assoc us vs rest)
        (branch_part room column names (ts ++ others) (branch t a b, rest) (term_clear d others)
        (λ n. bind _ (term_gives source d others (body_ends body (vs ++ rest)))
        (bind _ (body_gives body n room (vs ++ rest) (otherwise_after other rest next))
        (bind _ (otherwise_gives other n room rest next) (found refl)))) left)

    otherwise_gives : {column : ℕ} {names : List Entry} {ts : List Token} {a : StatementForm}
        → s.IsOtherwise source column names ts a → OtherwiseGives column names ts a
    otherwise_gives (s.none {column = column} {names = names}) = λ left room rest next.
        none_gives (lines_read left source) room column names rest next
    otherwise_gives (s.elif_line {column = column} {names = names} {ts = ts} {s = t} {e = e} {a = a} start is_elif d) =
        λ left room rest next.
        by_true _ _ (line_test column t start) (rw is_elif.is (cases_give d left room rest next))
    otherwise_gives (s.else_line {column = column} {names = names} {ts = ts} {s = t} {e = e} {a = a} start is_else d) =
        λ left room rest next.
        by_true _ _ (line_test column t start)
        (rw is_else.is (body_gives d left room rest (next_after column rest next)))

    body_gives : {column : ℕ} {names : List Entry} {ts : List Token} {a : StatementForm}
        → s.IsBody source column names ts a → BodyGives column names ts a
    body_gives (s.same_line {column = column} {names = names} {ts = ts} {c = c} {a = a} colon d) =
        λ left room rest ending.
        bind _ (wanted_sign signs.Colon c (ts ++ rest) colon)
        (same_line_gives (lines_read left source) room column names ts rest a d ending)
    body_gives (s.deeper {column = column} {further = further} {names = names} {ts = ts} {c = c} {s = t} {a = a}
        colon less d) = λ left room rest ending.
        bind _ (wanted_sign signs.Colon c (t ∷ (ts ++ rest)) colon)
        (deeper_gives (lines_read left source) room column further names t (ts ++ rest) (a, rest) (block_start d) less
        (block_gives d left (room - 1) rest (after_right (suc column) further rest (omega arith) ending)))
