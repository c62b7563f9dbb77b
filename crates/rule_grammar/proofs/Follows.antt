-- What begins a statement, and what follows one.
use Rattle.std.proofs.Common.{◌≡◌, ℕ, suc, ◌<◌, ◌≤◌, List, [], ◌∷◌, ◌++◌, refl, sym, ap, subst, ◌∙◌, arith}
use Rattle.std.specs.Prelude.{false, None, Ok}
use Rattle.rule_syntax.specs.declared.syntax.Target.{Target}
use Rattle.rule_text.specs.declared.signs.Sign.{Sign}
use Rattle.rule_text.specs.declared.signs.Sign.TheVariants as signs
use Rattle.rule_text.specs.declared.lexemes.Kind.{Kind}
use Rattle.rule_text.specs.declared.lexemes.Kind.TheVariants.{Named, Mark, LineStart, TextEnd}
use Rattle.rule_text.specs.declared.lexemes.Token.{Token}
use Rattle.rule_text.specs.declared.scope.Entry.{Entry}
use Rattle.rule_text.specs.Forms.{TermForm, StatementForm, nothing}
use Rattle.rule_text.specs.Tables.{SourceForm}
use Rattle.rule_text.specs.Terms.{rest_after}
use Rattle.rule_text.specs.Statements.{simple_by, simple_read, assign_read, Inner, is_start, other_by, simple_line, statement_by, line_read}
use Rattle.rule_text.specs.Spelling as s
use Rattle.rule_grammar.proofs.Readings.{no_sign, Clear, First, first_is, first_more, first_up, first_clear}
use Rattle.rule_grammar.proofs.Levels.{Ends, ends_at, ends_clear}

-- ---- what begins a statement

-- 1 for a target, 2 for an action and 5 for a statement at most
abbrev pub sign_class : Sign → ℕ
sign_class signs.Clock = 1
sign_class signs.Send = 2
sign_class signs.Let = 3
sign_class signs.For = 4
sign_class signs.If = 5
sign_class a = 6

abbrev pub class : Kind → ℕ
class (Named name) = 1
class (Mark a) = sign_class a
class kind = 6

-- such a class begins these tokens
abbrev pub Leads : ℕ → List Token → Type 0
Leads most ts = First class most ts

pub class_start : (kind : Kind) → class kind ≤ 5 → is_start kind ≡ false
class_start LineStart h = absurd (omega arith)
class_start kind h = refl

module _ (text : List ℕ) where
  target_leads : (names : List Entry) (t : Token) (target : Target) (ts : List Token) → s.IsTarget text names t target
      → Leads 1 (t ∷ ts)
  target_leads names t target ts (s.the_clock h) = first_is class 1 (Mark signs.Clock) t ts h (omega arith)
  target_leads names t target ts (s.a_let {name = name} h e) = first_is class 1 (Named name) t ts h (omega arith)
  target_leads names t target ts (s.a_word {name = name} h e) = first_is class 1 (Named name) t ts h (omega arith)

  pub target_clear : (names : List Entry) (t : Token) (target : Target) (ts : List Token)
      → s.IsTarget text names t target → Clear (t ∷ ts)
  target_clear names t target ts h = first_clear class 1 (t ∷ ts) (target_leads names t target ts h) (λ e. omega arith)

  targets_lead : {names : List Entry} {ts : List Token} {targets : List Target} → s.AreTargets text names ts targets
      → Leads 1 ts
  targets_lead (s.first_target {t = t} {target = target} h) = target_leads _ t target [] h
  targets_lead (s.next_target {ts = ts} {c = c} {t = t} are comma is once) =
      first_more class 1 1 ts (c ∷ t ∷ []) (omega arith) (targets_lead are)

module _ (source : SourceForm) where
  action_leads : {names : List Entry} {ts : List Token} {a : StatementForm} → s.IsAction source names ts a → Leads 2 ts
  action_leads (s.sent {ts = ts} {s = t} h d) = first_is class 2 (Mark signs.Send) t ts h (omega arith)
  action_leads (s.sent_to {ts = ts} {us = us} {s = t} {t = o} h d to k) =
      first_is class 2 (Mark signs.Send) t (ts ++ (o ∷ us)) h (omega arith)
  action_leads (s.set {ts = ts} {us = us} {b = b} are becomes numbers) =
      first_more class 1 2 ts (b ∷ us) (omega arith) (targets_lead source.text are)

  let_leads : {names more : List Entry} {ts : List Token} {e : TermForm} → s.IsLet source names ts more e → Leads 5 ts
  let_leads l =
      let others = l.name ∷ l.becomes ∷ l.term in
      subst (Leads 5) (sym l.tokens) (first_is class 5 (Mark signs.Let) l.«let» others l.is_let (omega arith))

  pub simple_leads : {names : List Entry} {ts : List Token} {a : StatementForm} → s.IsSimple source names ts a
      → Leads 5 ts
  simple_leads (s.action {ts = ts} h) = first_up class 2 5 ts (omega arith) (action_leads h)
  simple_leads (s.let_alone l) = let_leads l

  statement_leads : {column : ℕ} {names : List Entry} {ts : List Token} {a : StatementForm}
      → s.IsStatement source column names ts a → Leads 5 ts
  statement_leads (s.does {ts = ts} h) = first_up class 2 5 ts (omega arith) (action_leads h)
  statement_leads (s.loop {ts = ts} {f = f} {n = n} h new body) =
      first_is class 5 (Mark signs.For) f (n ∷ ts) h (omega arith)
  statement_leads (s.case {ts = ts} {i = i} h others) = first_is class 5 (Mark signs.If) i ts h (omega arith)

  -- ---- how statements are told apart

  set_by : (names : List Entry) (kind : Kind) (t : Token) (ts : List Token) → class kind ≤ 1
      → simple_by source names kind t ts ≡ assign_read source names (t ∷ ts)
  set_by names (Mark signs.Let) t ts h = absurd (omega arith)
  set_by names (Mark signs.Send) t ts h = absurd (omega arith)
  set_by names kind t ts h = refl

  pub set_read : (names : List Entry) (ts rest : List Token) (targets : List Target)
      → s.AreTargets source.text names ts targets → simple_read source names (ts ++ rest)
      ≡ assign_read source names (ts ++ rest)
  set_read names ts rest targets are =
      let h = first_more class 1 1 ts rest (omega arith) (targets_lead source.text are) in
      ap (simple_read source names) h.split ∙ set_by names h.token.kind h.token h.others h.is
      ∙ sym (ap (assign_read source names) h.split)

  act_by : (inner : Inner) (room column : ℕ) (names : List Entry) (kind : Kind) (t : Token) (ts : List Token)
      → class kind ≤ 2
      → statement_by inner source room column names kind t ts ≡ simple_line inner source room column names (t ∷ ts)
  act_by inner room column names (Mark signs.Let) t ts h = absurd (omega arith)
  act_by inner room column names (Mark signs.For) t ts h = absurd (omega arith)
  act_by inner room column names (Mark signs.If) t ts h = absurd (omega arith)
  act_by inner room column names kind t ts h = refl

  pub act_line : (inner : Inner) (room column : ℕ) (names : List Entry) (ts rest : List Token) (a : StatementForm)
      → s.IsAction source names ts a
      → line_read inner source room column names (ts ++ rest) ≡ simple_line inner source room column names (ts ++ rest)
  act_line inner room column names ts rest a d =
      let h = first_more class 2 2 ts rest (omega arith) (action_leads d) in
      ap (line_read inner source room column names) h.split
      ∙ act_by inner room column names h.token.kind h.token h.others h.is
      ∙ sym (ap (simple_line inner source room column names) h.split)

  pub none_by : (inner : Inner) (room column : ℕ) (names : List Entry) (kind : Kind) (t u : Token) (us : List Token)
      → class kind ≤ 5 → other_by inner source room column names kind t u us ≡ Ok (nothing, t ∷ u ∷ us)
  none_by inner room column names (Mark signs.Elif) t u us h = absurd (omega arith)
  none_by inner room column names (Mark signs.Else) t u us h = absurd (omega arith)
  none_by inner room column names kind t u us h = refl

-- ---- what follows a block and a statement

-- the end of the text, or the start of a line further left than the column
pub data After (column : ℕ) : List Token → Type 0 where
  at_end : {t : Token} {ts : List Token} → s.HasKind TextEnd t → After column (t ∷ ts)
  at_left : {t : Token} {ts : List Token} → s.HasKind LineStart t → t.column < column → After column (t ∷ ts)

-- or a statement of the same column
pub data Next (column : ℕ) : List Token → Type 0 where
  block_ends : {ts : List Token} → After column ts → Next column ts
  at_line : {t : Token} {ts : List Token} → s.IsLineStart column t → Leads 5 ts → Next column (t ∷ ts)

pub after_right : (low high : ℕ) (ts : List Token) → low ≤ high → After low ts → After high ts
after_right low high ts less (at_end h) = at_end h
after_right low high ts less (at_left {t = t} h left) = at_left h (omega arith)

pub next_after : (column : ℕ) (ts : List Token) → Next column ts → After (suc column) ts
next_after column ts (block_ends h) = after_right column (suc column) ts (omega arith) h
next_after column ts (at_line {t = t} start leads) = at_left start.start (let at = start.at in omega arith)

pub after_ends : (column : ℕ) (ts : List Token) → After column ts → Ends s.whole ts
after_ends column ts (at_end {t = t} {ts = us} h) = ends_at s.whole TextEnd t us h (omega arith)
after_ends column ts (at_left {t = t} {ts = us} h left) = ends_at s.whole LineStart t us h (omega arith)

pub next_ends : (column : ℕ) (ts : List Token) → Next column ts → Ends s.whole ts
next_ends column ts h = after_ends (suc column) ts (next_after column ts h)

pub after_clear : (column : ℕ) (ts : List Token) → After column ts → Clear ts
after_clear column ts h = ends_clear s.whole ts (after_ends column ts h)

-- no sign is first
pub after_no : (a : Sign) (column : ℕ) (ts : List Token) → After column ts → rest_after a ts ≡ None
after_no a column ts (at_end {t = t} {ts = us} h) = no_sign a TextEnd t us h refl
after_no a column ts (at_left {t = t} {ts = us} h left) = no_sign a LineStart t us h refl

-- where a block begins, or its rest ends
pub block_next : {source : SourceForm} {column : ℕ} {names : List Entry} {ts : List Token} {a : StatementForm}
    → s.IsBlock source column names ts a → (rest : List Token) → After column rest → Next column (ts ++ rest)
block_next s.empty rest h = block_ends h
block_next {source} (s.let_line {ts = us} {us = vs} start l d) rest h =
    at_line start (first_more class 5 5 (us ++ vs) rest (omega arith)
    (first_more class 5 5 us vs (omega arith) (let_leads source l)))
block_next {source} (s.line {ts = us} {us = vs} start d others) rest h =
    at_line start (first_more class 5 5 (us ++ vs) rest (omega arith)
    (first_more class 5 5 us vs (omega arith) (statement_leads source d)))
