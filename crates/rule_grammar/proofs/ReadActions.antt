-- An action, a let or a simple statement that is spelled is read.
use Rattle.std.proofs.Common.{◌≡◌, inr, ℕ, zero, suc, cond, List, [], ◌∷◌, ◌++◌, refl, ap, subst, ◌∙◌, arith, append_assoc, append-nil}
use Rattle.std.specs.Prelude.{Bool, false, Option, Some, None, Ok, Err}
use Rattle.rule_syntax.specs.declared.syntax.Target.{Target}
use Rattle.rule_text.specs.declared.errors.RuleError.TheVariants.{NameTwice, TooLong}
use Rattle.rule_text.specs.declared.signs.Sign.TheVariants as signs
use Rattle.rule_text.specs.declared.lexemes.Kind.{Kind}
use Rattle.rule_text.specs.declared.lexemes.Kind.TheVariants.{Mark}
use Rattle.rule_text.specs.declared.lexemes.Token.{Token}
use Rattle.rule_text.specs.declared.layout.TheConstants.{MAX_LINE_TOKENS}
use Rattle.rule_text.specs.declared.scope.Meaning.{Meaning}
use Rattle.rule_text.specs.declared.scope.Entry.{Entry}
use Rattle.rule_text.specs.declared.scope.Maker.TheVariants as makers
use Rattle.rule_text.specs.declared.statements.Layer.TheVariants.{Rest}
use Rattle.rule_text.specs.Forms.{TermForm, AssignmentForm, StatementForm, let_in, assign}
use Rattle.rule_text.specs.Tables.{SourceForm}
use Rattle.rule_text.specs.Scopes.{Reading, ◌>>=◌, rule_error_at}
use Rattle.rule_text.specs.Terms.{rest_after, wanted}
use Rattle.rule_text.specs.Statements.{target_meant, target_by, has_target, new_target, targets_read, values_read, numbers_read, assign_read, let_read, simple_read, Inner, line_read}
use Rattle.rule_text.specs.Spelling as s
use Rattle.rule_grammar.proofs.Readings.{Gives, found, bind, by_some, by_none, limit_in, after_sign, wanted_sign, no_sign}
use Rattle.rule_grammar.proofs.Levels.{Ends, ends_at}
use Rattle.rule_grammar.proofs.ReadTerms.{new_gives, term_gives}
use Rattle.rule_grammar.proofs.Follows.{target_clear, set_read, After, after_ends, after_no}

module _ (text : List ℕ) (names : List Entry) where
  -- ---- targets

  target_read : (t : Token) (target : Target) → s.IsTarget text names t target
      → target_by text names t.kind t ≡ Ok target
  target_read t target (s.the_clock h) = ap (λ (k : Kind). target_by text names k t) h.is
  target_read t target (s.a_let {name = name} h e) =
      ap (λ (k : Kind). target_by text names k t) h.is ∙ ap (λ (o : Option Meaning). target_meant o t) e
  target_read t target (s.a_word {name = name} h e) =
      ap (λ (k : Kind). target_by text names k t) h.is ∙ ap (λ (o : Option Meaning). target_meant o t) e

  one_target : (done : List Target) (target : Target) (t : Token) (rest : List Token) → s.IsTarget text names t target
      → has_target done target ≡ false
      → Gives (new_target text names done (t ∷ rest)) (done ++ (target ∷ []), rest)
  one_target done target t rest h once =
      bind _ (bind _ (found (target_read t target h))
      (found (ap (λ (b : Bool). cond b (Err (rule_error_at NameTwice t)) (Ok (done ++ (target ∷ [])))) once))) (found refl)

  -- after a target: further ones, or the "=" that follows them
  abbrev further : ℕ → List Target → List Token → Reading (List Target)
  further left targets ts = elim (rest_after signs.Comma ts) [
    | Some rest ↦ targets_read left text names targets rest
    | None ↦ wanted signs.Becomes ts >>= λ rest. Ok (targets, rest)
  ]

  -- a target, which isn't among those before it, and what follows it
  next_gives : (left : ℕ) (done : List Target) (target : Target) (t : Token) (rest : List Token)
      (y : List Target × List Token) → s.IsTarget text names t target → has_target done target ≡ false
      → ((left : ℕ) → Gives (further left (done ++ (target ∷ [])) rest) y)
      → Gives (targets_read left text names done (t ∷ rest)) y
  unfolding targets_read
  next_gives zero done target t rest y h once k =
      limit_in TooLong (t ∷ rest) y (inr refl) (target_clear text names t target rest h)
  next_gives (suc left) done target t rest y h once k = bind _ (one_target done target t rest h once) (k left)

  targets_give : {ts : List Token} {targets : List Target} → s.AreTargets text names ts targets → (left : ℕ)
      (rest : List Token) (y : List Target × List Token) → ((left : ℕ) → Gives (further left targets rest) y)
      → Gives (targets_read left text names [] (ts ++ rest)) y
  targets_give (s.first_target {t = t} {target = target} h) = λ left rest y k.
      next_gives left [] target t rest y h refl k
  targets_give (s.next_target {ts = ts} {c = c} {t = t} {targets = targets} {target = target} are comma h once) =
      λ left rest y k. rw (append_assoc ts (c ∷ t ∷ []) rest)
      (targets_give are left (c ∷ t ∷ rest) y
      (λ n. by_some _ _ (after_sign signs.Comma c (t ∷ rest) comma) (next_gives n targets target t rest y h once k)))

module _ (source : SourceForm) (names : List Entry) where
  -- ---- numbers

  -- the first numbers, where those of more targets are read after them
  numbers_give : {ts : List Token} {targets : List Target} {a : AssignmentForm}
      → s.AreTerms source names ts targets a → (more : List Target) (rest : List Token)
      (y : AssignmentForm × List Token) → Ends s.whole rest → Gives (values_read source names a more rest) y
      → Gives (numbers_read source names (targets ++ more) (ts ++ rest)) (assign y.0, y.1)
  numbers_give (s.first_number {ts = ts} {target = target} {e = e} d) = λ more rest y ends h.
      bind _ (term_gives source d rest ends) (bind _ h (found refl))
  numbers_give (s.next_number {ts = ts} {us = us} {c = c} {targets = targets} {target = target} {a = a} {e = e}
      are comma d) = λ more rest y ends h.
      rw (append_assoc ts (c ∷ us) rest, append_assoc targets (target ∷ []) more)
      (numbers_give are (target ∷ more) (c ∷ (us ++ rest)) y
      (ends_at s.whole (Mark signs.Comma) c (us ++ rest) comma (omega arith))
      (bind _ (wanted_sign signs.Comma c (us ++ rest) comma) (bind _ (term_gives source d rest ends) h)))

  all_numbers : (ts rest : List Token) (targets : List Target) (a : AssignmentForm)
      → s.AreTerms source names ts targets a → Ends s.whole rest
      → Gives (numbers_read source names targets (ts ++ rest)) (assign a, rest)
  all_numbers ts rest targets a are ends =
      subst (λ (l : List Target). Gives (numbers_read source names l (ts ++ rest)) (assign a, rest))
      (append-nil targets)
      (numbers_give are [] rest (a, rest) ends (found refl))

  assign_gives : (ts us rest : List Token) (b : Token) (targets : List Target) (a : AssignmentForm)
      → s.AreTargets source.text names ts targets → s.IsSign signs.Becomes b → s.AreTerms source names us targets a
      → Ends s.whole rest → Gives (assign_read source names (ts ++ (b ∷ (us ++ rest)))) (assign a, rest)
  assign_gives ts us rest b targets a are becomes numbers ends =
      bind _ (targets_give source.text names are MAX_LINE_TOKENS (b ∷ (us ++ rest)) (targets, us ++ rest)
      (λ left. by_none _ _ (no_sign signs.Comma (Mark signs.Becomes) b (us ++ rest) becomes refl)
      (bind _ (wanted_sign signs.Becomes b (us ++ rest) becomes) (found refl))))
      (all_numbers us rest targets a numbers ends)

  -- ---- actions

  pub action_gives : {ts : List Token} {a : StatementForm} {column : ℕ} → s.IsAction source names ts a
      → (rest : List Token) → After column rest → Gives (simple_read source names (ts ++ rest)) (a, rest)
  action_gives {column = column} (s.sent h d) rest ending =
      rw h.is
      (bind _ (term_gives source d rest (after_ends column rest ending))
      (by_none _ _ (after_no signs.To column rest ending) (found refl)))
  action_gives {column = column} (s.sent_to {ts = ts} {us = us} {t = o} h d to other) rest ending =
      rw (h.is, append_assoc ts (o ∷ us) rest)
      (bind _ (term_gives source d (o ∷ (us ++ rest)) (ends_at s.whole (Mark signs.To) o (us ++ rest) to (omega arith)))
      (by_some _ _ (after_sign signs.To o (us ++ rest) to)
      (bind _ (term_gives source other rest (after_ends column rest ending)) (found refl))))
  action_gives {column = column} (s.set {ts = ts} {us = us} {b = b} {targets = targets} {a = e} are becomes numbers)
      rest ending =
      rw (append_assoc ts (b ∷ us) rest, set_read source names ts (b ∷ (us ++ rest)) targets are)
      (assign_gives ts us rest b targets e are becomes numbers (after_ends column rest ending))

  -- ---- lets

  let_gives : (more : List Entry) (n b : Token) (ts rest : List Token) (e : TermForm)
      → s.IsNew source.text makers.Let names n more → s.IsSign signs.Becomes b → s.IsTerm source s.whole names ts e
      → Ends s.whole rest → Gives (let_read source names (n ∷ b ∷ (ts ++ rest))) (e, more, rest)
  let_gives more n b ts rest e new becomes d ends =
      bind _ (new_gives source.text makers.Let names more n (b ∷ (ts ++ rest)) new)
      (bind _ (wanted_sign signs.Becomes b (ts ++ rest) becomes)
      (bind _ (term_gives source d rest ends) (found refl)))

  pub let_line_gives : (inner : Inner) (room column : ℕ) (more : List Entry) (ts rest : List Token) (e : TermForm)
      (y : StatementForm × List Token) → s.IsLet source names ts more e → Ends s.whole rest
      → Gives (inner Rest room column more rest) y
      → Gives (line_read inner source room column names (ts ++ rest)) (let_in e y.0, y.1)
  let_line_gives inner room column more ts rest e y l ends h =
      rw (l.tokens, l.is_let.is)
      (bind _ (let_gives more l.name l.becomes l.term rest e l.is_new l.is_becomes l.is_term ends)
      (bind _ h (found refl)))

  pub simple_gives : {ts : List Token} {a : StatementForm} {column : ℕ} → s.IsSimple source names ts a
      → (rest : List Token) → After column rest → Gives (simple_read source names (ts ++ rest)) (a, rest)
  simple_gives (s.action h) rest ending = action_gives h rest ending
  simple_gives {column = column} (s.let_alone {ts = ts} {more = more} {e = e} l) rest ending =
      rw (l.tokens, l.is_let.is)
      (bind _ (let_gives more l.name l.becomes l.term rest e l.is_new l.is_becomes l.is_term
      (after_ends column rest ending)) (found refl))
