-- A rule that is read is spelled by its text.
use Rattle.std.proofs.Common.{◌≡◌, ℕ, zero, suc, ◌-◌, Bool, true, false, cond, List, [], ◌∷◌, ◌++◌, length, take, refl, sym, ap, subst, ◌∙◌, arith, append_assoc, append-nil}
use Rattle.std.specs.Prelude.{not, nat_lt, nat_le, if◌then◌else◌, ◌==◌, ◌&&◌, Option, Some, None, Result, Ok, Err, IfOk}
use Rattle.std.proofs.lemmas.Bool.{leb-false, ltb-false, ltb-true, eqb-true, and_parts}
use Rattle.rule_syntax.specs.declared.syntax.Target.{Target}
use Rattle.rule_syntax.specs.declared.syntax.Target.TheVariants.{ToLocal, ToWord}
use Rattle.rule_text.specs.declared.errors.RuleError.TheVariants.{BadCharacter, BadIndent, OutOfRange, Expected, UnknownName, NameTwice, NotAssignable, TooDeep, TooLong}
use Rattle.rule_text.specs.declared.errors.ReadRuleError.{ReadRuleError}
use Rattle.rule_text.specs.declared.signs.Sign.{Sign}
use Rattle.rule_text.specs.declared.signs.Sign.TheVariants as signs
use Rattle.rule_text.specs.declared.lexemes.Name.{Name}
use Rattle.rule_text.specs.declared.lexemes.Kind.{Kind}
use Rattle.rule_text.specs.declared.lexemes.Kind.TheVariants.{Number, Named, Mark, Fault, LineStart, TextEnd}
use Rattle.rule_text.specs.declared.lexemes.Position.{Position}
use Rattle.rule_text.specs.declared.lexemes.Token.{Token}
use Rattle.rule_text.specs.declared.layout.TheConstants.{MAX_LINES, MAX_LINE_TOKENS, MAX_TABLE_CELLS}
use Rattle.rule_text.specs.declared.scope.Meaning.{Meaning}
use Rattle.rule_text.specs.declared.scope.Meaning.TheVariants.{Local, LoopNode, Word, Table}
use Rattle.rule_text.specs.declared.scope.Entry.{Entry}
use Rattle.rule_text.specs.declared.scope.Maker.TheVariants as makers
use Rattle.rule_text.specs.declared.terms.TheConstants.{MAX_PARTS}
use Rattle.rule_text.specs.declared.statements.Layer.TheVariants.{Rest, Branch}
use Rattle.rule_text.specs.declared.statements.TheConstants.{MAX_STEPS}
use Rattle.rule_text.specs.Forms.{AssignmentForm, one, also, StatementForm, nothing, sequence, let_in, assign, branch, each, send_all, send_to}
use Rattle.rule_text.specs.declared.lexemes.Place.{Place}
use Rattle.rule_text.specs.declared.lexemes.Lexeme.{Lexeme}
use Rattle.rule_text.specs.declared.lexemes.Class.TheVariants.{Digits, Letters, Comment}
use Rattle.rule_text.specs.declared.lexemes.TheConstants.{MAX_NAME_LETTERS}
use Rattle.rule_text.specs.declared.layout.Lines.{Lines}
use Rattle.rule_text.specs.Signs.{sign_of}
use Rattle.node_env.specs.declared.env.TheConstants.{NO_MAIL}
use Rattle.rule_text.specs.Tables.{SourceForm, HeaderForm, no_header, source_with}
use Rattle.rule_text.specs.Tokens.{is_past_limit, begins_line, laid, is_space, is_digit, begins_name, run, number_spelled, number_kind, name_kind, reserved_kind, word_kind, lexeme, no_lexeme, number_lexeme, word_from, word_lexeme, marked_or, sign_lexeme, lexeme_at, first_place, first_end, end_after, past, tokens_at, lexemes_from, lexemes_of, of_kind, first_lines, beyond, start_kind, inner_kind, is_end, laid_from, tokens_of}
use Rattle.rule_text.specs.Scopes.{◌>>=◌, rule_error_at, error_in, meaning_of, words_of, new_name}
use Rattle.rule_text.specs.Terms.{rest_after, wanted, term_read}
use Rattle.rule_text.specs.Statements.{target_meant, target_marked, target_by, has_target, with_target, more_targets, new_target, targets_read, values_read, numbers_read, assign_read, send_rest, send_read, let_read, simple_by, simple_read, Inner, is_start, deeper_read, block_read, body_read, other_by, other_read, branch_read, followed, statement_by, line_read, start_read, rest_by, rest_read, lines_read, state_names, cell_by, cell_read, cells_read, table_read, states_read, after_heading, header_read, RuleForm, ended, first_column, rule_in, rule_read}
use Rattle.rule_text.specs.Spelling as s
use Rattle.rule_text.proofs.SpelledTerms.{Reads, fails, gives, read_then, implied, by_option, by_test, Took, took, took_end, took_more, took_past, took_then, took_of, after_front, wanted_reads, took_front, new_reads, took_new, term_reads}

start_is : (kind : Kind) → is_start kind ≡ true → kind ≡ LineStart
start_is LineStart e = refl
start_is kind e = absurd (let no : false ≡ true = e in cc)

module _ (text : List ℕ) where
  -- ---- assignments

  module _ (names : List Entry) where
    meant_reads : (name : Name) (t : Token) (o : Option Meaning) → t.kind ≡ Named name → meaning_of text names name ≡ o
        → Reads (target_meant o t) (s.IsTarget text names t)
    meant_reads name t (Some (Local k)) e f = gives (ToLocal k) (s.a_let {name = name} (record { is = e }) f)
    meant_reads name t (Some (Word k)) e f = gives (ToWord k) (s.a_word {name = name} (record { is = e }) f)
    meant_reads name t (Some (LoopNode k)) e f = fails (rule_error_at NotAssignable t)
    meant_reads name t (Some (Table k)) e f = fails (rule_error_at NotAssignable t)
    meant_reads name t None e f = fails (rule_error_at UnknownName t)

    marked_reads : (sign : Sign) (t : Token) → t.kind ≡ Mark sign → Reads (target_marked sign t) (s.IsTarget text names t)
    marked_reads signs.Clock t e = gives (ToWord 0) (s.the_clock (record { is = e }))
    marked_reads signs.Nodes t e = fails (rule_error_at NotAssignable t)
    marked_reads signs.Faults t e = fails (rule_error_at NotAssignable t)
    marked_reads signs.Modulus t e = fails (rule_error_at NotAssignable t)
    marked_reads signs.Me t e = fails (rule_error_at NotAssignable t)
    marked_reads signs.Coin t e = fails (rule_error_at NotAssignable t)
    marked_reads signs.NoMessage t e = fails (rule_error_at NotAssignable t)
    marked_reads sign t e = fails (rule_error_at Expected t)

    target_reads : (kind : Kind) (t : Token) → t.kind ≡ kind
        → Reads (target_by text names kind t) (s.IsTarget text names t)
    target_reads (Named name) t e = meant_reads name t (meaning_of text names name) e refl
    target_reads (Mark sign) t e = marked_reads sign t e
    target_reads kind t e = fails (rule_error_at Expected t)

    -- the first token is a target that isn't among those before it
    record One (done : List Target) (ts : List Token) (more : List Target) (rest : List Token) : Type 0 where
      pub first : Token
      pub split : ts ≡ first ∷ rest
      pub target : Target
      pub is : s.IsTarget text names first target
      pub once : has_target done target ≡ false
      pub added : more ≡ done ++ (target ∷ [])

    one_reads : (done : List Target) (ts : List Token)
        → Reads (new_target text names done ts) (λ x. One done ts x.0 x.1)
    one_reads done [] = fails (error_in Expected [])
    one_reads done (t ∷ ts) =
        read_then (more_targets text names done t) (λ more. Ok (more, ts))
        (read_then (target_by text names t.kind t) (λ target. with_target done target t) (target_reads t.kind t refl)
        (λ target is. by_test {Q = λ more. One done (t ∷ ts) more ts} (has_target done target) (Err (rule_error_at NameTwice t))
        (Ok (done ++ (target ∷ []))) (λ twice. fails (rule_error_at NameTwice t))
        (λ once. gives (done ++ (target ∷ [])) (record {
          first = t;
          split = refl;
          target = target;
          is = is;
          once = once;
          added = refl;
        }))))
        (λ more is. gives (more, ts) is)

    -- after these tokens and targets a further target can come
    abbrev Ready : List Token → List Target → Type 0
    Ready before done = (t : Token) (target : Target) → s.IsTarget text names t target → has_target done target ≡ false
        → s.AreTargets text names (before ++ (t ∷ [])) (done ++ (target ∷ []))

    -- all targets are in the tokens before and these, up to a "="
    record Lefts (before us : List Token) (targets : List Target) : Type 0 where
      pub left : List Token
      pub becomes : Token
      pub split : before ++ us ≡ left ++ (becomes ∷ [])
      pub are : s.AreTargets text names left targets
      pub sign : s.IsSign signs.Becomes becomes

    ready_next : (us : List Token) (targets : List Target) (c : Token) → s.AreTargets text names us targets
        → s.IsSign signs.Comma c → Ready (us ++ (c ∷ [])) targets
    ready_next us targets c are sign t target is once =
        subst (λ (l : List Token). s.AreTargets text names l (targets ++ (target ∷ [])))
        (sym (append_assoc us (c ∷ []) (t ∷ []))) (s.next_target are sign is once)

    lefts_read : (left : ℕ) (before : List Token) (done : List Target) (ts : List Token) → Ready before done
        → Reads (targets_read left text names done ts) (λ x. Took ts x.1 (λ us. Lefts before us x.0))
    unfolding targets_read
    lefts_read zero before done ts ready = fails (error_in TooLong ts)
    lefts_read (suc left) before done ts ready =
        read_then (new_target text names done ts)
        (λ more. elim (rest_after signs.Comma more.1) [
          | Some rest ↦ targets_read left text names more.0 rest
          | None ↦ wanted signs.Becomes more.1 >>= λ rest. Ok (more.0, rest)
        ]) (one_reads done ts)
        (λ more n.
        let all = before ++ (n.first ∷ []) in
        let are : s.AreTargets text names all more.0 =
        subst (λ (l : List Target). s.AreTargets text names all l) (sym n.added) (ready n.first n.target n.is n.once) in
        by_option (rest_after signs.Comma more.1) (λ rest. targets_read left text names more.0 rest)
        (wanted signs.Becomes more.1 >>= λ rest. Ok (more.0, rest))
        (λ rest e. let f = after_front signs.Comma more.1 rest e in
        implied (targets_read left text names more.0 rest)
        (lefts_read left (all ++ (f.first ∷ [])) more.0 rest (ready_next all more.0 f.first are f.sign))
        (λ x t. took_of n.split (took_more n.first (took_of f.split (took_more f.first (took t (λ us l. record {
          left = l.left;
          becomes = l.becomes;
          split = sym (append_assoc before (n.first ∷ []) (f.first ∷ us)) ∙ sym (append_assoc all (f.first ∷ []) us)
              ∙ l.split;
          are = l.are;
          sign = l.sign;
        })))))))
        (λ e. read_then (wanted signs.Becomes more.1) (λ rest. Ok (more.0, rest)) (wanted_reads signs.Becomes more.1)
        (λ rest becomes. gives (more.0, rest) (took_of n.split (took_more n.first (took_front becomes (λ b sign.
        took_end (record {
          left = all;
          becomes = b;
          split = sym (append_assoc before (n.first ∷ []) (b ∷ []));
          are = are;
          sign = sign;
        }))))))))

module _ (source : SourceForm) where
  -- ---- numbers

  module _ (names : List Entry) where
    values_reads : (targets done : List Target) (front : AssignmentForm) (before ts : List Token)
        → s.AreTerms source names before done front → Reads (values_read source names front targets ts)
        (λ x. Took ts x.1 (λ us. s.AreTerms source names (before ++ us) (done ++ targets) x.0))
    values_reads [] done front before ts are =
        gives (front, ts) (took_end (subst (λ (l : List Target). s.AreTerms source names (before ++ []) l front)
        (sym (append-nil done)) (subst (λ (l : List Token). s.AreTerms source names l done front)
        (sym (append-nil before)) are)))
    values_reads (target ∷ targets) done front before ts are =
        read_then (wanted signs.Comma ts) (λ rest. term_read source names rest
        >>= λ e. values_read source names (also front target e.0) targets e.1) (wanted_reads signs.Comma ts)
        (λ rest commas. read_then (term_read source names rest)
        (λ e. values_read source names (also front target e.0) targets e.1) (term_reads source names rest)
        (λ e is. implied (values_read source names (also front target e.0) targets e.1)
        (values_reads targets (done ++ (target ∷ [])) (also front target e.0) (before ++ (commas.first ∷ is.used)) e.1
        (s.next_number are commas.sign is.is))
        (λ x t. took_of commas.split (took_more commas.first (took_past is (took t (λ us all.
        subst (λ (l : List Target). s.AreTerms source names (before ++ (commas.first ∷ (is.used ++ us))) l x.0)
        (append_assoc done (target ∷ []) targets)
        (subst (λ (l : List Token). s.AreTerms source names l ((done ++ (target ∷ [])) ++ targets) x.0)
        (append_assoc before (commas.first ∷ is.used) us) all))))))))

    numbers_reads : (left : List Token) (becomes : Token) (targets : List Target) (ts : List Token)
        → s.AreTargets source.text names left targets → s.IsSign signs.Becomes becomes
        → Reads (numbers_read source names targets ts)
        (λ x. Took ts x.1 (λ us. s.IsAction source names (left ++ (becomes ∷ us)) x.0))
    numbers_reads left becomes [] ts are sign = fails (error_in Expected ts)
    numbers_reads left becomes (target ∷ targets) ts are sign =
        read_then (term_read source names ts) (λ e. values_read source names (one target e.0) targets e.1
        >>= λ a. Ok (assign a.0, a.1)) (term_reads source names ts)
        (λ e is. read_then (values_read source names (one target e.0) targets e.1) (λ a. Ok (assign a.0, a.1))
        (values_reads targets (target ∷ []) (one target e.0) is.used e.1 (s.first_number is.is))
        (λ a t. gives (assign a.0, a.1) (took_past is (took t (λ us all. s.set are sign all)))))

    assign_reads : (ts : List Token)
        → Reads (assign_read source names ts) (λ x. Took ts x.1 (λ us. s.IsAction source names us x.0))
    assign_reads ts =
        read_then (targets_read MAX_LINE_TOKENS source.text names [] ts)
        (λ targets. numbers_read source names targets.0 targets.1)
        (lefts_read source.text names MAX_LINE_TOKENS [] [] ts (λ t target is once. s.first_target is))
        (λ targets l. let p = l.is in
        implied (numbers_read source names targets.0 targets.1)
        (numbers_reads p.left p.becomes targets.0 targets.1 p.are p.sign)
        (λ x t. took_past l (took t (λ us is. subst (λ (l : List Token). s.IsAction source names l x.0)
        (sym (append_assoc p.left (p.becomes ∷ []) us) ∙ ap (λ (l : List Token). l ++ us) (sym p.split)) is))))

    -- ---- simple statements

    send_reads : (t : Token) (ts : List Token) → t.kind ≡ Mark signs.Send
        → Reads (send_read source names ts) (λ x. Took (t ∷ ts) x.1 (λ us. s.IsAction source names us x.0))
    send_reads t ts e =
        read_then (term_read source names ts) (λ number. send_rest source names number.0 number.1)
        (term_reads source names ts)
        (λ number is. by_option (rest_after signs.To number.1)
        (λ rest. term_read source names rest >>= λ k. Ok (send_to number.0 k.0, k.1)) (Ok (send_all number.0, number.1))
        (λ rest f. read_then (term_read source names rest) (λ k. Ok (send_to number.0 k.0, k.1))
        (term_reads source names rest)
        (λ k other. gives (send_to number.0 k.0, k.1) (took_more t (took_then is (λ us a.
        took_front (after_front signs.To number.1 rest f) (λ o sign. took other (λ vs b.
        s.sent_to (record { is = e }) a sign b)))))))
        (λ f. gives (send_all number.0, number.1) (took_more t (took is (λ us a. s.sent (record { is = e }) a)))))

    let_reads : (t : Token) (ts : List Token) → t.kind ≡ Mark signs.Let
        → Reads (let_read source names ts) (λ x. Took (t ∷ ts) x.2 (λ us. s.IsLet source names us x.1 x.0))
    let_reads t ts e =
        read_then (new_name source.text makers.Let names ts) (λ more. wanted signs.Becomes more.1
        >>= λ rest. term_read source names rest >>= λ number. Ok (number.0, more.0, number.1))
        (new_reads source.text makers.Let names ts)
        (λ more new. read_then (wanted signs.Becomes more.1) (λ rest. term_read source names rest
        >>= λ number. Ok (number.0, more.0, number.1)) (wanted_reads signs.Becomes more.1)
        (λ rest becomes. read_then (term_read source names rest) (λ number. Ok (number.0, more.0, number.1))
        (term_reads source names rest)
        (λ number is. gives (number.0, more.0, number.1) (took_more t (took_new source.text new (λ n is_new.
        took_front becomes (λ b sign. took is (λ us term. record {
          «let» = t;
          name = n;
          becomes = b;
          term = us;
          tokens = refl;
          is_let = record { is = e };
          is_new = is_new;
          is_becomes = sign;
          is_term = term;
        }))))))))

    abbrev is_let : Kind → Bool
    is_let (Mark signs.Let) = true
    is_let kind = false

    action_reads : (kind : Kind) (t : Token) (ts : List Token) → t.kind ≡ kind → is_let kind ≡ false
        → Reads (simple_by source names kind t ts) (λ x. Took (t ∷ ts) x.1 (λ us. s.IsAction source names us x.0))
    action_reads (Mark signs.Let) t ts e f = absurd (let no : true ≡ false = f in cc)
    action_reads (Mark signs.Send) t ts e f = send_reads t ts e
    action_reads kind t ts e f = assign_reads (t ∷ ts)

    acted : (kind : Kind) (t : Token) (ts : List Token) → t.kind ≡ kind → is_let kind ≡ false
        → Reads (simple_by source names kind t ts) (λ x. Took (t ∷ ts) x.1 (λ us. s.IsSimple source names us x.0))
    acted kind t ts e f = implied (simple_by source names kind t ts) (action_reads kind t ts e f)
        (λ x is. took is (λ us a. s.action a))

    kind_reads : (kind : Kind) (t : Token) (ts : List Token) → t.kind ≡ kind
        → Reads (simple_by source names kind t ts) (λ x. Took (t ∷ ts) x.1 (λ us. s.IsSimple source names us x.0))
    kind_reads (Mark signs.Let) t ts e =
        read_then (let_read source names ts) (λ x. Ok (let_in x.0 nothing, x.2)) (let_reads t ts e)
        (λ x is. gives (let_in x.0 nothing, x.2) (took is (λ us l. s.let_alone l)))
    kind_reads kind t ts e = acted kind t ts e refl

    simple_reads : (ts : List Token)
        → Reads (simple_read source names ts) (λ x. Took ts x.1 (λ us. s.IsSimple source names us x.0))
    simple_reads [] = fails (error_in Expected [])
    simple_reads (t ∷ ts) = kind_reads t.kind t ts refl

    -- a first token that is no "let"
    action_line : (kind : Kind) (t : Token) (ts : List Token) → t.kind ≡ kind → is_let kind ≡ false
        → Reads (simple_read source names (t ∷ ts)) (λ x. Took (t ∷ ts) x.1 (λ us. s.IsAction source names us x.0))
    action_line kind t ts e f = action_reads t.kind t ts refl (ap is_let e ∙ f)

  -- ---- blocks

  -- further lines are read so; those that begin with the start of a line of their column take it
  pub record Spelled (inner : Inner) : Type 0 where
    pub rest : (room column : ℕ) (names : List Entry) (ts : List Token)
        → Reads (inner Rest room column names ts) (λ x. Took ts x.1 (λ us. s.IsBlock source column names us x.0))
    pub branch : (room column : ℕ) (names : List Entry) (ts : List Token)
        → Reads (inner Branch room column names ts) (λ x. Took ts x.1 (λ us. s.AreCases source column names us x.0))
    pub begun : (room : ℕ) (names : List Entry) (t : Token) (ts : List Token) → t.kind ≡ LineStart
        → Reads (inner Rest room t.column names (t ∷ ts))
        (λ x. Took ts x.1 (λ us. s.IsBlock source t.column names (t ∷ us) x.0))

  module _ (inner : Inner) (spelled : Spelled inner) (room column : ℕ) where
    block_reads : (names : List Entry) (c : Token) (ts : List Token) → s.IsSign signs.Colon c
        → Reads (block_read inner source room column names ts)
        (λ x. Took (c ∷ ts) x.1 (λ us. s.IsBody source column names us x.0))
    block_reads names c [] sign = fails (error_in Expected [])
    block_reads names c (t ∷ ts) sign =
        by_test (is_start t.kind) (deeper_read inner room column names t (t ∷ ts)) (simple_read source names (t ∷ ts))
        (λ starts. by_test (nat_le t.column column) (Err (rule_error_at Expected t))
        (if room == 0 then Err (rule_error_at TooDeep t) else inner Rest (room - 1) t.column names (t ∷ ts))
        (λ e. fails (rule_error_at Expected t))
        (λ further. by_test (room == 0) (Err (rule_error_at TooDeep t)) (inner Rest (room - 1) t.column names (t ∷ ts))
        (λ e. fails (rule_error_at TooDeep t))
        (λ e. implied (inner Rest (room - 1) t.column names (t ∷ ts))
        (spelled.begun (room - 1) names t ts (start_is t.kind starts))
        (λ x is. took_more c (took_more t (took is (λ us block.
        s.deeper sign (leb-false t.column column further) block)))))))
        (λ e. implied (simple_read source names (t ∷ ts)) (simple_reads names (t ∷ ts))
        (λ x is. took_more c (took is (λ us a. s.same_line sign a))))

    body_reads : (names : List Entry) (ts : List Token) → Reads (body_read inner source room column names ts)
        (λ x. Took ts x.1 (λ us. s.IsBody source column names us x.0))
    body_reads names ts =
        read_then (wanted signs.Colon ts) (λ rest. block_read inner source room column names rest)
        (wanted_reads signs.Colon ts)
        (λ rest colons. implied (block_read inner source room column names rest)
        (block_reads names colons.first rest colons.sign) (λ x is. took_of colons.split is))

    other_by_reads : (names : List Entry) (kind : Kind) (t u : Token) (us : List Token) → s.IsLineStart column t
        → u.kind ≡ kind → Reads (other_by inner source room column names kind t u us)
        (λ x. Took (t ∷ u ∷ us) x.1 (λ vs. s.IsOtherwise source column names vs x.0))
    other_by_reads names (Mark signs.Elif) t u us start e =
        implied (inner Branch room column names us) (spelled.branch room column names us)
        (λ x is. took_more t (took_more u (took is (λ vs a. s.elif_line start (record { is = e }) a))))
    other_by_reads names (Mark signs.Else) t u us start e =
        implied (body_read inner source room column names us) (body_reads names us)
        (λ x is. took_more t (took_more u (took is (λ vs a. s.else_line start (record { is = e }) a))))
    other_by_reads names kind t u us start e = gives (nothing, t ∷ u ∷ us) (took_end s.none)

    other_reads : (names : List Entry) (ts : List Token) → Reads (other_read inner source room column names ts)
        (λ x. Took ts x.1 (λ us. s.IsOtherwise source column names us x.0))
    other_reads names [] = gives (nothing, []) (took_end s.none)
    other_reads names (t ∷ []) = gives (nothing, t ∷ []) (took_end s.none)
    other_reads names (t ∷ u ∷ us) =
        by_test (is_start t.kind && (t.column == column)) (other_by inner source room column names u.kind t u us)
        (Ok (nothing, t ∷ u ∷ us))
        (λ e. let p = and_parts (is_start t.kind) (t.column == column) e in
        other_by_reads names u.kind t u us
        (record { start = record { is = start_is t.kind p.0 }; at = eqb-true t.column column p.1 }) refl)
        (λ e. gives (nothing, t ∷ u ∷ us) (took_end s.none))

    branch_reads : (names : List Entry) (ts : List Token) → Reads (branch_read inner source room column names ts)
        (λ x. Took ts x.1 (λ us. s.AreCases source column names us x.0))
    branch_reads names ts =
        read_then (term_read source names ts) (λ t. body_read inner source room column names t.1
        >>= λ a. other_read inner source room column names a.1 >>= λ b. Ok (branch t.0 a.0 b.0, b.1))
        (term_reads source names ts)
        (λ t test. read_then (body_read inner source room column names t.1)
        (λ a. other_read inner source room column names a.1 >>= λ b. Ok (branch t.0 a.0 b.0, b.1))
        (body_reads names t.1)
        (λ a first. read_then (other_read inner source room column names a.1) (λ b. Ok (branch t.0 a.0 b.0, b.1))
        (other_reads names a.1)
        (λ b second. gives (branch t.0 a.0 b.0, b.1) (took_then test (λ us term. took_then first (λ vs body.
        took second (λ ws other. s.cases term body other)))))))

    -- ---- lines, after the start of one

    module _ (start : Token) (is_start : s.IsLineStart column start) where
      abbrev IsLine : List Entry → List Token → StatementForm × List Token → Type 0
      IsLine names ts x = Took ts x.1 (λ us. s.IsBlock source column names (start ∷ us) x.0)

      -- what follows the statement that took the front of the tokens
      followed_reads : (names : List Entry) (ts mid : List Token) (a : StatementForm)
          → Took ts mid (λ us. s.IsStatement source column names us a)
          → Reads (followed inner room column names a mid) (IsLine names ts)
      followed_reads names ts mid a statement =
          read_then (inner Rest room column names mid) (λ rest. Ok (sequence a rest.0, rest.1))
          (spelled.rest room column names mid)
          (λ rest is. gives (sequence a rest.0, rest.1) (took_then statement (λ us one. took is (λ vs block.
          s.line is_start one block))))

      line_by_reads : (names : List Entry) (kind : Kind) (t : Token) (ts : List Token) → t.kind ≡ kind
          → Reads (statement_by inner source room column names kind t ts) (IsLine names (t ∷ ts))
      line_by_reads names (Mark signs.Let) t ts e =
          read_then (let_read source names ts)
          (λ x. inner Rest room column x.1 x.2 >>= λ rest. Ok (let_in x.0 rest.0, rest.1))
          (let_reads names t ts e)
          (λ x first. read_then (inner Rest room column x.1 x.2) (λ rest. Ok (let_in x.0 rest.0, rest.1))
          (spelled.rest room column x.1 x.2)
          (λ rest is. gives (let_in x.0 rest.0, rest.1) (took_then first (λ us l. took is (λ vs block.
          s.let_line is_start l block)))))
      line_by_reads names (Mark signs.For) t ts e =
          read_then (new_name source.text makers.Loop names ts)
          (λ more. body_read inner source room column more.0 more.1
          >>= λ body. followed inner room column names (each body.0) body.1)
          (new_reads source.text makers.Loop names ts)
          (λ more new. read_then (body_read inner source room column more.0 more.1)
          (λ body. followed inner room column names (each body.0) body.1) (body_reads more.0 more.1)
          (λ body is. followed_reads names (t ∷ ts) body.1 (each body.0)
          (took_more t (took_new source.text new (λ n is_new. took is (λ us b. s.loop (record { is = e }) is_new b))))))
      line_by_reads names (Mark signs.If) t ts e =
          read_then (inner Branch room column names ts) (λ a. followed inner room column names a.0 a.1)
          (spelled.branch room column names ts)
          (λ a is. followed_reads names (t ∷ ts) a.1 a.0
          (took_more t (took is (λ us b. s.case (record { is = e }) b))))
      line_by_reads names kind t ts e =
          read_then (simple_read source names (t ∷ ts)) (λ a. followed inner room column names a.0 a.1)
          (action_line names kind t ts e refl)
          (λ a is. followed_reads names (t ∷ ts) a.1 a.0 (took is (λ us b. s.does b)))

      line_reads : (names : List Entry) (ts : List Token)
          → Reads (line_read inner source room column names ts) (IsLine names ts)
      line_reads names [] = fails (error_in Expected [])
      line_reads names (t ∷ ts) = line_by_reads names t.kind t ts refl

    started_reads : (names : List Entry) (t : Token) (ts : List Token) → t.kind ≡ LineStart
        → Reads (start_read inner source room column names t ts)
        (λ x. Took (t ∷ ts) x.1 (λ us. s.IsBlock source column names us x.0))
    started_reads names t ts e =
        by_test (nat_lt t.column column) (Ok (nothing, t ∷ ts))
        (if nat_lt column t.column then Err (rule_error_at BadIndent t) else line_read inner source room column names
        ts)
        (λ left. gives (nothing, t ∷ ts) (took_end s.empty))
        (λ f. by_test (nat_lt column t.column) (Err (rule_error_at BadIndent t))
        (line_read inner source room column names ts)
        (λ right. fails (rule_error_at BadIndent t))
        (λ g. let low = ltb-false t.column column f in
        let high = ltb-false column t.column g in
        implied (line_read inner source room column names ts)
        (line_reads t (record { start = record { is = e }; at = omega (arith, low, high) }) names ts)
        (λ x is. took_more t is)))

    rest_by_reads : (names : List Entry) (kind : Kind) (t : Token) (ts : List Token) → t.kind ≡ kind
        → Reads (rest_by inner source room column names kind t ts)
        (λ x. Took (t ∷ ts) x.1 (λ us. s.IsBlock source column names us x.0))
    rest_by_reads names TextEnd t ts e = gives (nothing, t ∷ ts) (took_end s.empty)
    rest_by_reads names LineStart t ts e = started_reads names t ts e
    rest_by_reads names kind t ts e = fails (rule_error_at Expected t)

    rest_reads : (names : List Entry) (ts : List Token) → Reads (rest_read inner source room column names ts)
        (λ x. Took ts x.1 (λ us. s.IsBlock source column names us x.0))
    rest_reads names [] = fails (error_in Expected [])
    rest_reads names (t ∷ ts) = rest_by_reads names t.kind t ts refl

  begun_reads : (inner : Inner) → Spelled inner → (room : ℕ) (names : List Entry) (t : Token) (ts : List Token)
      → t.kind ≡ LineStart → Reads (rest_read inner source room t.column names (t ∷ ts))
      (λ x. Took ts x.1 (λ us. s.IsBlock source t.column names (t ∷ us) x.0))
  begun_reads inner spelled room names t ts e =
      let Goal : StatementForm × List Token → Type 0 =
      λ x. Took ts x.1 (λ us. s.IsBlock source t.column names (t ∷ us) x.0) in
      subst (λ (kind : Kind). Reads (rest_by inner source room t.column names kind t ts) Goal) (sym e)
      (by_test (nat_lt t.column t.column) (Ok (nothing, t ∷ ts))
      (if nat_lt t.column t.column then Err (rule_error_at BadIndent t) else line_read inner source room t.column names
      ts)
      (λ less. absurd (let no = ltb-true t.column t.column less in omega (arith, no)))
      (λ f. by_test (nat_lt t.column t.column) (Err (rule_error_at BadIndent t))
      (line_read inner source room t.column names ts)
      (λ less. fails (rule_error_at BadIndent t))
      (λ g. line_reads inner spelled room t.column t (record { start = record { is = e }; at = refl }) names ts)))

  pub lines_spelled : (left : ℕ) → Spelled (lines_read left source)
  unfolding lines_read
  lines_spelled zero = record {
    rest = λ room column names ts. fails (error_in TooLong ts);
    branch = λ room column names ts. fails (error_in TooLong ts);
    begun = λ room names t ts e. fails (error_in TooLong (t ∷ ts));
  }
  lines_spelled (suc left) =
      let more = lines_spelled left in
      record {
        rest = rest_reads (lines_read left source) more;
        branch = branch_reads (lines_read left source) more;
        begun = begun_reads (lines_read left source) more;
      }

module _ (text : List ℕ) where
  -- ---- rules

  words_read : (left : ℕ) (names : List Entry) (ts : List Token) → Reads (state_names left text names ts)
      (λ x. Took ts x.1 (λ us. s.AreWords text names us x.0))
  unfolding state_names
  words_read zero names ts = fails (error_in TooLong ts)
  words_read (suc left) names ts =
      read_then (new_name text makers.State names ts)
      (λ more. elim (rest_after signs.Comma more.1) [
        | Some rest ↦ state_names left text more.0 rest
        | None ↦ Ok more
      ]) (new_reads text makers.State names ts)
      (λ more new. by_option (rest_after signs.Comma more.1) (λ rest. state_names left text more.0 rest) (Ok more)
      (λ rest e. implied (state_names left text more.0 rest) (words_read left more.0 rest)
      (λ x is. took_new text new (λ t is_new. took_front (after_front signs.Comma more.1 rest e) (λ c sign.
      took is (λ us words. s.word_before is_new sign words)))))
      (λ e. gives more (took_new text new (λ t is_new. took_end (s.last_word is_new)))))

  -- ---- cells

  cell_by_reads : (kind : Kind) (t : Token) → t.kind ≡ kind → Reads (cell_by kind t) (s.IsCell t)
  cell_by_reads (Number v) t e = gives v (s.a_number (record { is = e }))
  cell_by_reads (Mark signs.NoMessage) t e = gives NO_MAIL (s.no_message (record { is = e }))
  cell_by_reads kind t e = fails (rule_error_at Expected t)

  -- the first token is a cell
  record FrontCell (v : ℕ) (ts rest : List Token) : Type 0 where
    pub first : Token
    pub split : ts ≡ first ∷ rest
    pub is : s.IsCell first v

  cell_reads : (ts : List Token) → Reads (cell_read ts) (λ x. FrontCell x.0 ts x.1)
  cell_reads [] = fails (error_in Expected [])
  cell_reads (t ∷ ts) =
      read_then (cell_by t.kind t) (λ v. Ok (v, ts)) (cell_by_reads t.kind t refl)
      (λ v is. gives (v, ts) (record { first = t; split = refl; is = is }))

  cells_reads : (left : ℕ) (done : List ℕ) (ts : List Token) → Reads (cells_read left done ts)
      (λ x. Took ts x.1 (λ us. s.AreCells done us x.0))
  unfolding cells_read
  cells_reads zero done ts = fails (error_in TooLong ts)
  cells_reads (suc left) done ts =
      read_then (cell_read ts)
      (λ cell. elim (rest_after signs.Comma cell.1) [
        | Some rest ↦ cells_read left (done ++ cell.0 ∷ []) rest
        | None ↦ Ok (done ++ cell.0 ∷ [], cell.1)
      ]) (cell_reads ts)
      (λ cell front. by_option (rest_after signs.Comma cell.1) (λ rest. cells_read left (done ++ cell.0 ∷ []) rest)
      (Ok (done ++ cell.0 ∷ [], cell.1))
      (λ rest e. implied (cells_read left (done ++ cell.0 ∷ []) rest) (cells_reads left (done ++ cell.0 ∷ []) rest)
      (λ x is. took_of front.split (took_more front.first (took_front (after_front signs.Comma cell.1 rest e) (λ c sign.
      took is (λ us cells. s.cell_before front.is sign cells))))))
      (λ e. gives (done ++ cell.0 ∷ [], cell.1)
      (took_of front.split (took_more front.first (took_end (s.last_cell front.is))))))

  -- ---- the header

  -- what follows "table"
  table_reads : (before : HeaderForm) (ts : List Token) → Reads (table_read text before ts)
      (λ x. Took ts x.1 (λ us. s.IsTableLine text before us x.0))
  table_reads before ts =
      let made : List Entry → List ℕ → HeaderForm =
      λ names cells. record { names = names; tables = before.tables ++ cells ∷ [] } in
      read_then (new_name text makers.Table before.names ts) (λ more. wanted signs.Becomes more.1
      >>= λ opening. wanted signs.OpenSquare opening >>= λ inside. cells_read MAX_TABLE_CELLS [] inside
      >>= λ cells. wanted signs.CloseSquare cells.1 >>= λ rest. Ok (made more.0 cells.0, rest))
      (new_reads text makers.Table before.names ts)
      (λ more new. read_then (wanted signs.Becomes more.1) (λ opening. wanted signs.OpenSquare opening
      >>= λ inside. cells_read MAX_TABLE_CELLS [] inside
      >>= λ cells. wanted signs.CloseSquare cells.1 >>= λ rest. Ok (made more.0 cells.0, rest))
      (wanted_reads signs.Becomes more.1)
      (λ opening becomes. read_then (wanted signs.OpenSquare opening) (λ inside. cells_read MAX_TABLE_CELLS [] inside
      >>= λ cells. wanted signs.CloseSquare cells.1 >>= λ rest. Ok (made more.0 cells.0, rest))
      (wanted_reads signs.OpenSquare opening)
      (λ inside opens. read_then (cells_read MAX_TABLE_CELLS [] inside)
      (λ cells. wanted signs.CloseSquare cells.1 >>= λ rest. Ok (made more.0 cells.0, rest))
      (cells_reads MAX_TABLE_CELLS [] inside)
      (λ cells are. read_then (wanted signs.CloseSquare cells.1) (λ rest. Ok (made more.0 cells.0, rest))
      (wanted_reads signs.CloseSquare cells.1)
      (λ rest closes. gives (made more.0 cells.0, rest) (took_new text new (λ n is_new.
      took_front becomes (λ b becoming. took_front opens (λ o opened. took_then are (λ us all.
      took_front closes (λ c closed. took_end (record {
        name = n;
        becomes = b;
        opening = o;
        inside = us;
        closing = c;
        names = more.0;
        cells = cells.0;
        tokens = refl;
        is_new = is_new;
        is_becomes = becoming;
        is_opening = opened;
        are_cells = all;
        is_closing = closed;
        added = refl;
      }))))))))))))

  states_reads : (before : HeaderForm) (ts : List Token) → Reads (states_read text before ts)
      (λ x. Took ts x.1 (λ us. (names : List Entry) × s.AreWords text before.names us names
      × (x.0 ≡ record { names = names; tables = before.tables })))
  states_reads before ts =
      read_then (state_names MAX_LINE_TOKENS text before.names ts)
      (λ more. Ok (record { names = more.0; tables = before.tables }, more.1))
      (words_read MAX_LINE_TOKENS before.names ts)
      (λ more is. gives (record { names = more.0; tables = before.tables }, more.1)
      (took is (λ us words. (more.0, words, refl))))

  -- a line of the column that begins with a word
  record Heading (a : Sign) (column : ℕ) (ts rest : List Token) : Type 0 where
    pub start : Token
    pub word : Token
    pub split : ts ≡ start ∷ word ∷ rest
    pub is_start : s.IsLineStart column start
    pub sign : s.IsSign a word

  heading_here : (a : Sign) (column : ℕ) (ts rest : List Token) → after_heading a column ts ≡ Some rest
      → Heading a column ts rest
  heading_here a column [] rest e = absurd (let no : None ≡ Some rest = e in cc)
  heading_here a column (t ∷ ts) rest e = by (is_start t.kind && (t.column == column)) refl e
    where
      by : (b : Bool) → (is_start t.kind && (t.column == column)) ≡ b
          → cond b (rest_after a ts) None ≡ Some rest → Heading a column (t ∷ ts) rest
      by true is f =
          let p = and_parts (is_start t.kind) (t.column == column) is in
          let front = after_front a ts rest f in
          record {
            start = t;
            word = front.first;
            split = ap (λ (l : List Token). t ∷ l) front.split;
            is_start = record {
              start = record { is = start_is t.kind p.0 };
              at = eqb-true t.column column p.1;
            };
            sign = front.sign;
          }
      by false is f = absurd (let no : None ≡ Some rest = f in cc)

  header_reads : (left column : ℕ) (before : HeaderForm) (ts : List Token)
      → Reads (header_read left text column before ts) (λ x. Took ts x.1 (λ us. s.IsHeader text column before us x.0))
  unfolding header_read
  header_reads zero column before ts = fails (error_in TooLong ts)
  header_reads (suc left) column before ts =
      let further : HeaderForm → List Token → Result (HeaderForm × List Token) ReadRuleError =
      header_read left text column in
      let tables : Result (HeaderForm × List Token) ReadRuleError = elim (after_heading signs.Table column ts) [
        | Some rest ↦ table_read text before rest >>= λ more. further more.0 more.1
        | None ↦ Ok (before, ts)
      ] in
      by_option (after_heading signs.State column ts)
      (λ rest. states_read text before rest >>= λ more. further more.0 more.1) tables
      (λ rest e. let h = heading_here signs.State column ts rest e in
      read_then (states_read text before rest) (λ more. further more.0 more.1) (states_reads before rest)
      (λ more words. implied (further more.0 more.1) (header_reads left column more.0 more.1)
      (λ x is. took_of h.split (took_more h.start (took_more h.word (took_then words (λ us a. took is (λ vs b.
      s.state_line h.is_start h.sign a.1 (subst (λ (f : HeaderForm). s.IsHeader text column f vs x.0) a.2 b)))))))))
      (λ none. by_option (after_heading signs.Table column ts)
      (λ rest. table_read text before rest >>= λ more. further more.0 more.1) (Ok (before, ts))
      (λ rest e. let h = heading_here signs.Table column ts rest e in
      read_then (table_read text before rest) (λ more. further more.0 more.1) (table_reads before rest)
      (λ more table. implied (further more.0 more.1) (header_reads left column more.0 more.1)
      (λ x is. took_of h.split (took_more h.start (took_more h.word (took_then table (λ us a. took is (λ vs b.
      s.table_line h.is_start h.sign a b))))))))
      (λ e. gives (before, ts) (took_end s.no_line)))

  end_is : (kind : Kind) → is_end kind ≡ true → kind ≡ TextEnd
  end_is TextEnd e = refl
  end_is kind e = absurd (let no : false ≡ true = e in cc)

  -- tokens that spell a rule, and those after their end
  record SpelledBy (ts : List Token) (rule : RuleForm) : Type 0 where
    pub named : HeaderForm
    pub header : List Token
    pub lines : List Token
    pub end : Token
    pub after : List Token
    pub tokens : ts ≡ header ++ (lines ++ (end ∷ after))
    pub ends : s.HasKind TextEnd end
    pub is_header : s.IsHeader text (first_column ts) no_header header named
    pub is_block : s.IsBlock (source_with text named) (first_column ts) named.names lines rule.statement
    pub words : rule.words ≡ words_of named.names

  ended_reads : (ts : List Token) (named : HeaderForm) (header lines rest : List Token) (a : StatementForm)
      → s.IsHeader text (first_column ts) no_header header named
      → s.IsBlock (source_with text named) (first_column ts) named.names lines a
      → ts ≡ header ++ (lines ++ rest) → Reads (ended named.names a rest) (SpelledBy ts)
  ended_reads ts named header lines [] a heads block e = fails (error_in Expected [])
  ended_reads ts named header lines (t ∷ rest) a heads block e =
      by_test (is_end t.kind) (Ok (record { statement = a; words = words_of named.names }))
      (Err (rule_error_at BadIndent t))
      (λ end. gives (record { statement = a; words = words_of named.names }) (record {
        named = named;
        header = header;
        lines = lines;
        end = t;
        after = rest;
        tokens = e;
        ends = record { is = end_is t.kind end };
        is_header = heads;
        is_block = block;
        words = refl;
      }))
      (λ f. fails (rule_error_at BadIndent t))

  rule_reads : (ts : List Token) → Reads (rule_in text ts) (SpelledBy ts)
  rule_reads ts =
      let column = first_column ts in
      read_then (header_read MAX_LINES text column no_header ts)
      (λ h. lines_read MAX_STEPS (source_with text h.0) Rest MAX_PARTS column h.0.names h.1
      >>= λ a. ended h.0.names a.0 a.1) (header_reads MAX_LINES column no_header ts)
      (λ h header. read_then (lines_read MAX_STEPS (source_with text h.0) Rest MAX_PARTS column h.0.names h.1)
      (λ a. ended h.0.names a.0 a.1)
      ((lines_spelled (source_with text h.0) MAX_STEPS).rest MAX_PARTS column h.0.names h.1)
      (λ a lines. ended_reads ts h.0 header.used lines.used a.1 a.0 header.is lines.is
      (header.split ∙ ap (λ (l : List Token). header.used ++ l) lines.split)))

-- ---- only the last token is the end of the text

-- a token that is the end is the last one
abbrev OneEnd : List Token → Type 0
OneEnd [] = Unit {0}
OneEnd (t ∷ ts) = (t.kind ≡ TextEnd → ts ≡ []) × OneEnd ts

after_end : (us ts : List Token) (t : Token) → t.kind ≡ TextEnd → OneEnd (us ++ (t ∷ ts)) → ts ≡ []
after_end [] ts t e single = single.0 e
after_end (u ∷ us) ts t e single = after_end us ts t e single.1

abbrev IsNoEnd : Kind → Type 0
IsNoEnd kind = is_end kind ≡ false

abbrev HasNoEnd : Option Kind → Type 0
HasNoEnd (Some kind) = IsNoEnd kind
HasNoEnd None = Unit {0}

by_cond : {A : Type 0} (P : A → Type 0) (b : Bool) (x y : A) → P x → P y → P (cond b x y)
by_cond P true x y p q = p
by_cond P false x y p q = q

number_no_end : (o : Option ℕ) → IsNoEnd (number_kind o)
number_no_end (Some v) = refl
number_no_end None = refl

reserved_no_end : (o : Option Sign) (kind : Kind) → IsNoEnd kind → IsNoEnd (reserved_kind o kind)
reserved_no_end (Some sign) kind h = refl
reserved_no_end None kind h = h

word_no_end : (at : Place) (word : List ℕ) → IsNoEnd (word_from at word)
word_no_end at word =
    by_cond IsNoEnd (is_digit at.before) (Fault BadCharacter) (word_kind at.offset word) refl
    (reserved_no_end (sign_of word) (name_kind at.offset (length word))
    (by_cond IsNoEnd (nat_le (length word) MAX_NAME_LETTERS)
    (Named (record { from = at.offset; letters = length word })) (Fault OutOfRange) refl refl))

abbrev LexemeIsNoEnd : Lexeme → Type 0
LexemeIsNoEnd l = HasNoEnd l.kind

marked_no_end : (o : Option Sign) (other : Lexeme) → LexemeIsNoEnd other → LexemeIsNoEnd (marked_or o other)
marked_no_end (Some sign) other h = refl
marked_no_end None other h = h

word_lexeme_no_end : (at : Place) (text : List ℕ) → LexemeIsNoEnd (word_lexeme at text)
unfolding word_lexeme
word_lexeme_no_end at text = word_no_end at (take (run Letters text) text)

lexeme_no_end : (at : Place) (text : List ℕ) → LexemeIsNoEnd (lexeme_at at text)
lexeme_no_end at [] = tt
lexeme_no_end at (c ∷ cs) =
    let sign = sign_lexeme (c ∷ cs) in
    let word = if begins_name c then word_lexeme at (c ∷ cs) else sign in
    let number = if is_digit c then number_lexeme (c ∷ cs) else word in
    let comment = if c == 35 then no_lexeme (run Comment cs) else number in
    by_cond LexemeIsNoEnd (is_space c) (no_lexeme 0) comment tt
    (by_cond LexemeIsNoEnd (c == 35) (no_lexeme (run Comment cs)) number tt
    (by_cond LexemeIsNoEnd (is_digit c) (number_lexeme (c ∷ cs)) word
    (number_no_end (number_spelled (take (run Digits (c ∷ cs)) (c ∷ cs))))
    (by_cond LexemeIsNoEnd (begins_name c) (word_lexeme at (c ∷ cs)) sign (word_lexeme_no_end at (c ∷ cs))
    (marked_no_end (sign_of (take 2 (c ∷ cs))) (marked_or (sign_of (take 1 (c ∷ cs))) (lexeme (Fault BadCharacter) 0))
    (marked_no_end (sign_of (take 1 (c ∷ cs))) (lexeme (Fault BadCharacter) 0) refl)))))

no_end : {P : Type 0} (kind : Kind) → IsNoEnd kind → kind ≡ TextEnd → P
no_end kind h e = let no : false ≡ true = sym h ∙ ap is_end e in absurd cc

kept_end : (o : Option Kind) (end : Position) (at : Place) (ts : List Token) → HasNoEnd o → OneEnd ts
    → OneEnd (tokens_at o end at ++ ts)
kept_end (Some kind) end at ts h single = (λ e. no_end kind h e, single)
kept_end None end at ts h single = single

lexemes_end : (skip : ℕ) (end : Position) (at : Place) (text : List ℕ) → OneEnd (lexemes_from skip end at text)
lexemes_end skip end at [] = (λ e. refl, tt)
lexemes_end (suc skip) end at (c ∷ cs) = lexemes_end skip end (past at c) cs
lexemes_end zero end at (c ∷ cs) =
    let here = lexeme_at at (c ∷ cs) in
    let later = end_after here.kind here.further end at in
    kept_end here.kind end at (lexemes_from here.further later (past at c) cs) (lexeme_no_end at (c ∷ cs))
    (lexemes_end here.further later (past at c) cs)

start_no_end : (state : Lines) (t : Token) → IsNoEnd (start_kind state t)
start_no_end state t =
    by_cond IsNoEnd (not t.spaced) (Fault BadIndent) (if nat_le MAX_LINES state.lines then Fault TooLong else LineStart)
    refl (by_cond IsNoEnd (nat_le MAX_LINES state.lines) (Fault TooLong) LineStart refl refl)

inner_no_end : (state : Lines) (t : Token) → IsNoEnd t.kind → IsNoEnd (inner_kind state t)
inner_no_end state t h = by_cond IsNoEnd (is_past_limit state t) (Fault TooLong) t.kind refl h

laid_one : (state : Lines) (t : Token) (rest : List Token) → (t.kind ≡ TextEnd → rest ≡ []) → OneEnd rest
    → OneEnd (laid state t ++ rest)
laid_one state t rest last single = by (is_end t.kind) refl
  where
    by : (b : Bool) → is_end t.kind ≡ b → OneEnd ((if b then t ∷ [] else
        if begins_line state t then of_kind (start_kind state t) t ∷ t ∷ [] else of_kind (inner_kind state t) t ∷ [])
        ++ rest)
    by true e = (last, single)
    by false e =
        by_cond (λ (l : List Token). OneEnd (l ++ rest)) (begins_line state t)
        (of_kind (start_kind state t) t ∷ t ∷ []) (of_kind (inner_kind state t) t ∷ [])
        (λ f. no_end (start_kind state t) (start_no_end state t) f, (λ f. no_end t.kind e f, single))
        (λ f. no_end (inner_kind state t) (inner_no_end state t e) f, single)

laid_end : (state : Lines) (ts : List Token) → OneEnd ts → OneEnd (laid_from state ts)
laid_end state [] single = tt
laid_end state (t ∷ ts) single =
    laid_one state t (laid_from (beyond state t) ts) (λ e. ap (laid_from (beyond state t)) (single.0 e))
    (laid_end (beyond state t) ts single.1)

pub read_spelled : (text : List ℕ) (rule : RuleForm) → rule_read text ≡ Ok rule → s.Spells text rule
read_spelled text rule e =
    let ts = tokens_of text in
    let found = rule_reads text ts in
    let holds : SpelledBy text ts rule = subst (λ (r : Result RuleForm ReadRuleError). IfOk r (SpelledBy text ts)) e found.holds in
    let single : OneEnd ts = laid_end first_lines (lexemes_of text) (lexemes_end 0 first_end first_place text) in
    let last : holds.after ≡ [] =
    after_end (holds.header ++ holds.lines) holds.after holds.end holds.ends.is
    (subst OneEnd (holds.tokens ∙ sym (append_assoc holds.header holds.lines (holds.end ∷ holds.after))) single) in
    record {
      column = first_column ts;
      named = holds.named;
      header = holds.header;
      lines = holds.lines;
      end = holds.end;
      tokens = holds.tokens ∙ ap (λ (l : List Token). holds.header ++ (holds.lines ++ (holds.end ∷ l))) last;
      ends = holds.ends;
      is_header = holds.is_header;
      is_block = holds.is_block;
      words = holds.words;
    }
