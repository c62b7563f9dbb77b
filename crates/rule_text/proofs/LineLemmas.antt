-- The lines of statements, token by token; a rule that is read has as many as statements.
use Rattle.std.proofs.Common.{◌≡◌, ◌⊎◌, inl, inr, ℕ, ◌+◌, ◌<◌, Bool, true, false, if◌then◌else◌, List, [], ◌∷◌, ◌++◌, length, drop, get_or, refl, sym, ap, subst, ◌∙◌, arith, append_assoc, add-one, length-append}
use Rattle.std.specs.Prelude.{Some, None, Ok}
use Rattle.std.proofs.Math.Seq.{drop-cons}
use Rattle.rule_text.specs.declared.signs.Sign.{Sign}
use Rattle.rule_text.specs.declared.signs.Sign.TheVariants as signs
use Rattle.rule_text.specs.declared.lexemes.Name.{Name}
use Rattle.rule_text.specs.declared.lexemes.Kind.{Kind}
use Rattle.rule_text.specs.declared.lexemes.Kind.TheVariants.{Named, Mark, LineStart}
use Rattle.rule_text.specs.declared.lexemes.Token.{Token}
use Rattle.rule_text.specs.declared.scope.Entry.{Entry}
use Rattle.rule_text.specs.declared.joints.Joint.{Joint}
use Rattle.rule_text.specs.declared.joints.Chain.{Chain}
use Rattle.rule_text.specs.declared.joints.Chain.TheVariants as chains
use Rattle.rule_text.specs.declared.lines.Spot.{Spot}
use Rattle.rule_text.specs.declared.lines.Spot.TheVariants.{Front, Counting, BeforeNode, Inside}
use Rattle.rule_syntax.specs.declared.syntax.Comparison.{Comparison}
use Rattle.rule_syntax.specs.declared.syntax.Target.{Target}
use Rattle.rule_text.specs.Forms.{TermForm, AssignmentForm, StatementForm}
use Rattle.rule_text.specs.Tables.{SourceForm, HeaderForm, source_with}
use Rattle.rule_text.specs.Lines.{spot_after, begins_statement, token_line, token_lines_from, statement_lines, form_statements}
use Rattle.rule_text.specs.Terms.{joint_of, comparison_of, leaf_of}
use Rattle.rule_text.specs.Statements.{RuleForm, rule_read}
use Rattle.rule_text.specs.Spelling as s
use Rattle.rule_text.proofs.SpelledStatements.{read_spelled}

pub next_line : (tokens : List Token) (i : ℕ) (t : Token) (spot : Spot) (all done more : List ℕ) → i < length tokens
    → t ≡ get_or tokens i t → more ≡ done ++ token_line spot t → all ≡ done ++ token_lines_from spot (drop i tokens)
    → all ≡ more ++ token_lines_from (spot_after spot t.kind) (drop (i + 1) tokens)
next_line tokens i t spot all done more within is made before =
    let first : drop i tokens ≡ t ∷ drop (i + 1) tokens =
    (rw add-one (drop-cons tokens i t within)) ∙ ap (λ (x : Token). x ∷ drop (i + 1) tokens) (sym is) in
    before ∙ ap (λ (l : List Token). done ++ token_lines_from spot l) first
    ∙ sym (append_assoc done (token_line spot t) (token_lines_from (spot_after spot t.kind) (drop (i + 1) tokens)))
    ∙ ap (λ (l : List ℕ). l ++ token_lines_from (spot_after spot t.kind) (drop (i + 1) tokens)) (sym made)

-- ---- scans

abbrev steps : Spot → List Token → Spot
steps spot [] = spot
steps spot (t ∷ ts) = steps (spot_after spot t.kind) ts

-- where a scan is: at this spot, or inside a line, maybe after a name
data Stage : Type 0 where
  at : Spot → Stage
  resting : Stage

abbrev IsAt : Stage → Spot → Type 0
IsAt (at spot) p = p ≡ spot
IsAt resting p = (p ≡ Inside) ⊎ (p ≡ BeforeNode)

-- from this spot on the tokens begin n statements, and lead to a stage
record Scanned (to : Stage) (n : ℕ) (ts : List Token) (spot : Spot) : Type 0 where
  pub lines : length (token_lines_from spot ts) ≡ n
  pub ends : IsAt to (steps spot ts)

-- the same from each spot of a stage
record Scans (from to : Stage) (n : ℕ) (ts : List Token) : Type 0 where
  pub scanned : (spot : Spot) → IsAt from spot → Scanned to n ts spot

scans_none : (stage : Stage) → Scans stage stage 0 []
scans_none stage = record { scanned = λ spot is. record { lines = refl; ends = is } }

-- the end of a term, and of one that ends with a square bracket
scans_end : Scans (at Inside) resting 0 []
scans_end = record { scanned = λ spot is. record { lines = refl; ends = inl is } }

scans_bracket : Scans (at BeforeNode) resting 0 []
scans_bracket = record { scanned = λ spot is. record { lines = refl; ends = inr is } }

scans_as : {from to : Stage} {m n : ℕ} {ts : List Token} → m ≡ n → Scans from to m ts → Scans from to n ts
scans_as e a = record {
  scanned = λ spot is. let b = a.scanned spot is in record { lines = b.lines ∙ e; ends = b.ends };
}

-- from one of the spots of a stage
scans_inside : {to : Stage} {n : ℕ} {ts : List Token} → Scans resting to n ts → Scans (at Inside) to n ts
scans_inside a = record { scanned = λ spot is. a.scanned spot (inl is) }

scans_after_name : {to : Stage} {n : ℕ} {ts : List Token} → Scans resting to n ts → Scans (at BeforeNode) to n ts
scans_after_name a = record { scanned = λ spot is. a.scanned spot (inr is) }

scans_resting : {to : Stage} {n : ℕ} {ts : List Token} → Scans (at Inside) to n ts → Scans (at BeforeNode) to n ts
    → Scans resting to n ts
scans_resting a b = record {
  scanned = λ spot is. elim is [ inl inside ↦ a.scanned spot inside | inr named ↦ b.scanned spot named ];
}

scans_both : {from mid to : Stage} {m n : ℕ} {xs ys : List Token} → Scans from mid m xs → Scans mid to n ys
    → Scans from to (m + n) (xs ++ ys)
scans_both {mid = mid} {to = to} {m = m} {n = n} {xs = xs} {ys = ys} a b = record { scanned = λ spot is. both spot (a.scanned spot is) }
  where
    lines_append : (p : Spot) (us vs : List Token)
        → length (token_lines_from p (us ++ vs)) ≡ length (token_lines_from p us) + length (token_lines_from (steps p us) vs)
    lines_append p [] vs = omega arith
    lines_append p (u ∷ us) vs =
        omega (
          arith,
          length-append (token_line p u) (token_lines_from (spot_after p u.kind) (us ++ vs)),
          length-append (token_line p u) (token_lines_from (spot_after p u.kind) us),
          lines_append (spot_after p u.kind) us vs,
        )

    steps_append : (p : Spot) (us vs : List Token) → steps p (us ++ vs) ≡ steps (steps p us) vs
    steps_append p [] vs = refl
    steps_append p (u ∷ us) vs = steps_append (spot_after p u.kind) us vs

    both : (spot : Spot) → Scanned mid m xs spot → Scanned to (m + n) (xs ++ ys) spot
    both spot first =
        let second = b.scanned (steps spot xs) first.ends in
        let joined = lines_append spot xs ys in
        record {
          lines = omega (arith, joined, first.lines, second.lines);
          ends = subst (IsAt to) (sym (steps_append spot xs ys)) second.ends;
        }

-- a token of a kind, of which these are the lines and the spot after it
scans_kind : {kind : Kind} {to : Stage} {n : ℕ} {ts : List Token} (spot mid : Spot) (m : ℕ) (t : Token)
    → s.HasKind kind t → ((u : Token) → u.kind ≡ kind → length (token_line spot u) ≡ m) → spot_after spot kind ≡ mid
    → Scans (at mid) to n ts → Scans (at spot) to (m + n) (t ∷ ts)
scans_kind {to = to} {n = n} {ts = ts} spot mid m t is one next a =
    let after : spot_after spot t.kind ≡ mid = ap (spot_after spot) is.is ∙ next in
    let rest = a.scanned (spot_after spot t.kind) after in
    let here : Scanned to (m + n) (t ∷ ts) spot = record {
      lines = omega (
        arith,
        length-append (token_line spot t) (token_lines_from (spot_after spot t.kind) ts),
        one t is.is,
        rest.lines,
      );
      ends = rest.ends;
    } in
    record { scanned = λ p same. subst (Scanned to (m + n) (t ∷ ts)) (sym same) here }

-- a token inside a line begins no statement
quiet : {kind : Kind} {to : Stage} {n : ℕ} {ts : List Token} (spot mid : Spot) (t : Token) → s.HasKind kind t
    → ((u : Token) → length (token_line spot u) ≡ 0) → spot_after spot kind ≡ mid → Scans (at mid) to n ts
    → Scans (at spot) to n (t ∷ ts)
quiet {kind = kind} spot mid t is none next a =
    scans_as (omega arith) (scans_kind {kind = kind} spot mid 0 t is (λ u e. none u) next a)

-- nor does one after a name
inner : {kind : Kind} {mid : Spot} {to : Stage} {n : ℕ} {ts : List Token} (t : Token) → s.HasKind kind t
    → spot_after Inside kind ≡ mid → spot_after BeforeNode kind ≡ mid → Scans (at mid) to n ts
    → Scans resting to n (t ∷ ts)
inner {kind = kind} {mid = mid} t is next later a =
    scans_resting (quiet {kind = kind} Inside mid t is (λ u. refl) next a)
    (quiet {kind = kind} BeforeNode mid t is (λ u. refl) later a)

-- a name
called : {name : Name} {to : Stage} {n : ℕ} {ts : List Token} (t : Token) → s.HasKind (Named name) t
    → Scans resting to n ts → Scans (at Inside) to n (t ∷ ts)
called {name = name} t is a =
    quiet {kind = Named name} Inside BeforeNode t is (λ u. refl) refl (scans_after_name a)

front_line : (u : Token) (kind : Kind) (b : Bool) → u.kind ≡ kind → begins_statement kind ≡ b
    → length (token_line Front u) ≡ (if b then 1 else 0)
front_line u kind b e f =
    let is : begins_statement u.kind ≡ b = ap begins_statement e ∙ f in
    ap (λ (c : Bool). length (if c then u.line ∷ [] else [])) is ∙ by b
  where
    by : (c : Bool) → length (if c then u.line ∷ [] else []) ≡ (if c then 1 else 0)
    by true = refl
    by false = refl

-- a token at the front begins a statement, or none
first : {kind : Kind} {mid : Spot} {to : Stage} {n : ℕ} {ts : List Token} (t : Token) → s.HasKind kind t
    → begins_statement kind ≡ true → spot_after Front kind ≡ mid → Scans (at mid) to n ts
    → Scans (at Front) to (1 + n) (t ∷ ts)
first {kind = kind} {mid = mid} t is begins next a =
    scans_kind {kind = kind} Front mid 1 t is (λ u e. front_line u kind true e begins) next a

passed : {kind : Kind} {mid : Spot} {to : Stage} {n : ℕ} {ts : List Token} (t : Token) → s.HasKind kind t
    → begins_statement kind ≡ false → spot_after Front kind ≡ mid → Scans (at mid) to n ts
    → Scans (at Front) to n (t ∷ ts)
passed {kind = kind} {mid = mid} t is begins next a =
    scans_as (omega arith)
    (scans_kind {kind = kind} Front mid 0 t is (λ u e. front_line u kind false e begins) next a)

-- the start of a line
started : {column : ℕ} {to : Stage} {n : ℕ} {ts : List Token} (t : Token) → s.IsLineStart column t
    → Scans (at Front) to n ts → Scans resting to n (t ∷ ts)
started t is a = inner t is.start refl refl a

-- also where a statement can begin
also_from_front : {column : ℕ} {to : Stage} {n : ℕ} {ts : List Token} (t : Token) → s.IsLineStart column t
    → Scans resting to n (t ∷ ts) → Scans (at Front) to n (t ∷ ts)
also_from_front {to = to} {n = n} {ts = ts} t start a =
    let b = a.scanned Inside (inl refl) in
    let none : length (token_line Front t) ≡ 0 = front_line t LineStart false start.start.is refl in
    let same : spot_after Front t.kind ≡ spot_after Inside t.kind =
    ap (spot_after Front) start.start.is ∙ sym (ap (spot_after Inside) start.start.is) in
    let rest = ap (λ (p : Spot). length (token_lines_from p ts)) same in
    let here : Scanned to n (t ∷ ts) Front = record {
      lines = omega (
        arith,
        length-append (token_line Front t) (token_lines_from (spot_after Front t.kind) ts),
        none,
        rest,
        b.lines,
      );
      ends = subst (λ (p : Spot). IsAt to (steps p ts)) (sym same) b.ends;
    } in
    record { scanned = λ p is. subst (Scanned to n (t ∷ ts)) (sym is) here }

-- ---- terms

-- a line goes on after a token of this kind, which isn't a name
record GoesOn (kind : Kind) : Type 0 where
  pub inside : spot_after Inside kind ≡ Inside
  pub named : spot_after BeforeNode kind ≡ Inside

joint_goes_on : (chain : Chain) (kind : Kind) (joint : Joint) → joint_of chain kind ≡ Some joint → GoesOn kind
joint_goes_on chains.Product (Mark signs.Colon) joint e = absurd (let no : None ≡ Some joint = e in cc)
joint_goes_on chains.Product (Mark signs.Count) joint e = absurd (let no : None ≡ Some joint = e in cc)
joint_goes_on chains.Product (Mark signs.CloseSquare) joint e = absurd (let no : None ≡ Some joint = e in cc)
joint_goes_on chains.Sum (Mark signs.Colon) joint e = absurd (let no : None ≡ Some joint = e in cc)
joint_goes_on chains.Sum (Mark signs.Count) joint e = absurd (let no : None ≡ Some joint = e in cc)
joint_goes_on chains.Sum (Mark signs.CloseSquare) joint e = absurd (let no : None ≡ Some joint = e in cc)
joint_goes_on chains.Both (Mark signs.Colon) joint e = absurd (let no : None ≡ Some joint = e in cc)
joint_goes_on chains.Both (Mark signs.Count) joint e = absurd (let no : None ≡ Some joint = e in cc)
joint_goes_on chains.Both (Mark signs.CloseSquare) joint e = absurd (let no : None ≡ Some joint = e in cc)
joint_goes_on chains.Either (Mark signs.Colon) joint e = absurd (let no : None ≡ Some joint = e in cc)
joint_goes_on chains.Either (Mark signs.Count) joint e = absurd (let no : None ≡ Some joint = e in cc)
joint_goes_on chains.Either (Mark signs.CloseSquare) joint e = absurd (let no : None ≡ Some joint = e in cc)
joint_goes_on chain LineStart joint e = absurd (let no : None ≡ Some joint = e in cc)
joint_goes_on chain (Named name) joint e = absurd (let no : None ≡ Some joint = e in cc)
joint_goes_on chain kind joint e = record { inside = refl; named = refl }

comparison_goes_on : (kind : Kind) (comparison : Comparison) → comparison_of kind ≡ Some comparison → GoesOn kind
comparison_goes_on (Mark signs.Colon) comparison e = absurd (let no : None ≡ Some comparison = e in cc)
comparison_goes_on (Mark signs.Count) comparison e = absurd (let no : None ≡ Some comparison = e in cc)
comparison_goes_on (Mark signs.CloseSquare) comparison e = absurd (let no : None ≡ Some comparison = e in cc)
comparison_goes_on LineStart comparison e = absurd (let no : None ≡ Some comparison = e in cc)
comparison_goes_on (Named name) comparison e = absurd (let no : None ≡ Some comparison = e in cc)
comparison_goes_on kind comparison e = record { inside = refl; named = refl }

leaf_goes_on : (sign : Sign) (a : TermForm) → leaf_of sign ≡ Some a → GoesOn (Mark sign)
leaf_goes_on signs.Colon a e = absurd (let no : None ≡ Some a = e in cc)
leaf_goes_on signs.Count a e = absurd (let no : None ≡ Some a = e in cc)
leaf_goes_on signs.CloseSquare a e = absurd (let no : None ≡ Some a = e in cc)
leaf_goes_on sign a e = record { inside = refl; named = refl }

abbrev Quiet : List Token → Type 0
Quiet ts = Scans (at Inside) resting 0 ts

-- an operator, and more of the term
operator : (o : Token) (ts : List Token) → GoesOn o.kind → Quiet ts → Scans resting resting 0 (o ∷ ts)
operator o ts goes a = inner {kind = o.kind} o (record { is = refl }) goes.inside goes.named a

-- a word or sign, inside a line
inside : {kind : Kind} {mid : Spot} {to : Stage} {n : ℕ} {ts : List Token} (t : Token) → s.HasKind kind t
    → spot_after Inside kind ≡ mid → Scans (at mid) to n ts → Scans (at Inside) to n (t ∷ ts)
inside {kind = kind} {mid = mid} t is next a = quiet {kind = kind} Inside mid t is (λ u. refl) next a

module _ (text : List ℕ) where
  -- the colon after the name of an aggregate
  counting : (n d : Token) {maker : _} {names more : List Entry} {ts : List Token} → s.IsNew text maker names n more
      → s.IsSign signs.Colon d → Quiet ts → Scans (at Counting) resting 0 (n ∷ d ∷ ts)
  counting n d new colon a =
      quiet {kind = Named new.name} Counting Counting n new.named (λ u. refl) refl
      (quiet {kind = Mark signs.Colon} Counting Inside d colon (λ u. refl) refl a)

  -- and of the name after `least`, or after the bracket of `sorted`
  node : (n d : Token) {maker : _} {names more : List Entry} {ts : List Token} → s.IsNew text maker names n more
      → s.IsSign signs.Colon d → Quiet ts → Scans (at BeforeNode) resting 0 (n ∷ d ∷ ts)
  node n d new colon a =
      quiet {kind = Named new.name} BeforeNode Counting n new.named (λ u. refl) refl
      (quiet {kind = Mark signs.Colon} Counting Inside d colon (λ u. refl) refl a)

  counting_least : (l n d : Token) {letters : List ℕ} {maker : _} {names more : List Entry} {ts : List Token}
      → s.IsNameOf text letters l → s.IsNew text maker names n more → s.IsSign signs.Colon d → Quiet ts
      → Quiet (l ∷ n ∷ d ∷ ts)
  counting_least l n d word new colon a =
      quiet {kind = Named word.name} Inside BeforeNode l word.named (λ u. refl) refl (node n d new colon a)

  -- one token, and more of the line
  leaf_scans : {to : Stage} {n : ℕ} {names : List Entry} {ts : List Token} {a : TermForm} (t : Token)
      → s.IsLeaf text names t a → Scans resting to n ts → Scans (at Inside) to n (t ∷ ts)
  leaf_scans t (s.numeral is) more = inside t is refl (scans_inside more)
  leaf_scans t (s.named is e f) more = called t is more
  leaf_scans t (s.given is e) more = inside t is (leaf_goes_on _ _ e).inside (scans_inside more)

module _ (source : SourceForm) where
  term_scans : {level : s.Level} {names : List Entry} {ts : List Token} {a : TermForm}
      → s.IsTerm source level names ts a
      → Quiet ts
  term_scans (s.alone h) = term_scans h
  term_scans (s.chosen x i t e y) =
      scans_both (term_scans x) (inner _ i refl refl (scans_both (term_scans t) (inner _ e refl refl (term_scans y))))
  term_scans (s.counted c n d h) = inside _ c refl (counting source.text _ _ n d (term_scans h))
  term_scans (s.least_of l n d h) = counting_least source.text _ _ _ l n d (term_scans h)
  term_scans (s.sorted_at w o k fixed c n d h) =
      inside _ w refl (inside _ o refl (scans_both (term_scans k)
      (inner _ c refl refl (node source.text _ _ n d (term_scans h)))))
  term_scans (s.joined o x e y) =
      scans_both (term_scans x) (operator o _ (joint_goes_on _ o.kind _ e) (term_scans y))
  term_scans (s.not_so o h) = inside _ o refl (term_scans h)
  term_scans (s.beside o x e y) =
      scans_both (term_scans x) (operator o _ (comparison_goes_on o.kind _ e) (term_scans y))
  term_scans (s.leaf one) = leaf_scans source.text _ one (scans_none resting)
  term_scans (s.looked_up is e o one c) =
      called _ is (inner _ o refl refl (leaf_scans source.text _ one (inner _ c refl refl scans_bracket)))
  term_scans (s.received m o h c) =
      inside _ m refl (inside _ o refl (scans_both (term_scans h) (inner _ c refl refl scans_bracket)))
  term_scans (s.bracketed o h c) = inside _ o refl (scans_both (term_scans h) (inner _ c refl refl scans_end))

  -- ---- statements without blocks

  target_scans : {names : List Entry} (t : Token) (target : Target) → s.IsTarget source.text names t target
      → Quiet (t ∷ [])
  target_scans t target (s.the_clock is) = inside t is refl scans_end
  target_scans t target (s.a_let is e) = called t is (scans_none resting)
  target_scans t target (s.a_word is e) = called t is (scans_none resting)

  target_first : {names : List Entry} (t : Token) (target : Target) → s.IsTarget source.text names t target
      → Scans (at Front) resting 1 (t ∷ [])
  target_first t target (s.the_clock is) = first t is refl refl scans_end
  target_first t target (s.a_let is e) = first t is refl refl (scans_after_name (scans_none resting))
  target_first t target (s.a_word is e) = first t is refl refl (scans_after_name (scans_none resting))

  targets_scan : {names : List Entry} {ts : List Token} {targets : List Target}
      → s.AreTargets source.text names ts targets
      → Scans (at Front) resting 1 ts
  targets_scan (s.first_target is) = target_first _ _ is
  targets_scan (s.next_target h c is once) = scans_both (targets_scan h) (inner _ c refl refl (target_scans _ _ is))

  numbers_scan : {names : List Entry} {ts : List Token} {targets : List Target} {a : AssignmentForm}
      → s.AreTerms source names ts targets a → Quiet ts
  numbers_scan (s.first_number h) = term_scans h
  numbers_scan (s.next_number h c e) = scans_both (numbers_scan h) (inner _ c refl refl (term_scans e))

  action_scans : {names : List Entry} {ts : List Token} {a : StatementForm} → s.IsAction source names ts a
      → Scans (at Front) resting (form_statements a) ts
  action_scans (s.sent is e) = first _ is refl refl (term_scans e)
  action_scans (s.sent_to is e t k) =
      first _ is refl refl (scans_both (term_scans e) (inner _ t refl refl (term_scans k)))
  action_scans (s.set ts b ns) = scans_both (targets_scan ts) (inner _ b refl refl (numbers_scan ns))

  let_scans : {names more : List Entry} {ts : List Token} {e : TermForm} → s.IsLet source names ts more e
      → Scans (at Front) resting 1 ts
  let_scans l =
      subst (λ (ts : List Token). Scans (at Front) resting 1 ts) (sym l.tokens)
      (first l.«let» l.is_let refl refl (called l.name l.is_new.named (inner l.becomes l.is_becomes refl refl
      (term_scans l.is_term))))

  simple_scans : {names : List Entry} {ts : List Token} {a : StatementForm} → s.IsSimple source names ts a
      → Scans (at Front) resting (form_statements a) ts
  simple_scans (s.action is) = action_scans is
  simple_scans (s.let_alone l) = let_scans l

  -- ---- statements and blocks

  abbrev StartsIn : ℕ → List Token → Type 0
  StartsIn column [] = Unit {0}
  StartsIn column (t ∷ ts) = s.IsLineStart column t

  block_first : {column : ℕ} {names : List Entry} {us : List Token} {a : StatementForm}
      → s.IsBlock source column names us a
      → StartsIn column us
  block_first s.empty = tt
  block_first (s.let_line start l rest) = start
  block_first (s.line start l rest) = start

  -- the cases of a condition begin one statement less, that of the "if" or "elif" before them
  record Cases (a : StatementForm) (ts : List Token) : Type 0 where
    pub count : ℕ
    pub scans : Scans (at Inside) resting count ts
    pub more : count + 1 ≡ form_statements a

  mutual
    block_scans : {column : ℕ} {names : List Entry} {ts : List Token} {a : StatementForm}
        → s.IsBlock source column names ts a → Scans resting resting (form_statements a) ts
    block_scans s.empty = scans_none resting
    block_scans (s.let_line start l rest) =
        scans_as (omega arith) (started _ start (scans_both (let_scans l) (block_scans rest)))
    block_scans (s.line start one rest) = started _ start (scans_both (statement_scans one) (block_scans rest))

    statement_scans : {column : ℕ} {names : List Entry} {ts : List Token} {a : StatementForm}
        → s.IsStatement source column names ts a → Scans (at Front) resting (form_statements a) ts
    statement_scans (s.does is) = action_scans is
    statement_scans (s.loop is new body) =
        scans_as (omega arith) (first _ is refl refl (called _ new.named (body_scans body)))
    statement_scans (s.case is all) =
        let c = cases_scan all in
        scans_as (omega (arith, c.more)) (first _ is refl refl c.scans)

    cases_scan : {column : ℕ} {names : List Entry} {ts : List Token} {a : StatementForm}
        → s.AreCases source column names ts a → Cases a ts
    cases_scan (s.cases test body other) = record {
      count = _;
      scans = scans_both (term_scans test) (scans_both (body_scans body) (otherwise_scans other));
      more = omega arith;
    }

    otherwise_scans : {column : ℕ} {names : List Entry} {ts : List Token} {a : StatementForm}
        → s.IsOtherwise source column names ts a → Scans resting resting (form_statements a) ts
    otherwise_scans s.none = scans_none resting
    otherwise_scans (s.elif_line start is all) =
        let c = cases_scan all in
        scans_as (omega (arith, c.more)) (started _ start (first _ is refl refl c.scans))
    otherwise_scans (s.else_line start is body) =
        started _ start (passed _ is refl refl (scans_inside (body_scans body)))

    body_scans : {column : ℕ} {names : List Entry} {ts : List Token} {a : StatementForm}
        → s.IsBody source column names ts a → Scans resting resting (form_statements a) ts
    body_scans (s.same_line is simple) = inner _ is refl refl (simple_scans simple)
    body_scans (s.deeper is further block) =
        inner _ is refl refl (also_from_front _ (block_first block) (block_scans block))

module _ (text : List ℕ) where
  -- ---- rules

  words_scan : {names all : List Entry} {ts : List Token} → s.AreWords text names ts all → Quiet ts
  words_scan (s.last_word new) = called _ new.named (scans_none resting)
  words_scan (s.word_before new c rest) = called _ new.named (inner _ c refl refl (words_scan rest))

  cell_scans : {to : Stage} {n : ℕ} {v : ℕ} {ts : List Token} (t : Token) → s.IsCell t v → Scans resting to n ts
      → Scans (at Inside) to n (t ∷ ts)
  cell_scans t (s.a_number is) more = inside t is refl (scans_inside more)
  cell_scans t (s.no_message is) more = inside t is refl (scans_inside more)

  cells_scan : {done all : List ℕ} {ts : List Token} → s.AreCells done ts all → Quiet ts
  cells_scan (s.last_cell is) = cell_scans _ is (scans_none resting)
  cells_scan (s.cell_before is c rest) = cell_scans _ is (inner _ c refl refl (cells_scan rest))

  table_scans : {before more : HeaderForm} {ts : List Token} → s.IsTableLine text before ts more → Quiet ts
  table_scans h =
      subst (λ (ts : List Token). Quiet ts) (sym h.tokens)
      (called h.name h.is_new.named (inner h.becomes h.is_becomes refl refl (inside h.opening h.is_opening refl
      (scans_both (cells_scan h.are_cells) (inner h.closing h.is_closing refl refl scans_bracket)))))

  header_scans : {column : ℕ} {before all : HeaderForm} {ts : List Token} → s.IsHeader text column before ts all
      → Scans resting resting 0 ts
  header_scans s.no_line = scans_none resting
  header_scans (s.table_line start is table rest) =
      started _ start (passed _ is refl refl (scans_both (table_scans table) (header_scans rest)))
  header_scans (s.state_line start is words rest) =
      started _ start (passed _ is refl refl (scans_both (words_scan words) (header_scans rest)))

pub one_line_each : (text : List ℕ) (rule : RuleForm) → rule_read text ≡ Ok rule
    → length (statement_lines text) ≡ form_statements rule.statement
one_line_each text rule e =
    let sp = read_spelled text rule e in
    let all = scans_both (header_scans text sp.is_header)
    (scans_both (block_scans (source_with text sp.named) sp.is_block)
    (inner sp.end sp.ends refl refl (scans_none (at Inside)))) in
    let found = all.scanned Inside (inl refl) in
    ap (λ (ts : List Token). length (token_lines_from Inside ts)) sp.tokens ∙ found.lines ∙ omega arith
