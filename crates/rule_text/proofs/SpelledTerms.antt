-- A term that is read is spelled by the tokens that it takes.
use Rattle.std.proofs.Common.{◌≡◌, ℕ, zero, suc, Bool, true, false, cond, List, [], ◌∷◌, ◌++◌, length, refl, sym, ap, subst, ◌∙◌, append_assoc, append-nil}
use Rattle.std.specs.Prelude.{nat_le, codes, ◌&&◌, option_map, Option, Some, None, Result, Ok, Err, IfOk}
use Rattle.std.proofs.lemmas.Slice.Eq.{bytes_eq-Decides}
use Rattle.std.proofs.lemmas.Bool.{leb-false, and_parts}
use Rattle.std.proofs.lemmas.Option.{same_Some}
use Rattle.rule_syntax.specs.declared.syntax.Comparison.{Comparison}
use Rattle.rule_syntax.specs.declared.syntax.Operator.TheVariants.{Compare}
use Rattle.rule_text.specs.declared.errors.RuleError.TheVariants.{Expected, UnknownName, NameTwice, TooDeep, TooLong}
use Rattle.rule_text.specs.declared.errors.ReadRuleError.{ReadRuleError}
use Rattle.rule_text.specs.declared.signs.Sign.{Sign}
use Rattle.rule_text.specs.declared.signs.Sign.TheVariants as signs
use Rattle.rule_text.specs.declared.lexemes.Name.{Name}
use Rattle.rule_text.specs.declared.lexemes.Kind.{Kind}
use Rattle.rule_text.specs.declared.lexemes.Kind.TheVariants.{Number, Named, Mark}
use Rattle.rule_text.specs.declared.lexemes.Token.{Token}
use Rattle.rule_text.specs.declared.layout.TheConstants.{MAX_LINE_TOKENS}
use Rattle.rule_text.specs.declared.scope.Meaning.{Meaning}
use Rattle.rule_text.specs.declared.scope.Meaning.TheVariants.{Table}
use Rattle.rule_text.specs.declared.scope.Entry.{Entry}
use Rattle.rule_text.specs.declared.scope.Maker.{Maker}
use Rattle.rule_text.specs.declared.scope.Maker.TheVariants as makers
use Rattle.rule_text.specs.declared.scope.TheConstants.{MAX_NAMES}
use Rattle.rule_text.specs.declared.aggregates.Aggregate.{Aggregate}
use Rattle.rule_text.specs.declared.aggregates.Aggregate.TheVariants as aggregates
use Rattle.rule_text.specs.declared.joints.Joint.{Joint}
use Rattle.rule_text.specs.declared.joints.Chain.{Chain}
use Rattle.rule_text.specs.declared.joints.Chain.TheVariants as chains
use Rattle.rule_text.specs.declared.terms.Grade.{Grade}
use Rattle.rule_text.specs.declared.terms.Grade.TheVariants.{Whole, Inverse}
use Rattle.rule_text.specs.declared.terms.TheConstants.{MAX_PARTS}
use Rattle.rule_text.specs.Signs.{sign_text, sign_of, is_same}
use Rattle.rule_text.specs.Forms.{TermForm, number, message, binary, inverse, choice, sorted, is_constant_form}
use Rattle.rule_text.specs.Tables.{SourceForm, table_at, table_term}
use Rattle.rule_text.specs.Scopes.{◌>>=◌, rule_error_at, error_in, letters_of, meaning_of, scope_entry, next_meaning, added, named_entry_by, named_entry, new_name}
use Rattle.rule_text.specs.Terms.{is_of_sign, rest_after, wanted, joint_of, comparison_of, joint_in, comparison_in, is_least, begins_with_name, after_least, aggregate_in, aggregated, join, named_term, leaf_of, Reader, Inner, leaf, named_leaf, leaf_by, leaf_read, lookup_read, named_atom, bracketed, message_read, marked_atom, atom_by, atom, chain_step, chain_rest, chain_of, compare_rest, compare_read, inverse_read, operand_read, chain_read, choice_read, choice_rest, item_read, aggregate_read, constant_only, place_read, sorted_read, plain_read, sorted_or_plain, whole_read, part, term_read}
use Rattle.rule_text.specs.Spelling as s

-- ---- readings

-- this holds of what is read, if something is
pub record Reads {A : Type 0} (r : Result A ReadRuleError) (P : A → Type 0) : Type 0 where
  pub holds : IfOk r P

pub fails : {A : Type 0} {P : A → Type 0} (e : ReadRuleError) → Reads (Err e) P
fails e = record { holds = tt }

pub gives : {A : Type 0} {P : A → Type 0} (x : A) → P x → Reads (Ok x) P
gives x is = record { holds = is }

pub read_then : {A B : Type 0} {P : A → Type 0} {Q : B → Type 0} (r : Result A ReadRuleError) (f : A → Result B ReadRuleError)
    → Reads r P → ((x : A) → P x → Reads (f x) Q) → Reads (r >>= f) Q
read_then (Ok x) f h next = next x h.holds
read_then (Err e) f h next = fails e

pub implied : {A : Type 0} {P Q : A → Type 0} (r : Result A ReadRuleError) → Reads r P → ((x : A) → P x → Q x) → Reads r Q
implied (Ok x) h f = gives x (f x h.holds)
implied (Err e) h f = fails e

pub by_option : {A B : Type 0} {Q : B → Type 0} (o : Option A) (some : A → Result B ReadRuleError)
    (other : Result B ReadRuleError) → ((x : A) → o ≡ Some x → Reads (some x) Q) → (o ≡ None → Reads other Q)
    → Reads (elim o [ Some x ↦ some x | None ↦ other ]) Q
by_option (Some x) some other f g = f x refl
by_option None some other f g = g refl

pub by_test : {B : Type 0} {Q : B → Type 0} (b : Bool) (x y : Result B ReadRuleError) → (b ≡ true → Reads x Q)
    → (b ≡ false → Reads y Q) → Reads (cond b x y) Q
by_test true x y f g = f refl
by_test false x y f g = g refl

-- what was read took the tokens at the front, of which this holds
pub record Took (ts rest : List Token) (P : List Token → Type 0) : Type 0 where
  pub used : List Token
  pub split : ts ≡ used ++ rest
  pub is : P used

pub took : {ts rest : List Token} {P Q : List Token → Type 0} → Took ts rest P → ((us : List Token) → P us → Q us)
    → Took ts rest Q
took t f = record { used = t.used; split = t.split; is = f t.used t.is }

-- nothing more
pub took_end : {rest : List Token} {Q : List Token → Type 0} → Q [] → Took rest rest Q
took_end is = record { used = []; split = refl; is = is }

-- a token, and more
pub took_more : {ts rest : List Token} {Q : List Token → Type 0} (t : Token) → Took ts rest (λ us. Q (t ∷ us))
    → Took (t ∷ ts) rest Q
took_more t a = record { used = t ∷ a.used; split = ap (λ (l : List Token). t ∷ l) a.split; is = a.is }

-- a part, and more
pub took_past : {ts mid rest : List Token} {P Q : List Token → Type 0} (a : Took ts mid P)
    → Took mid rest (λ vs. Q (a.used ++ vs)) → Took ts rest Q
took_past {rest = rest} a b = record {
  used = a.used ++ b.used;
  split = a.split ∙ ap (λ (l : List Token). a.used ++ l) b.split ∙ sym (append_assoc a.used b.used rest);
  is = b.is;
}

pub took_then : {ts mid rest : List Token} {P Q : List Token → Type 0} → Took ts mid P
    → ((us : List Token) → P us → Took mid rest (λ vs. Q (us ++ vs))) → Took ts rest Q
took_then a next = took_past a (next a.used a.is)

pub took_of : {ts us rest : List Token} {P : List Token → Type 0} → ts ≡ us → Took us rest P → Took ts rest P
took_of e a = record { used = a.used; split = e ∙ a.split; is = a.is }

-- ---- signs

sign_again : (a : Sign) → sign_of (sign_text a) ≡ Some a
sign_again signs.State = refl
sign_again _ = refl

same_sign : (a b : Sign) → is_same a b ≡ true → b ≡ a
same_sign a b e =
    let d = bytes_eq-Decides (sign_text a) (sign_text b) in
    let f = sign_again a in
    let g = sign_again b in
    let h : sign_of (sign_text a) ≡ sign_of (sign_text b) = ap sign_of (d.0 e) in
    cc

marked_kind : (a : Sign) (kind : Kind) → is_of_sign a kind ≡ true → kind ≡ Mark a
marked_kind a (Mark b) e = ap Mark (same_sign a b e)
marked_kind a kind e = absurd (let no : false ≡ true = e in cc)

-- the first token is this sign
pub record Front (a : Sign) (ts rest : List Token) : Type 0 where
  pub first : Token
  pub split : ts ≡ first ∷ rest
  pub sign : s.IsSign a first

pub after_front : (a : Sign) (ts rest : List Token) → rest_after a ts ≡ Some rest → Front a ts rest
after_front a [] rest e = absurd (let no : None ≡ Some rest = e in cc)
after_front a (t ∷ ts) rest e = by (is_of_sign a t.kind) refl e
  where
    by : (b : Bool) → is_of_sign a t.kind ≡ b → cond b (Some ts) None ≡ Some rest → Front a (t ∷ ts) rest
    by true is f = record {
      first = t;
      split = let same : Some ts ≡ Some rest = f in let same2 : ts ≡ rest = cc in ap (λ (l : List Token). t ∷ l) same2;
      sign = record { is = marked_kind a t.kind is };
    }
    by false is f = absurd (let no : None ≡ Some rest = f in cc)

pub wanted_reads : (a : Sign) (ts : List Token) → Reads (wanted a ts) (λ rest. Front a ts rest)
wanted_reads a ts = by_option (rest_after a ts) (λ rest. Ok rest) (Err (error_in Expected ts))
    (λ rest e. gives rest (after_front a ts rest e)) (λ e. fails (error_in Expected ts))

pub took_front : {a : Sign} {ts mid rest : List Token} {Q : List Token → Type 0} → Front a ts mid
    → ((t : Token) → s.IsSign a t → Took mid rest (λ us. Q (t ∷ us))) → Took ts rest Q
took_front f next = took_of f.split (took_more f.first (next f.first f.sign))

-- ---- names

module _ (text : List ℕ) where
  entry_reads : (maker : Maker) (names : List Entry) (t : Token) (kind : Kind) → t.kind ≡ kind
      → Reads (named_entry_by text maker names kind t) (λ more. s.IsNew text maker names t more)
  entry_reads maker names t (Named name) e = by (meaning_of text names name) refl
    where
      by : (known : Option Meaning) → meaning_of text names name ≡ known
          → Reads (added known maker name names t) (λ more. s.IsNew text maker names t more)
      by (Some meaning) known = fails (rule_error_at NameTwice t)
      by None known = by_test (nat_le MAX_NAMES (length names)) (Err (rule_error_at TooDeep t))
          (Ok (names ++ scope_entry name (next_meaning maker names) ∷ [])) (λ full. fails (rule_error_at TooDeep t))
          (λ room. gives (names ++ scope_entry name (next_meaning maker names) ∷ []) (record {
            name = name;
            named = record { is = e };
            new = known;
            room = leb-false MAX_NAMES (length names) room;
            added = refl;
          }))
  entry_reads maker names t kind e = fails (rule_error_at Expected t)

  pub record New (maker : Maker) (names : List Entry) (ts : List Token) (more : List Entry) (rest : List Token) : Type 0 where
    pub first : Token
    pub split : ts ≡ first ∷ rest
    pub is : s.IsNew text maker names first more

  pub new_reads : (maker : Maker) (names : List Entry) (ts : List Token)
      → Reads (new_name text maker names ts) (λ x. New maker names ts x.0 x.1)
  new_reads maker names [] = fails (error_in Expected [])
  new_reads maker names (t ∷ ts) =
      read_then (named_entry text maker names t) (λ more. Ok (more, ts)) (entry_reads maker names t t.kind refl)
      (λ more is. gives (more, ts) (record { first = t; split = refl; is = is }))

  pub took_new : {maker : Maker} {names more : List Entry} {ts mid rest : List Token} {Q : List Token → Type 0}
      → New maker names ts more mid
      → ((t : Token) → s.IsNew text maker names t more → Took mid rest (λ us. Q (t ∷ us))) → Took ts rest Q
  took_new n next = took_of n.split (took_more n.first (next n.first n.is))

  -- ---- aggregates

  least_named : (t : Token) (kind : Kind) → t.kind ≡ kind → is_least text kind ≡ true
      → s.IsNameOf text (codes "least") t
  least_named t (Named name) e is =
      record {
        name = name;
        named = record { is = e };
        written = (bytes_eq-Decides (letters_of text name) (codes "least")).0 is;
      }
  least_named t kind e is = absurd (let no : false ≡ true = is in cc)

  abbrev IsAggregate : Aggregate → Token → Type 0
  IsAggregate aggregates.Count t = s.IsSign signs.Count t
  IsAggregate aggregates.Least t = s.IsNameOf text (codes "least") t

  -- the word of an aggregate is the first token
  record FrontAggregate (aggregate : Aggregate) (ts rest : List Token) : Type 0 where
    pub first : Token
    pub split : ts ≡ first ∷ rest
    pub is : IsAggregate aggregate first

  least_front : (ts rest : List Token) → after_least text ts ≡ Some rest → FrontAggregate aggregates.Least ts rest
  least_front [] rest e = absurd (let no : None ≡ Some rest = e in cc)
  least_front (t ∷ ts) rest e = by (is_least text t.kind && begins_with_name ts) refl e
    where
      by : (b : Bool) → (is_least text t.kind && begins_with_name ts) ≡ b → cond b (Some ts) None ≡ Some rest
          → FrontAggregate aggregates.Least (t ∷ ts) rest
      by true is f =
          let both = and_parts (is_least text t.kind) (begins_with_name ts) is in
          record {
            first = t;
            split = ap (λ (l : List Token). t ∷ l) (same_Some ts rest f);
            is = least_named t t.kind refl both.0;
          }
      by false is f = absurd (let no : None ≡ Some rest = f in cc)

  aggregate_front : (ts : List Token) (x : Aggregate × List Token) → aggregate_in text ts ≡ Some x
      → FrontAggregate x.0 ts x.1
  aggregate_front ts x e = by (rest_after signs.Count ts) refl e
    where
      least : (o : Option (List Token)) → after_least text ts ≡ o
          → option_map (λ rest. (aggregates.Least, rest)) o ≡ Some x → FrontAggregate x.0 ts x.1
      least None is f = absurd (let no : None ≡ Some x = f in cc)
      least (Some rest) is f =
          subst (λ (y : Aggregate × List Token). FrontAggregate y.0 ts y.1)
          (same_Some (aggregates.Least, rest) x f) (least_front ts rest is)

      by : (o : Option (List Token)) → rest_after signs.Count ts ≡ o
          → elim o [
            | Some rest ↦ Some (aggregates.Count, rest)
            | None ↦ option_map (λ rest. (aggregates.Least, rest)) (after_least text ts)
          ] ≡ Some x
          → FrontAggregate x.0 ts x.1
      by None is f = least (after_least text ts) refl f
      by (Some rest) is f =
          let front = after_front signs.Count ts rest is in
          subst (λ (y : Aggregate × List Token). FrontAggregate y.0 ts y.1) (same_Some (aggregates.Count, rest) x f)
          (record { first = front.first; split = front.split; is = front.sign })

  -- ---- terms of one token

  module _ (names : List Entry) where
    found_reads : (t : Token) (o : Option TermForm) → ((a : TermForm) → o ≡ Some a → s.IsLeaf text names t a)
        → Reads (leaf o t) (s.IsLeaf text names t)
    found_reads t (Some a) is = gives a (is a refl)
    found_reads t None is = fails (rule_error_at Expected t)

    given_reads : (sign : Sign) (t : Token) → t.kind ≡ Mark sign
        → Reads (leaf (leaf_of sign) t) (s.IsLeaf text names t)
    given_reads sign t e = found_reads t (leaf_of sign) (λ a is. s.given {s = sign} (record { is = e }) is)

    named_reads : (name : Name) (t : Token) (o : Option Meaning) → t.kind ≡ Named name → meaning_of text names name ≡ o
        → Reads (named_leaf o t) (s.IsLeaf text names t)
    named_reads name t (Some meaning) e f =
        found_reads t (named_term meaning)
        (λ a is. s.named {name = name} {meaning = meaning} (record { is = e }) f is)
    named_reads name t None e f = fails (rule_error_at UnknownName t)

    single_by_reads : (kind : Kind) (t : Token) → t.kind ≡ kind
        → Reads (leaf_by text names kind t) (s.IsLeaf text names t)
    single_by_reads (Number v) t e = gives (number v) (s.numeral (record { is = e }))
    single_by_reads (Named name) t e = named_reads name t (meaning_of text names name) e refl
    single_by_reads (Mark sign) t e = given_reads sign t e
    single_by_reads kind t e = fails (rule_error_at Expected t)

    -- the first token is such a term
    record FrontLeaf (a : TermForm) (ts rest : List Token) : Type 0 where
      pub first : Token
      pub split : ts ≡ first ∷ rest
      pub is : s.IsLeaf text names first a

    leaf_reads : (ts : List Token) → Reads (leaf_read text names ts) (λ x. FrontLeaf x.0 ts x.1)
    leaf_reads [] = fails (error_in Expected [])
    leaf_reads (t ∷ ts) =
        read_then (leaf_by text names t.kind t) (λ a. Ok (a, ts)) (single_by_reads t.kind t refl)
        (λ a is. gives (a, ts) (record { first = t; split = refl; is = is }))

module _ (source : SourceForm) where
  -- ---- terms

  -- at this level
  abbrev pub IsReading : s.Level → List Entry → List Token → TermForm × List Token → Type 0
  IsReading level names ts x = Took ts x.1 (λ us. s.IsTerm source level names us x.0)

  abbrev level_of : Grade → s.Level
  level_of Whole = s.whole
  level_of Inverse = s.inverted

  abbrev Spelled : Inner → Type 0
  Spelled inner = (grade : Grade) (names : List Entry) (ts : List Token)
      → Reads (inner grade names ts) (IsReading (level_of grade) names ts)

  alone_reads : (level : s.Level) (names : List Entry) (ts : List Token) (x : TermForm × List Token)
      → IsReading (s.tighter level) names ts x → IsReading level names ts x
  alone_reads level names ts x h = took h (λ us is. s.alone {level = level} is)

  module _ (inner : Inner) (spelled : Spelled inner) (names : List Entry) where
    bracket_reads : (t : Token) (ts : List Token) → t.kind ≡ Mark signs.Open
        → Reads (bracketed inner names ts) (IsReading s.atom names (t ∷ ts))
    bracket_reads t ts e =
        read_then (inner Whole names ts) (λ a. wanted signs.Close a.1 >>= λ rest. Ok (a.0, rest)) (spelled Whole names ts)
        (λ a is. read_then (wanted signs.Close a.1) (λ rest. Ok (a.0, rest)) (wanted_reads signs.Close a.1)
        (λ rest closes. gives (a.0, rest) (took_more t (took_then is (λ us term.
        took_front closes (λ c close. took_end (s.bracketed (record { is = e }) term close)))))))

    message_reads : (t : Token) (ts : List Token) → t.kind ≡ Mark signs.Mail
        → Reads (message_read inner names ts) (IsReading s.atom names (t ∷ ts))
    message_reads t ts e =
        read_then (wanted signs.OpenSquare ts) (λ inside. inner Whole names inside >>= λ a. wanted signs.CloseSquare a.1
        >>= λ rest. Ok (message a.0, rest)) (wanted_reads signs.OpenSquare ts)
        (λ inside opens. read_then (inner Whole names inside) (λ a. wanted signs.CloseSquare a.1
        >>= λ rest. Ok (message a.0, rest)) (spelled Whole names inside)
        (λ a is. read_then (wanted signs.CloseSquare a.1) (λ rest. Ok (message a.0, rest))
        (wanted_reads signs.CloseSquare a.1)
        (λ rest closes. gives (message a.0, rest) (took_more t (took_front opens (λ o opening.
        took_then is (λ us term. took_front closes (λ c close.
        took_end (s.received (record { is = e }) opening term close)))))))))

    single_reads : (t : Token) (ts : List Token) (r : Result TermForm ReadRuleError)
        → Reads r (s.IsLeaf source.text names t) → Reads (r >>= λ a. Ok (a, ts)) (IsReading s.atom names (t ∷ ts))
    single_reads t ts r is =
        read_then r (λ a. Ok (a, ts)) is (λ a one. gives (a, ts) (took_more t (took_end (s.leaf one))))

    marked_reads : (sign : Sign) (t : Token) (ts : List Token) → t.kind ≡ Mark sign
        → Reads (marked_atom inner names sign t ts) (IsReading s.atom names (t ∷ ts))
    marked_reads signs.Open t ts e = bracket_reads t ts e
    marked_reads signs.Mail t ts e = message_reads t ts e
    marked_reads sign t ts e =
        single_reads t ts (leaf (leaf_of sign) t) (given_reads source.text names sign t e)

    lookup_reads : (k : ℕ) (name : Name) (t : Token) (ts : List Token) → t.kind ≡ Named name
        → meaning_of source.text names name ≡ Some (Table k)
        → Reads (lookup_read source names k ts) (IsReading s.atom names (t ∷ ts))
    lookup_reads k name t ts e f =
        let made : TermForm → TermForm = λ x. table_term (table_at source.tables k) x in
        read_then (wanted signs.OpenSquare ts) (λ inside. leaf_read source.text names inside
        >>= λ x. wanted signs.CloseSquare x.1 >>= λ rest. Ok (made x.0, rest)) (wanted_reads signs.OpenSquare ts)
        (λ inside opens. read_then (leaf_read source.text names inside) (λ x. wanted signs.CloseSquare x.1
        >>= λ rest. Ok (made x.0, rest)) (leaf_reads source.text names inside)
        (λ x one. read_then (wanted signs.CloseSquare x.1) (λ rest. Ok (made x.0, rest))
        (wanted_reads signs.CloseSquare x.1)
        (λ rest closes. gives (made x.0, rest) (took_more t (took_front opens (λ o opening.
        took_of one.split (took_more one.first (took_front closes (λ c close.
        took_end (s.looked_up {name = name} {k = k} (record { is = e }) f opening one.is close))))))))))

    name_reads : (name : Name) (t : Token) (ts : List Token) (o : Option Meaning) → t.kind ≡ Named name
        → meaning_of source.text names name ≡ o
        → Reads (named_atom source names o t ts) (IsReading s.atom names (t ∷ ts))
    name_reads name t ts (Some (Table k)) e f = lookup_reads k name t ts e f
    name_reads name t ts o e f =
        single_reads t ts (named_leaf o t) (named_reads source.text names name t o e f)

    kind_reads : (kind : Kind) (t : Token) (ts : List Token) → t.kind ≡ kind
        → Reads (atom_by inner source names kind t ts) (IsReading s.atom names (t ∷ ts))
    kind_reads (Number v) t ts e =
        gives (number v, ts) (took_more t (took_end (s.leaf (s.numeral (record { is = e })))))
    kind_reads (Named name) t ts e = name_reads name t ts (meaning_of source.text names name) e refl
    kind_reads (Mark sign) t ts e = marked_reads sign t ts e
    kind_reads kind t ts e = fails (rule_error_at Expected t)

    atom_reads : (ts : List Token) → Reads (atom inner source names ts) (IsReading s.atom names ts)
    atom_reads [] = fails (error_in Expected [])
    atom_reads (t ∷ ts) = kind_reads t.kind t ts refl

    -- ---- chains

    -- operands of this level are read so
    abbrev Operands : s.Level → Reader → Type 0
    Operands level operand = (ts : List Token) → Reads (operand ts) (IsReading level names ts)

    -- an operator that is the first token
    record Operator (kind : Chain) (ts : List Token) (joint : Joint) (rest : List Token) : Type 0 where
      pub first : Token
      pub split : ts ≡ first ∷ rest
      pub is : joint_of kind first.kind ≡ Some joint

    operator_in : (kind : Chain) (ts : List Token) (x : Joint × List Token) → joint_in kind ts ≡ Some x
        → Operator kind ts x.0 x.1
    operator_in kind [] x e = absurd (let no : None ≡ Some x = e in cc)
    operator_in kind (t ∷ ts) x e = by (joint_of kind t.kind) refl e
      where
        by : (o : Option Joint) → joint_of kind t.kind ≡ o → option_map (λ joint. (joint, ts)) o ≡ Some x
            → Operator kind (t ∷ ts) x.0 x.1
        by None is f = absurd (let no : None ≡ Some x = f in cc)
        by (Some joint) is f =
            let same : (joint, ts) ≡ x = same_Some (joint, ts) x f in
            record {
              first = t;
              split = ap (λ (y : Joint × List Token). t ∷ y.1) same;
              is = is ∙ ap (λ (y : Joint × List Token). Some y.0) same;
            }

    -- after the operands so far
    abbrev Further : Chain → (TermForm → Reader) → Type 0
    Further kind further = (done ts : List Token) (left : TermForm) → s.IsTerm source (s.chain kind) names done left
        → Reads (further left ts) (λ x. Took ts x.1 (λ us. s.IsTerm source (s.chain kind) names (done ++ us) x.0))

    step_reads : (kind : Chain) (operand : Reader) (further : TermForm → Reader)
        → Operands (s.tighter (s.chain kind)) operand → Further kind further
        → (o : Option (Joint × List Token)) (done ts : List Token) (left : TermForm) → joint_in kind ts ≡ o
        → s.IsTerm source (s.chain kind) names done left → Reads (chain_step further operand left ts o)
        (λ x. Took ts x.1 (λ us. s.IsTerm source (s.chain kind) names (done ++ us) x.0))
    step_reads kind operand further reads more None done ts left e is =
        gives (left, ts) (took_end (subst (λ (l : List Token). s.IsTerm source (s.chain kind) names l left)
        (sym (append-nil done)) is))
    step_reads kind operand further reads more (Some x) done ts left e is =
        let o = operator_in kind ts x e in
        read_then (operand x.1) (λ right. further (join x.0 left right.0) right.1) (reads x.1)
        (λ right found. implied (further (join x.0 left right.0) right.1)
        (more (done ++ (o.first ∷ found.used)) right.1 (join x.0 left right.0) (s.joined o.first is o.is found.is))
        (λ y t. took_of o.split (took_more o.first (took_past found (took t (λ vs term.
        subst (λ (l : List Token). s.IsTerm source (s.chain kind) names l y.0)
        (append_assoc done (o.first ∷ found.used) vs) term))))))

    rest_reads : (n : ℕ) (kind : Chain) (operand : Reader) → Operands (s.tighter (s.chain kind)) operand
        → Further kind (chain_rest n kind operand)
    unfolding chain_rest
    rest_reads zero kind operand reads done ts left is = fails (error_in TooLong ts)
    rest_reads (suc n) kind operand reads done ts left is =
        step_reads kind operand (chain_rest n kind operand) reads (rest_reads n kind operand reads) (joint_in kind ts)
        done ts left refl is

    chain_of_reads : (kind : Chain) (operand : Reader) → Operands (s.tighter (s.chain kind)) operand
        → Operands (s.chain kind) (chain_of kind operand)
    chain_of_reads kind operand reads ts =
        read_then (operand ts) (λ first. chain_rest MAX_LINE_TOKENS kind operand first.0 first.1) (reads ts)
        (λ first is. implied (chain_rest MAX_LINE_TOKENS kind operand first.0 first.1)
        (rest_reads MAX_LINE_TOKENS kind operand reads is.used first.1 first.0 (s.alone {level = s.chain kind} is.is))
        (λ y t. took_past is t))

    -- ---- comparisons and inverses

    record Comparing (ts : List Token) (comparison : Comparison) (rest : List Token) : Type 0 where
      pub first : Token
      pub split : ts ≡ first ∷ rest
      pub is : comparison_of first.kind ≡ Some comparison

    comparing_in : (ts : List Token) (x : Comparison × List Token) → comparison_in ts ≡ Some x → Comparing ts x.0 x.1
    comparing_in [] x e = absurd (let no : None ≡ Some x = e in cc)
    comparing_in (t ∷ ts) x e = by (comparison_of t.kind) refl e
      where
        by : (o : Option Comparison) → comparison_of t.kind ≡ o
            → option_map (λ comparison. (comparison, ts)) o ≡ Some x → Comparing (t ∷ ts) x.0 x.1
        by None is f = absurd (let no : None ≡ Some x = f in cc)
        by (Some comparison) is f =
            let same : (comparison, ts) ≡ x = same_Some (comparison, ts) x f in
            record {
              first = t;
              split = ap (λ (y : Comparison × List Token). t ∷ y.1) same;
              is = is ∙ ap (λ (y : Comparison × List Token). Some y.0) same;
            }

    abbrev side : Reader
    side = chain_of chains.Sum (chain_of chains.Product (atom inner source names))

    side_reads : Operands (s.chain chains.Sum) side
    side_reads = chain_of_reads chains.Sum (chain_of chains.Product (atom inner source names))
        (chain_of_reads chains.Product (atom inner source names) atom_reads)

    compare_reads : Operands s.compared (compare_read inner source names)
    compare_reads ts =
        read_then (side ts) (λ left. compare_rest side left.0 left.1) (side_reads ts)
        (λ left is. by_option (comparison_in left.1)
        (λ x. side x.1 >>= λ right. Ok (binary (Compare x.0) left.0 right.0, right.1)) (Ok left)
        (λ x e. let o = comparing_in left.1 x e in
        read_then (side x.1) (λ right. Ok (binary (Compare x.0) left.0 right.0, right.1)) (side_reads x.1)
        (λ right other. gives (binary (Compare x.0) left.0 right.0, right.1) (took_then is (λ us a.
        took_of o.split (took_more o.first (took other (λ vs b. s.beside o.first a o.is b)))))))
        (λ e. gives left (alone_reads s.compared names ts left is)))

    inverse_reads : Operands s.inverted (inverse_read inner source names)
    inverse_reads ts =
        by_option (rest_after signs.Not ts) (λ rest. inner Inverse names rest >>= λ a. Ok (inverse a.0, a.1))
        (compare_read inner source names ts)
        (λ rest e. read_then (inner Inverse names rest) (λ a. Ok (inverse a.0, a.1)) (spelled Inverse names rest)
        (λ a is. gives (inverse a.0, a.1)
        (took_front (after_front signs.Not ts rest e) (λ o sign. took is (λ us term. s.not_so sign term)))))
        (λ e. implied (compare_read inner source names ts) (compare_reads ts)
        (λ x is. alone_reads s.inverted names ts x is))

    operand_reads : (kind : Chain) → Operands (s.tighter (s.chain kind)) (operand_read inner source names kind)
    operand_reads chains.Product = atom_reads
    operand_reads chains.Sum = chain_of_reads chains.Product (atom inner source names) atom_reads
    operand_reads chains.Both = inverse_reads
    operand_reads chains.Either = chain_of_reads chains.Both (inverse_read inner source names) inverse_reads

    either_reads : Operands (s.chain chains.Either) (chain_read inner source names chains.Either)
    either_reads = chain_of_reads chains.Either (operand_read inner source names chains.Either)
        (operand_reads chains.Either)

    -- ---- whole terms

    plain_reads : Operands s.whole (plain_read inner source names)
    plain_reads ts =
        read_then (chain_read inner source names chains.Either ts) (λ x. choice_rest inner source names x.0 x.1)
        (either_reads ts)
        (λ x is. by_option (rest_after signs.If x.1) (λ rest. choice_read inner source names x.0 rest) (Ok x)
        (λ rest e. read_then (chain_read inner source names chains.Either rest) (λ t. wanted signs.Else t.1
        >>= λ other. inner Whole names other >>= λ y. Ok (choice t.0 x.0 y.0, y.1)) (either_reads rest)
        (λ t test. read_then (wanted signs.Else t.1) (λ other. inner Whole names other >>= λ y. Ok (choice t.0 x.0 y.0, y.1))
        (wanted_reads signs.Else t.1)
        (λ other elses. read_then (inner Whole names other) (λ y. Ok (choice t.0 x.0 y.0, y.1)) (spelled Whole names other)
        (λ y last. gives (choice t.0 x.0 y.0, y.1) (took_then is (λ xs a.
        took_front (after_front signs.If x.1 rest e) (λ i if_sign. took_then test (λ us b.
        took_front elses (λ o else_sign. took last (λ vs c. s.chosen a if_sign b else_sign c))))))))))
        (λ e. gives x (alone_reads s.whole names ts x is)))

    -- ---- terms of each node

    -- the name of a node, a colon and a term
    data IsItem : List Token → TermForm → Type 0 where
      item : {more : List Entry} {ts : List Token} {n d : Token} {a : TermForm}
          → s.IsNew source.text makers.Loop names n more → s.IsSign signs.Colon d → s.IsTerm source s.whole more ts a
          → IsItem (n ∷ d ∷ ts) a

    -- a constant in square brackets
    data IsPlace : List Token → TermForm → Type 0 where
      place : {ts : List Token} {o c : Token} {k : TermForm} → s.IsSign signs.OpenSquare o
          → s.IsTerm source s.whole names ts k → is_constant_form k ≡ true → s.IsSign signs.CloseSquare c
          → IsPlace (o ∷ (ts ++ (c ∷ []))) k

    item_reads : (ts : List Token) → Reads (item_read inner source names ts) (λ x. Took ts x.1 (λ us. IsItem us x.0))
    item_reads ts =
        read_then (new_name source.text makers.Loop names ts) (λ more. wanted signs.Colon more.1
        >>= λ rest. inner Whole more.0 rest) (new_reads source.text makers.Loop names ts)
        (λ more new. read_then (wanted signs.Colon more.1) (λ rest. inner Whole more.0 rest)
        (wanted_reads signs.Colon more.1)
        (λ rest colons. implied (inner Whole more.0 rest) (spelled Whole more.0 rest)
        (λ a is. took_new source.text new (λ n is_new. took_front colons (λ c colon. took is (λ us term.
        item is_new colon term))))))

    constant_reads : (k : TermForm) (ts : List Token) → Reads (constant_only k ts) (λ a. (a ≡ k) × (is_constant_form k ≡ true))
    constant_reads k ts =
        by_test (is_constant_form k) (Ok k) (Err (error_in Expected ts)) (λ fixed. gives k (refl, fixed))
        (λ varies. fails (error_in Expected ts))

    place_reads : (ts : List Token) → Reads (place_read inner names ts) (λ x. Took ts x.1 (λ us. IsPlace us x.0))
    place_reads ts =
        read_then (wanted signs.OpenSquare ts) (λ inside. inner Whole names inside >>= λ x. constant_only x.0 inside
        >>= λ k. wanted signs.CloseSquare x.1 >>= λ rest. Ok (k, rest)) (wanted_reads signs.OpenSquare ts)
        (λ inside opens. read_then (inner Whole names inside) (λ x. constant_only x.0 inside
        >>= λ k. wanted signs.CloseSquare x.1 >>= λ rest. Ok (k, rest)) (spelled Whole names inside)
        (λ x is. read_then (constant_only x.0 inside) (λ k. wanted signs.CloseSquare x.1 >>= λ rest. Ok (k, rest))
        (constant_reads x.0 inside)
        (λ k same. read_then (wanted signs.CloseSquare x.1) (λ rest. Ok (k, rest)) (wanted_reads signs.CloseSquare x.1)
        (λ rest closes. gives (k, rest) (took_front opens (λ o opening. took_then is (λ us term.
        took_front closes (λ c close. took_end (subst (λ (a : TermForm). IsPlace (o ∷ (us ++ (c ∷ []))) a) (sym same.0)
        (place opening term same.1 close))))))))))

    aggregate_spelled : (aggregate : Aggregate) (t : Token) (us : List Token) (a : TermForm)
        → IsAggregate source.text aggregate t → IsItem us a
        → s.IsTerm source s.whole names (t ∷ us) (aggregated aggregate a)
    aggregate_spelled aggregates.Count t us a is (item new colon term) = s.counted is new colon term
    aggregate_spelled aggregates.Least t us a is (item new colon term) = s.least_of is new colon term

    aggregate_reads : (kind : Aggregate) (t : Token) (ts : List Token) → IsAggregate source.text kind t
        → Reads (aggregate_read inner source names kind ts) (IsReading s.whole names (t ∷ ts))
    aggregate_reads kind t ts word =
        read_then (item_read inner source names ts) (λ a. Ok (aggregated kind a.0, a.1)) (item_reads ts)
        (λ a is. gives (aggregated kind a.0, a.1) (took_more t (took is (λ us numbers.
        aggregate_spelled kind t us a.0 word numbers))))

    sorted_spelled : (w : Token) (us vs : List Token) (k a : TermForm) → s.IsSign signs.Sorted w → IsPlace us k
        → IsItem vs a → s.IsTerm source s.whole names (w ∷ (us ++ vs)) (sorted k a)
    sorted_spelled w us vs k a word (place {ts = ks} {o = o} {c = c} opens term fixed closes)
        (item {ts = ts} {n = n} {d = d} new colon body) =
        subst (λ (l : List Token). s.IsTerm source s.whole names (w ∷ o ∷ l) (sorted k a))
        (sym (append_assoc ks (c ∷ []) (n ∷ d ∷ ts))) (s.sorted_at word opens term fixed closes new colon body)

    sorted_reads : (w : Token) (ts : List Token) → s.IsSign signs.Sorted w
        → Reads (sorted_read inner source names ts) (IsReading s.whole names (w ∷ ts))
    sorted_reads w ts word =
        read_then (place_read inner names ts) (λ k. item_read inner source names k.1
        >>= λ a. Ok (sorted k.0 a.0, a.1)) (place_reads ts)
        (λ k constant. read_then (item_read inner source names k.1) (λ a. Ok (sorted k.0 a.0, a.1)) (item_reads k.1)
        (λ a is. gives (sorted k.0 a.0, a.1) (took_more w (took_then constant (λ us at. took is (λ vs numbers.
        sorted_spelled w us vs k.0 a.0 word at numbers))))))

    sorted_or_plain_reads : Operands s.whole (sorted_or_plain inner source names)
    sorted_or_plain_reads ts =
        by_option (rest_after signs.Sorted ts) (λ rest. sorted_read inner source names rest)
        (plain_read inner source names ts)
        (λ rest e. let f = after_front signs.Sorted ts rest e in
        implied (sorted_read inner source names rest) (sorted_reads f.first rest f.sign)
        (λ y is. took_of f.split is)) (λ e. plain_reads ts)

    whole_reads : Operands s.whole (whole_read inner source names)
    whole_reads ts =
        by_option (aggregate_in source.text ts) (λ x. aggregate_read inner source names x.0 x.1)
        (sorted_or_plain inner source names ts)
        (λ x e. let f = aggregate_front source.text ts x e in
        implied (aggregate_read inner source names x.0 x.1) (aggregate_reads x.0 f.first x.1 f.is)
        (λ y is. took_of f.split is)) (λ e. sorted_or_plain_reads ts)

  part_reads : (room : ℕ) → Spelled (part room source)
  unfolding part
  part_reads zero grade names ts = fails (error_in TooDeep ts)
  part_reads (suc room) Whole names ts = whole_reads (part room source) (part_reads room) names ts
  part_reads (suc room) Inverse names ts = inverse_reads (part room source) (part_reads room) names ts

  pub term_reads : (names : List Entry) (ts : List Token)
      → Reads (term_read source names ts) (IsReading s.whole names ts)
  term_reads names ts = part_reads MAX_PARTS Whole names ts
