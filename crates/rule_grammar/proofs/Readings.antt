-- What a reading gives: a value, unless the reading ends at a limit.
use Rattle.std.proofs.Common.{◌≡◌, ℕ, ◌<◌, ◌≤◌, arith, ◌++◌, Bool, true, false, cond, List, [], ◌∷◌, refl, sym, ap, subst, ◌∙◌}
use Rattle.std.specs.Prelude.{Option, Some, None, Result, Ok, Err}
use Rattle.rule_text.specs.declared.errors.RuleError.{RuleError}
use Rattle.rule_text.specs.declared.errors.ReadRuleError.{ReadRuleError}
use Rattle.rule_text.specs.declared.errors.ReadRuleError.TheVariants.{At}
use Rattle.rule_text.specs.declared.signs.Sign.{Sign}
use Rattle.rule_text.specs.declared.signs.Sign.TheVariants as signs
use Rattle.rule_text.specs.declared.lexemes.Kind.{Kind}
use Rattle.rule_text.specs.declared.lexemes.Kind.TheVariants.{Mark, Fault}
use Rattle.rule_text.specs.declared.lexemes.Token.{Token}
use Rattle.rule_text.specs.Signs.{is_same}
use Rattle.rule_text.specs.Scopes.{◌>>=◌, told_instead, error_position, error_of, rule_error_at, error_in}
use Rattle.rule_text.specs.Terms.{is_of_sign, rest_after, wanted}
use Rattle.rule_text.specs.Spelling as s
use Rattle.rule_text.proofs.SpelledTerms.{after_front}
use Rattle.rule_grammar.specs.Limits.{IsLimit}

-- the reading ends at a limit
pub record Stopped {A : Type 0} (r : Result A ReadRuleError) : Type 0 where
  pub error : RuleError
  pub line : ℕ
  pub column : ℕ
  pub limit : IsLimit error
  pub is : r ≡ Err (At error line column)

-- this is read, or the reading ends at a limit
pub data Gives {A : Type 0} (r : Result A ReadRuleError) (x : A) : Type 0 where
  found : r ≡ Ok x → Gives r x
  stopped : Stopped r → Gives r x

-- a reading, and what is read after it
pub bind : {A B : Type 0} {r : Result A ReadRuleError} {x : A} {y : B} (f : A → Result B ReadRuleError) → Gives r x
    → Gives (f x) y → Gives (r >>= f) y
bind {A} {B} {r} {x} {y} f (found e) g = subst (λ (q : Result A ReadRuleError). Gives (q >>= f) y) (sym e) g
bind {A} {B} {r} {x} {y} f (stopped h) g = stopped (record {
  error = h.error;
  line = h.line;
  column = h.column;
  limit = h.limit;
  is = ap (λ (q : Result A ReadRuleError). q >>= f) h.is;
})

-- the case of an option
pub by_some : {A B : Type 0} {o : Option A} {x : A} {y : B} (some : A → Result B ReadRuleError)
    (none : Result B ReadRuleError) → o ≡ Some x → Gives (some x) y
    → Gives (elim o [ Some z ↦ some z | None ↦ none ]) y
by_some {A} {B} {o} {x} {y} some none e g =
    subst (λ (q : Option A). Gives (elim q [ Some z ↦ some z | None ↦ none ]) y) (sym e) g

pub by_none : {A B : Type 0} {o : Option A} {y : B} (some : A → Result B ReadRuleError) (none : Result B ReadRuleError)
    → o ≡ None → Gives none y → Gives (elim o [ Some z ↦ some z | None ↦ none ]) y
by_none {A} {B} {o} {y} some none e g =
    subst (λ (q : Option A). Gives (elim q [ Some z ↦ some z | None ↦ none ]) y) (sym e) g

-- the case of a test
pub by_true : {B : Type 0} {b : Bool} {y : B} (first other : Result B ReadRuleError) → b ≡ true → Gives first y
    → Gives (cond b first other) y
by_true {B} {b} {y} first other e g = subst (λ (q : Bool). Gives (cond q first other) y) (sym e) g

pub by_false : {B : Type 0} {b : Bool} {y : B} (first other : Result B ReadRuleError) → b ≡ false → Gives other y
    → Gives (cond b first other) y
by_false {B} {b} {y} first other e g = subst (λ (q : Bool). Gives (cond q first other) y) (sym e) g

-- ---- signs

-- no first token is this sign
pub no_front : (a : Sign) (ts : List Token) → ((t : Token) (us : List Token) → ts ≡ t ∷ us → s.IsSign a t → ⊥)
    → rest_after a ts ≡ None
no_front a ts never = by (rest_after a ts) refl
  where
    by : (o : Option (List Token)) → rest_after a ts ≡ o → rest_after a ts ≡ None
    by None e = e
    by (Some us) e = let f = after_front a ts us e in absurd (never f.first us f.split f.sign)

-- a token of another kind is first
pub no_sign : (a : Sign) (kind : Kind) (t : Token) (ts : List Token) → s.HasKind kind t → is_of_sign a kind ≡ false
    → rest_after a (t ∷ ts) ≡ None
no_sign a kind t ts h e = ap (λ (b : Bool). cond b (Some ts) None) (ap (is_of_sign a) h.is ∙ e)

same_self : (a : Sign) → is_same a a ≡ true
same_self signs.State = refl
same_self a = refl

pub after_sign : (a : Sign) (t : Token) (ts : List Token) → s.IsSign a t → rest_after a (t ∷ ts) ≡ Some ts
after_sign a t ts h = ap (λ (b : Bool). cond b (Some ts) None) (ap (is_of_sign a) h.is ∙ same_self a)

pub wanted_sign : (a : Sign) (t : Token) (ts : List Token) → s.IsSign a t → Gives (wanted a (t ∷ ts)) ts
wanted_sign a t ts h = by_some _ _ (after_sign a t ts h) (found refl)

-- ---- limits

abbrev pub IsClear : Kind → Type 0
IsClear kind = (e : RuleError) → told_instead e kind ≡ e

-- the first token is no fault
abbrev pub Clear : List Token → Type 0
Clear [] = Unit {0}
Clear (t ∷ ts) = IsClear t.kind

pub clear_kind : (kind : Kind) → ((e : RuleError) → kind ≡ Fault e → ⊥) → IsClear kind
clear_kind (Fault other) never e = absurd (never other refl)
clear_kind kind never e = refl

pub limit_at : {A : Type 0} (e : RuleError) (t : Token) (y : A) → IsLimit e → IsClear t.kind
    → Gives (Err (rule_error_at e t)) y
limit_at e t y limit clear = stopped (record {
  error = e;
  line = (error_position e t).line;
  column = (error_position e t).column;
  limit = limit;
  is = ap (λ (x : RuleError). Err (error_of x (error_position e t))) (clear e);
})

pub limit_in : {A : Type 0} (e : RuleError) (ts : List Token) (y : A) → IsLimit e → Clear ts
    → Gives (Err (error_in e ts)) y
limit_in e [] y limit clear = stopped (record { error = e; line = 0; column = 0; limit = limit; is = refl })
limit_in e (t ∷ ts) y limit clear = limit_at e t y limit clear

-- ---- first tokens

-- what the first token is: by this measure, no more than this
pub record First (measure : Kind → ℕ) (most : ℕ) (ts : List Token) : Type 0 where
  pub token : Token
  pub others : List Token
  pub split : ts ≡ token ∷ others
  pub is : measure token.kind ≤ most

pub first_is : (measure : Kind → ℕ) (most : ℕ) (kind : Kind) (t : Token) (ts : List Token) → s.HasKind kind t
    → measure kind ≤ most → First measure most (t ∷ ts)
first_is measure most kind t ts h low = record {
  token = t;
  others = ts;
  split = refl;
  is = subst (λ (k : Kind). measure k ≤ most) (sym h.is) low;
}

pub first_more : (measure : Kind → ℕ) (low high : ℕ) (ts us : List Token) → low ≤ high → First measure low ts
    → First measure high (ts ++ us)
first_more measure low high ts us less h = record {
  token = h.token;
  others = h.others ++ us;
  split = ap (λ (l : List Token). l ++ us) h.split;
  is = let is = h.is in omega arith;
}

pub first_up : (measure : Kind → ℕ) (low high : ℕ) (ts : List Token) → low ≤ high → First measure low ts
    → First measure high ts
first_up measure low high ts less h =
    record { token = h.token; others = h.others; split = h.split; is = let is = h.is in omega arith }

pub first_clear : (measure : Kind → ℕ) (most : ℕ) (ts : List Token) → First measure most ts
    → ((e : RuleError) → most < measure (Fault e)) → Clear ts
first_clear measure most ts h high =
    subst Clear (sym h.split)
    (clear_kind h.token.kind (λ e is. let same = ap measure is in let low = h.is in let more = high e in omega arith))

-- a sign that measures more is not first
pub first_no : (measure : Kind → ℕ) (most : ℕ) (a : Sign) (ts : List Token) → First measure most ts
    → most < measure (Mark a) → rest_after a ts ≡ None
first_no measure most a ts h high =
    no_front a ts (λ t us split sign.
    let token : h.token ≡ t = let both = sym h.split ∙ split in cc in
    let same = ap (λ (u : Token). measure u.kind) token ∙ ap measure sign.is in
    let low = h.is in omega arith)
