-- How tight the levels of terms are, and which tokens begin a term of a level or go on with one.
use Rattle.std.proofs.Common.{◌≡◌, ◌⊎◌, inl, inr, ℕ, ◌<◌, ◌≤◌, List, [], ◌∷◌, ◌++◌, refl, sym, ap, subst, ◌∙◌, arith, append_assoc}
use Rattle.std.specs.Prelude.{Bool, true, false, cond, ◌&&◌, Option, Some, None, option_map, codes}
use Rattle.std.proofs.lemmas.Slice.Eq.{bytes_eq-Decides}
use Rattle.rule_syntax.specs.declared.syntax.Comparison.{Comparison}
use Rattle.rule_text.specs.declared.signs.Sign.{Sign}
use Rattle.rule_text.specs.declared.signs.Sign.TheVariants as signs
use Rattle.rule_text.specs.declared.lexemes.Kind.{Kind}
use Rattle.rule_text.specs.declared.lexemes.Kind.TheVariants.{Number, Named, Mark, Fault}
use Rattle.rule_text.specs.declared.lexemes.Token.{Token}
use Rattle.rule_text.specs.declared.scope.Entry.{Entry}
use Rattle.rule_text.specs.declared.scope.Maker.{Maker}
use Rattle.rule_text.specs.declared.aggregates.Aggregate.{Aggregate}
use Rattle.rule_text.specs.declared.aggregates.Aggregate.TheVariants as aggregates
use Rattle.rule_text.specs.declared.joints.Joint.{Joint}
use Rattle.rule_text.specs.declared.joints.Chain.{Chain}
use Rattle.rule_text.specs.declared.joints.Chain.TheVariants as chains
use Rattle.rule_text.specs.Forms.{TermForm}
use Rattle.rule_text.specs.Tables.{SourceForm}
use Rattle.rule_text.specs.Scopes.{letters_of}
use Rattle.rule_text.specs.Tokens.{is_named}
use Rattle.rule_text.specs.Terms.{is_least, begins_with_name, after_least, aggregate_in, rest_after, joint_by, joint_of, comparison_by, comparison_of, joint_in, comparison_in, leaf_of}
use Rattle.rule_text.specs.Spelling as s
use Rattle.rule_grammar.proofs.Readings.{after_sign, no_sign, first_no, no_front, Clear, clear_kind, First, first_is, first_more, first_up, first_clear}

abbrev pub rank : s.Level → ℕ
rank s.atom = 0
rank (s.chain chains.Product) = 1
rank (s.chain chains.Sum) = 2
rank s.compared = 3
rank s.inverted = 4
rank (s.chain chains.Both) = 5
rank (s.chain chains.Either) = 6
rank s.whole = 7

tighter_rank : (level : s.Level) → rank (s.tighter level) ≤ rank level
tighter_rank (s.chain chains.Product) = omega arith
tighter_rank level = omega arith

tighter_chain : (kind : Chain) → rank (s.tighter (s.chain kind)) < rank (s.chain kind)
tighter_chain chains.Product = omega arith
tighter_chain kind = omega arith

pub rank_low : (level : s.Level) → rank level ≤ 7
rank_low (s.chain chains.Product) = omega arith
rank_low level = omega arith

-- ---- what goes on with a term

-- the rank of the level that a sign goes on with
abbrev pub sign_grip : Sign → ℕ
sign_grip signs.Times = 1
sign_grip signs.Over = 1
sign_grip signs.Modulo = 1
sign_grip signs.Plus = 2
sign_grip signs.Minus = 2
sign_grip signs.Equal = 3
sign_grip signs.NotEqual = 3
sign_grip signs.Less = 3
sign_grip signs.AtMost = 3
sign_grip signs.Greater = 3
sign_grip signs.AtLeast = 3
sign_grip signs.And = 5
sign_grip signs.Or = 6
sign_grip signs.If = 7
sign_grip a = 8

abbrev pub grip : Kind → ℕ
grip (Mark a) = sign_grip a
grip (Fault e) = 0
grip (Named name) = 0
grip kind = 8

abbrev pub grip_in : List Token → ℕ
grip_in [] = 8
grip_in (t ∷ ts) = grip t.kind

-- a term of the level ends before these tokens, of which the first is no fault and no name
pub record Ends (level : s.Level) (ts : List Token) : Type 0 where
  pub is : rank level < grip_in ts

pub ends_tighter : (level : s.Level) (ts : List Token) → Ends level ts → Ends (s.tighter level) ts
ends_tighter level ts h = let low = tighter_rank level in let is = h.is in record { is = omega arith }

pub ends_at : (level : s.Level) (kind : Kind) (t : Token) (ts : List Token) → s.HasKind kind t → rank level < grip kind
    → Ends level (t ∷ ts)
ends_at level kind t ts h less = record { is = subst (λ (k : Kind). rank level < grip k) (sym h.is) less }

pub ends_clear : (level : s.Level) (ts : List Token) → Ends level ts → Clear ts
ends_clear level [] h = tt
ends_clear level (t ∷ ts) h =
    clear_kind t.kind (λ e is. let same = ap grip is in let less = h.is in omega arith)

pub no_if : (ts : List Token) → Ends s.whole ts → rest_after signs.If ts ≡ None
no_if ts h = no_front signs.If ts (λ t us split sign.
    let same = ap grip_in split ∙ ap grip sign.is in let less = h.is in omega arith)

chain_or : (kind : Chain) (a : Sign) → (joint_by kind a ≡ None) ⊎ (sign_grip a ≡ rank (s.chain kind))
chain_or chains.Product signs.Times = inr refl
chain_or chains.Product signs.Over = inr refl
chain_or chains.Product signs.Modulo = inr refl
chain_or chains.Sum signs.Plus = inr refl
chain_or chains.Sum signs.Minus = inr refl
chain_or chains.Both signs.And = inr refl
chain_or chains.Either signs.Or = inr refl
chain_or kind a = inl refl

joint_or : (kind : Chain) (k : Kind) → (joint_of kind k ≡ None) ⊎ (grip k ≡ rank (s.chain kind))
joint_or kind (Mark a) = chain_or kind a
joint_or kind k = inl refl

pub no_joint : (kind : Chain) (ts : List Token) → Ends (s.chain kind) ts → joint_in kind ts ≡ None
no_joint kind [] h = refl
no_joint kind (t ∷ ts) h = elim (joint_or kind t.kind) [
  | inl none ↦ ap (λ (o : Option Joint). option_map (λ joint. (joint, ts)) o) none
  | inr is ↦ let less = h.is in absurd (omega arith)
]

-- an operand ends before an operator of its chain
pub joint_ends : (kind : Chain) (t : Token) (ts : List Token) (joint : Joint) → joint_of kind t.kind ≡ Some joint
    → Ends (s.tighter (s.chain kind)) (t ∷ ts)
joint_ends kind t ts joint e = elim (joint_or kind t.kind) [
  | inl none ↦ absurd (let no : None ≡ Some joint = sym none ∙ e in cc)
  | inr is ↦ let less = tighter_chain kind in record { is = omega arith }
]

sign_comparison_or : (a : Sign) → (comparison_by a ≡ None) ⊎ (sign_grip a ≡ 3)
sign_comparison_or signs.Equal = inr refl
sign_comparison_or signs.NotEqual = inr refl
sign_comparison_or signs.Less = inr refl
sign_comparison_or signs.AtMost = inr refl
sign_comparison_or signs.Greater = inr refl
sign_comparison_or signs.AtLeast = inr refl
sign_comparison_or a = inl refl

comparison_or : (k : Kind) → (comparison_of k ≡ None) ⊎ (grip k ≡ 3)
comparison_or (Mark a) = sign_comparison_or a
comparison_or k = inl refl

pub no_comparison : (ts : List Token) → Ends s.compared ts → comparison_in ts ≡ None
no_comparison [] h = refl
no_comparison (t ∷ ts) h = elim (comparison_or t.kind) [
  | inl none ↦ ap (λ (o : Option Comparison). option_map (λ comparison. (comparison, ts)) o) none
  | inr is ↦ let less = h.is in absurd (omega arith)
]

pub comparison_ends : (t : Token) (ts : List Token) (comparison : Comparison) → comparison_of t.kind ≡ Some comparison
    → Ends (s.chain chains.Sum) (t ∷ ts)
comparison_ends t ts comparison e = elim (comparison_or t.kind) [
  | inl none ↦ absurd (let no : None ≡ Some comparison = sym none ∙ e in cc)
  | inr is ↦ record { is = omega arith }
]

-- ---- what begins a term

-- the rank of the tightest level of which a sign begins a term
abbrev pub sign_opening : Sign → ℕ
sign_opening signs.Nodes = 0
sign_opening signs.Faults = 0
sign_opening signs.Modulus = 0
sign_opening signs.Me = 0
sign_opening signs.Coin = 0
sign_opening signs.NoMessage = 0
sign_opening signs.Clock = 0
sign_opening signs.Mail = 0
sign_opening signs.Open = 0
sign_opening signs.Not = 4
sign_opening signs.Count = 7
sign_opening signs.Sorted = 7
sign_opening a = 8

abbrev pub opening : Kind → ℕ
opening (Number v) = 0
opening (Named name) = 0
opening (Mark a) = sign_opening a
opening kind = 8

-- a term of the level can begin with the first token
abbrev pub Begins : s.Level → List Token → Type 0
Begins level ts = First opening (rank level) ts

leaf_opening : (a : Sign) (term : TermForm) → leaf_of a ≡ Some term → sign_opening a ≤ 0
leaf_opening signs.Nodes term e = omega arith
leaf_opening signs.Faults term e = omega arith
leaf_opening signs.Modulus term e = omega arith
leaf_opening signs.Me term e = omega arith
leaf_opening signs.Coin term e = omega arith
leaf_opening signs.NoMessage term e = omega arith
leaf_opening signs.Clock term e = omega arith
leaf_opening a term e = absurd (let no : None ≡ Some term = e in cc)

leaf_begins : {text : List ℕ} {names : List Entry} {a : TermForm} (t : Token) (ts : List Token)
    → s.IsLeaf text names t a → Begins s.atom (t ∷ ts)
leaf_begins t ts (s.numeral {v = v} h) = first_is opening 0 (Number v) t ts h (omega arith)
leaf_begins t ts (s.named {name = name} h e f) = first_is opening 0 (Named name) t ts h (omega arith)
leaf_begins t ts (s.given {s = a} {a = term} h e) = first_is opening 0 (Mark a) t ts h (leaf_opening a term e)

begins : {source : SourceForm} {level : s.Level} {names : List Entry} {ts : List Token} {a : TermForm}
    → s.IsTerm source level names ts a → Begins level ts
begins (s.alone {level = level} {ts = ts} d) =
    first_up opening (rank (s.tighter level)) (rank level) ts (tighter_rank level) (begins d)
begins (s.chosen {xs = xs} {ts = ts} {ys = ys} {i = i} {e = e} d is_if test is_else other) =
    first_more opening 6 7 xs (i ∷ (ts ++ (e ∷ ys))) (omega arith) (begins d)
begins (s.counted {ts = ts} {c = c} {n = n} {d = d} is_count new colon body) =
    first_is opening 7 (Mark signs.Count) c (n ∷ d ∷ ts) is_count (omega arith)
begins (s.least_of {ts = ts} {l = l} {n = n} {d = d} is_least new colon body) =
    first_is opening 7 (Named is_least.name) l (n ∷ d ∷ ts) is_least.named (omega arith)
begins (s.sorted_at {ks = ks} {ts = ts} {w = w} {o = o} {c = c} {n = n} {d = d} is_sorted opens k fixed closes new colon
    numbers) =
    first_is opening 7 (Mark signs.Sorted) w (o ∷ (ks ++ (c ∷ n ∷ d ∷ ts))) is_sorted (omega arith)
begins (s.joined {kind = kind} {xs = xs} {ys = ys} o d e other) =
    first_more opening (rank (s.chain kind)) (rank (s.chain kind)) xs (o ∷ ys) (omega arith) (begins d)
begins (s.not_so {ts = ts} {o = o} is_not d) = first_is opening 4 (Mark signs.Not) o ts is_not (omega arith)
begins (s.beside {xs = xs} {ys = ys} o d e other) = first_more opening 2 3 xs (o ∷ ys) (omega arith) (begins d)
begins (s.leaf {t = t} one) = leaf_begins t [] one
begins (s.looked_up {n = n} {o = o} {t = t} {c = c} {name = name} h e opens one closes) =
    first_is opening 0 (Named name) n (o ∷ t ∷ c ∷ []) h (omega arith)
begins (s.received {ts = ts} {m = m} {o = o} {c = c} h opens d closes) =
    first_is opening 0 (Mark signs.Mail) m (o ∷ (ts ++ (c ∷ []))) h (omega arith)
begins (s.bracketed {ts = ts} {o = o} {c = c} h d closes) =
    first_is opening 0 (Mark signs.Open) o (ts ++ (c ∷ [])) h (omega arith)

pub starts : {source : SourceForm} {level : s.Level} {names : List Entry} {ts : List Token} {a : TermForm}
    → s.IsTerm source level names ts a → (rest : List Token) → Begins level (ts ++ rest)
starts {source} {level} {names} {ts} d rest =
    first_more opening (rank level) (rank level) ts rest (omega arith) (begins d)

pub term_clear : {source : SourceForm} {level : s.Level} {names : List Entry} {ts : List Token} {a : TermForm}
    → s.IsTerm source level names ts a → (rest : List Token) → Clear (ts ++ rest)
term_clear {source} {level} {names} {ts} d rest =
    let low = rank_low level in
    first_clear opening (rank level) (ts ++ rest) (starts d rest) (λ e. omega arith)

-- ---- aggregates

and_false : (b : Bool) → (b && false) ≡ false
and_false true = refl
and_false false = refl

-- a name, and directly after it another
abbrev pub two_names : List Token → Bool
two_names [] = false
two_names (t ∷ ts) = is_named t.kind && begins_with_name ts

one_name : (t : Token) (ts : List Token) → begins_with_name ts ≡ false → two_names (t ∷ ts) ≡ false
one_name t ts e = ap (λ (b : Bool). is_named t.kind && b) e ∙ and_false (is_named t.kind)

first_sign : (a : Sign) (t : Token) (ts : List Token) → s.IsSign a t → two_names (t ∷ ts) ≡ false
first_sign a t ts h = ap (λ (k : Kind). is_named k && begins_with_name ts) h.is

pub sign_nameless : (a : Sign) (t : Token) (ts : List Token) → s.IsSign a t → begins_with_name (t ∷ ts) ≡ false
sign_nameless a t ts h = ap is_named h.is

pub ends_nameless : (level : s.Level) (ts : List Token) → Ends level ts → begins_with_name ts ≡ false
ends_nameless level [] h = refl
ends_nameless level (t ∷ ts) h = by t.kind refl
  where
    by : (k : Kind) → t.kind ≡ k → is_named t.kind ≡ false
    by (Named name) e = let same = ap grip e in let less = h.is in absurd (omega arith)
    by k e = ap is_named e

joint_nameless : (kind : Chain) (k : Kind) (joint : Joint) → joint_of kind k ≡ Some joint → is_named k ≡ false
joint_nameless kind (Named name) joint e = absurd (let no : None ≡ Some joint = e in cc)
joint_nameless kind k joint e = refl

comparison_nameless : (k : Kind) (comparison : Comparison) → comparison_of k ≡ Some comparison → is_named k ≡ false
comparison_nameless (Named name) comparison e = absurd (let no : None ≡ Some comparison = e in cc)
comparison_nameless k comparison e = refl

-- a term that is no whole one doesn't begin with two names
apart : {source : SourceForm} {level : s.Level} {names : List Entry} {ts : List Token} {a : TermForm}
    → s.IsTerm source level names ts a → rank level ≤ 6 → (rest : List Token) → begins_with_name rest ≡ false
    → two_names (ts ++ rest) ≡ false
apart (s.alone {level = level} d) low rest e = let less = tighter_rank level in apart d (omega arith) rest e
apart (s.chosen d is_if test is_else other) low rest e = absurd (omega arith)
apart (s.counted is_count new colon d) low rest e = absurd (omega arith)
apart (s.least_of is_least new colon d) low rest e = absurd (omega arith)
apart (s.sorted_at is_sorted opens k fixed closes new colon numbers) low rest e = absurd (omega arith)
apart (s.joined {kind = kind} {xs = xs} {ys = ys} {joint = joint} o d is other) low rest e =
    rw (append_assoc xs (o ∷ ys) rest) (apart d low (o ∷ (ys ++ rest)) (joint_nameless kind o.kind joint is))
apart (s.not_so {ts = ts} {o = o} is_not d) low rest e = first_sign signs.Not o (ts ++ rest) is_not
apart (s.beside {xs = xs} {ys = ys} {comparison = comparison} o d is other) low rest e =
    rw (append_assoc xs (o ∷ ys) rest)
    (apart d (omega arith) (o ∷ (ys ++ rest)) (comparison_nameless o.kind comparison is))
apart (s.leaf {t = t} one) low rest e = one_name t rest e
apart (s.looked_up {n = n} {o = o} {t = t} {c = c} h is opens one closes) low rest e =
    one_name n (o ∷ t ∷ c ∷ rest) (sign_nameless signs.OpenSquare o (t ∷ c ∷ rest) opens)
apart (s.received {ts = ts} {m = m} {o = o} {c = c} h opens d closes) low rest e =
    first_sign signs.Mail m (o ∷ ((ts ++ (c ∷ [])) ++ rest)) h
apart (s.bracketed {ts = ts} {o = o} {c = c} h d closes) low rest e =
    first_sign signs.Open o ((ts ++ (c ∷ [])) ++ rest) h

no_least : (text : List ℕ) (ts : List Token) → two_names ts ≡ false → after_least text ts ≡ None
no_least text [] e = refl
no_least text (t ∷ ts) e = ap (λ (b : Bool). cond b (Some ts) None) (by t.kind e)
  where
    by : (k : Kind) → (is_named k && begins_with_name ts) ≡ false → (is_least text k && begins_with_name ts) ≡ false
    by (Named name) f = ap (λ (b : Bool). is_least text (Named name) && b) f ∙ and_false (is_least text (Named name))
    by k f = refl

-- the aggregate of a sign that may be first, or of `least`
abbrev found_first : List ℕ → List Token → Option (List Token) → Option (Aggregate × List Token)
found_first text ts o = elim o [
  | Some rest ↦ Some (aggregates.Count, rest)
  | None ↦ option_map (λ rest. (aggregates.Least, rest)) (after_least text ts)
]

abbrev found_later : Option (List Token) → Option (Aggregate × List Token)
found_later o = option_map (λ rest. (aggregates.Least, rest)) o

-- no aggregate begins a term that is no whole one
pub no_aggregate : {source : SourceForm} {level : s.Level} {names : List Entry} {ts : List Token} {a : TermForm}
    → s.IsTerm source level names ts a → rank level ≤ 6 → (rest : List Token) → begins_with_name rest ≡ false
    → aggregate_in source.text (ts ++ rest) ≡ None
no_aggregate {source} {level} {names} {ts} d low rest e =
    let us = ts ++ rest in
    ap (found_first source.text us) (first_no opening (rank level) signs.Count us (starts d rest) (omega arith))
    ∙ ap found_later (no_least source.text us (apart d low rest e))

-- nor `sorted`
pub no_sorted : {source : SourceForm} {level : s.Level} {names : List Entry} {ts : List Token} {a : TermForm}
    → s.IsTerm source level names ts a → rank level ≤ 6 → (rest : List Token)
    → rest_after signs.Sorted (ts ++ rest) ≡ None
no_sorted {source} {level} {names} {ts} d low rest =
    first_no opening (rank level) signs.Sorted (ts ++ rest) (starts d rest) (omega arith)

-- `sorted` is no aggregate with a test
pub sorted_first : (text : List ℕ) (t : Token) (ts : List Token) → s.IsSign signs.Sorted t
    → aggregate_in text (t ∷ ts) ≡ None
sorted_first text t ts h =
    ap (found_first text (t ∷ ts)) (no_sign signs.Count (Mark signs.Sorted) t ts h refl)
    ∙ ap found_later (no_least text (t ∷ ts) (first_sign signs.Sorted t ts h))

pub count_first : (text : List ℕ) (t : Token) (ts : List Token) → s.IsSign signs.Count t
    → aggregate_in text (t ∷ ts) ≡ Some (aggregates.Count, ts)
count_first text t ts h = ap (found_first text (t ∷ ts)) (after_sign signs.Count t ts h)

pub least_first : (text : List ℕ) (maker : Maker) (known more : List Entry) (t u : Token) (us : List Token)
    → s.IsNameOf text (codes "least") t → s.IsNew text maker known u more
    → aggregate_in text (t ∷ u ∷ us) ≡ Some (aggregates.Least, u ∷ us)
least_first text maker known more t u us h new =
    let word : is_least text t.kind ≡ true = ap (is_least text) h.named.is
    ∙ (bytes_eq-Decides (letters_of text h.name) (codes "least")).1 h.written in
    let name : begins_with_name (u ∷ us) ≡ true = ap is_named new.named.is in
    let both : (is_least text t.kind && begins_with_name (u ∷ us)) ≡ true =
    ap (λ (b : Bool). b && begins_with_name (u ∷ us)) word ∙ name in
    let least : after_least text (t ∷ u ∷ us) ≡ Some (u ∷ us) = ap (λ (b : Bool). cond b (Some (u ∷ us)) None) both in
    ap (found_first text (t ∷ u ∷ us)) (no_sign signs.Count (Named h.name) t (u ∷ us) h.named refl)
    ∙ ap found_later least
