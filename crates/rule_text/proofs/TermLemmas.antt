-- Parts and chains by their steps.
use Rattle.std.proofs.Common.{◌≡◌, ℕ, zero, suc, ◌+◌, ◌-◌, ◌<◌, ◌≤◌, List, Some, None, Result, Ok}
use Rattle.std.proofs.Common.{Err, refl, sym, ap, ◌∙◌, arith, inl, inr}
use Rattle.rule_text.specs.declared.errors.RuleError.TheVariants.{TooDeep, TooLong}
use Rattle.rule_text.specs.declared.errors.ReadRuleError.{ReadRuleError}
use Rattle.rule_text.specs.declared.lexemes.Token.{Token}
use Rattle.rule_text.specs.declared.scope.Entry.{Entry}
use Rattle.rule_text.specs.declared.joints.Joint.{Joint}
use Rattle.rule_text.specs.declared.joints.Chain.{Chain}
use Rattle.rule_text.specs.declared.terms.Grade.{Grade}
use Rattle.rule_text.specs.declared.terms.Grade.TheVariants.{Whole, Inverse}
use Rattle.rule_text.specs.Forms.{TermForm}
use Rattle.rule_text.specs.Tables.{SourceForm}
use Rattle.rule_text.specs.Scopes.{Reading, ◌>>=◌, error_in, TellsError}
use Rattle.rule_text.specs.Terms.{Reader, join, joint_in, chain_step, chain_rest, whole_read, inverse_read, part}

pub part_whole : (room : ℕ) (source : SourceForm) (grade : Grade) (names : List Entry) (ts : List Token) → ¬ (room ≡ 0)
    → grade ≡ Whole → part room source grade names ts ≡ whole_read (part (room - 1) source) source names ts
unfolding part
part_whole zero source grade names ts some is = absurd (some refl)
part_whole (suc room) source grade names ts some is =
    let e : suc room - 1 ≡ room = omega arith in
    rw (is, e) refl

pub part_inverse : (room : ℕ) (source : SourceForm) (grade : Grade) (names : List Entry) (ts : List Token)
    → ¬ (room ≡ 0)
    → grade ≡ Inverse → part room source grade names ts ≡ inverse_read (part (room - 1) source) source names ts
unfolding part
part_inverse zero source grade names ts some is = absurd (some refl)
part_inverse (suc room) source grade names ts some is =
    let e : suc room - 1 ≡ room = omega arith in
    rw (is, e) refl

pub part_none : (room : ℕ) (source : SourceForm) (grade : Grade) (names : List Entry) (ts : List Token)
    (error : ReadRuleError) → room ≡ 0 → error ≡ error_in TooDeep ts
    → TellsError (part room source grade names ts) error
unfolding part
part_none room source grade names ts error none is = inr (rw (none, is) refl)

-- ---- chains, of which `all` is the whole reading, and i of n operands are read

-- no further operator
pub chain_stops : (n i : ℕ) (chain : Chain) (operand : Reader) (left : TermForm) (ts : List Token)
    (all : Result (TermForm × List Token) ReadRuleError) → i < n → joint_in chain ts ≡ None
    → all ≡ chain_rest (n - i) chain operand left ts → all ≡ Ok (left, ts)
unfolding chain_rest
chain_stops n i chain operand left ts all within found before = before ∙ stops (n - i) (omega arith)
  where
    stops : (k : ℕ) → 0 < k → chain_rest k chain operand left ts ≡ Ok (left, ts)
    stops zero some = absurd (omega arith)
    stops (suc k) some = ap (chain_step (chain_rest k chain operand) operand left ts) found

pub chain_goes : (n i : ℕ) (chain : Chain) (operand : Reader) (left right next : TermForm) (joint : Joint)
    (ts inside rest : List Token) (all : Result (TermForm × List Token) ReadRuleError) → i < n
    → joint_in chain ts ≡ Some (joint, inside) → operand inside ≡ Ok (right, rest) → next ≡ join joint left right
    → all ≡ chain_rest (n - i) chain operand left ts → all ≡ chain_rest (n - (i + 1)) chain operand next rest
unfolding chain_rest
chain_goes n i chain operand left right next joint ts inside rest all within found read made before =
    before ∙ goes (n - i) (n - (i + 1)) (omega arith)
  where
    goes : (k m : ℕ) → k ≡ m + 1 → chain_rest k chain operand left ts ≡ chain_rest m chain operand next rest
    goes k m e =
        let f : k ≡ suc m = omega (arith, e) in
        ap (λ (j : ℕ). chain_rest j chain operand left ts) f
        ∙ ap (chain_step (chain_rest m chain operand) operand left ts) found
        ∙ ap (λ (r : Reading TermForm). r >>= λ x. chain_rest m chain operand (join joint left x.0) x.1) read
        ∙ ap (λ (a : TermForm). chain_rest m chain operand a rest) (sym made)

pub chain_fails : (n i : ℕ) (chain : Chain) (operand : Reader) (left : TermForm) (joint : Joint)
    (ts inside : List Token) (error : ReadRuleError) (all : Result (TermForm × List Token) ReadRuleError) → i < n
    → joint_in chain ts ≡ Some (joint, inside) → TellsError (operand inside) error
    → all ≡ chain_rest (n - i) chain operand left ts → TellsError all error
unfolding chain_rest
chain_fails n i chain operand left joint ts inside error all within found told before = elim told [
  | inl short ↦ inl short
  | inr is ↦ inr (before ∙ fails (n - i) (omega arith) is)
]
  where
    fails : (k : ℕ) → 0 < k → operand inside ≡ Err error → chain_rest k chain operand left ts ≡ Err error
    fails zero some is = absurd (omega arith)
    fails (suc k) some is =
        ap (chain_step (chain_rest k chain operand) operand left ts) found
        ∙ ap (λ (r : Reading TermForm). r >>= λ x. chain_rest k chain operand (join joint left x.0) x.1) is

pub chain_out : (n i : ℕ) (chain : Chain) (operand : Reader) (left : TermForm) (ts : List Token)
    (error : ReadRuleError) (all : Result (TermForm × List Token) ReadRuleError) → n ≤ i → error ≡ error_in TooLong ts
    → all ≡ chain_rest (n - i) chain operand left ts → TellsError all error
unfolding chain_rest
chain_out n i chain operand left ts error all past is before = inr (before ∙ out (n - i) (omega arith))
  where
    out : (k : ℕ) → k ≡ 0 → chain_rest k chain operand left ts ≡ Err error
    out k none = rw (none, is) refl
