-- Lists of names, and lines, by their steps.
use Rattle.std.proofs.Common.{◌≡◌, ℕ, zero, suc, ◌-◌, List, refl, ap, ◌∙◌, arith, inr}
use Rattle.rule_syntax.specs.declared.syntax.Target.{Target}
use Rattle.rule_text.specs.declared.errors.RuleError.TheVariants.{TooLong}
use Rattle.rule_text.specs.declared.errors.ReadRuleError.{ReadRuleError}
use Rattle.rule_text.specs.declared.lexemes.Token.{Token}
use Rattle.rule_text.specs.declared.scope.Entry.{Entry}
use Rattle.rule_text.specs.declared.statements.Layer.{Layer}
use Rattle.rule_text.specs.declared.statements.Layer.TheVariants.{Rest, Branch}
use Rattle.rule_text.specs.Scopes.{error_in, TellsError}
use Rattle.rule_text.specs.Tables.{SourceForm, HeaderForm}
use Rattle.rule_text.specs.Statements.{targets_with, targets_read, state_names_with, state_names, header_with}
use Rattle.rule_text.specs.Statements.{cells_with, cells_read}
use Rattle.rule_text.specs.Statements.{header_read, rest_read, branch_read, lines_read}

pub targets_none : (left : ℕ) (text : List ℕ) (names : List Entry) (done : List Target) (ts : List Token)
    (error : ReadRuleError) → left ≡ 0 → error ≡ error_in TooLong ts
    → TellsError (targets_read left text names done ts) error
unfolding targets_read
targets_none left text names done ts error none is = inr (rw (none, is) refl)

pub targets_more : (left : ℕ) (text : List ℕ) (names : List Entry) (done : List Target) (ts : List Token) → ¬ (left ≡ 0)
    → targets_read left text names done ts ≡ targets_with (targets_read (left - 1) text names) text names done ts
unfolding targets_read
targets_more zero text names done ts some = absurd (some refl)
targets_more (suc left) text names done ts some =
    let e : left ≡ suc left - 1 = omega arith in
    ap (λ (k : ℕ). targets_with (targets_read k text names) text names done ts) e

pub states_none : (left : ℕ) (text : List ℕ) (names : List Entry) (ts : List Token) (error : ReadRuleError)
    → left ≡ 0 → error ≡ error_in TooLong ts → TellsError (state_names left text names ts) error
unfolding state_names
states_none left text names ts error none is = inr (rw (none, is) refl)

pub states_more : (left : ℕ) (text : List ℕ) (names : List Entry) (ts : List Token) → ¬ (left ≡ 0)
    → state_names left text names ts ≡ state_names_with (state_names (left - 1) text) text names ts
unfolding state_names
states_more zero text names ts some = absurd (some refl)
states_more (suc left) text names ts some =
    let e : left ≡ suc left - 1 = omega arith in
    ap (λ (k : ℕ). state_names_with (state_names k text) text names ts) e

pub cells_none : (left : ℕ) (done : List ℕ) (ts : List Token) (error : ReadRuleError) → left ≡ 0
    → error ≡ error_in TooLong ts → TellsError (cells_read left done ts) error
unfolding cells_read
cells_none left done ts error none is = inr (rw (none, is) refl)

pub cells_more : (left : ℕ) (done : List ℕ) (ts : List Token) → ¬ (left ≡ 0)
    → cells_read left done ts ≡ cells_with (cells_read (left - 1)) done ts
unfolding cells_read
cells_more zero done ts some = absurd (some refl)
cells_more (suc left) done ts some =
    let e : left ≡ suc left - 1 = omega arith in
    ap (λ (k : ℕ). cells_with (cells_read k) done ts) e

pub header_none : (left : ℕ) (text : List ℕ) (column : ℕ) (before : HeaderForm) (ts : List Token)
    (error : ReadRuleError) → left ≡ 0 → error ≡ error_in TooLong ts
    → TellsError (header_read left text column before ts) error
unfolding header_read
header_none left text column before ts error none is = inr (rw (none, is) refl)

pub header_more : (left : ℕ) (text : List ℕ) (column : ℕ) (before : HeaderForm) (ts : List Token) → ¬ (left ≡ 0)
    → header_read left text column before ts ≡ header_with (header_read (left - 1) text column) text column before ts
unfolding header_read
header_more zero text column before ts some = absurd (some refl)
header_more (suc left) text column before ts some =
    let e : left ≡ suc left - 1 = omega arith in
    ap (λ (k : ℕ). header_with (header_read k text column) text column before ts) e

pub lines_none : (left : ℕ) (source : SourceForm) (layer : Layer) (room column : ℕ) (names : List Entry)
    (ts : List Token)
    (error : ReadRuleError) → left ≡ 0 → error ≡ error_in TooLong ts
    → TellsError (lines_read left source layer room column names ts) error
unfolding lines_read
lines_none left source layer room column names ts error none is = inr (rw (none, is) refl)

pub lines_rest : (left : ℕ) (source : SourceForm) (layer : Layer) (room column : ℕ) (names : List Entry)
    (ts : List Token)
    → ¬ (left ≡ 0) → layer ≡ Rest → lines_read left source layer room column names ts
    ≡ rest_read (lines_read (left - 1) source) source room column names ts
unfolding lines_read
lines_rest zero source layer room column names ts some is = absurd (some refl)
lines_rest (suc left) source layer room column names ts some is =
    let e : left ≡ suc left - 1 = omega arith in
    ap (λ (l : Layer). lines_read (suc left) source l room column names ts) is
    ∙ ap (λ (k : ℕ). rest_read (lines_read k source) source room column names ts) e

pub lines_branch : (left : ℕ) (source : SourceForm) (layer : Layer) (room column : ℕ) (names : List Entry)
    (ts : List Token)
    → ¬ (left ≡ 0) → layer ≡ Branch → lines_read left source layer room column names ts
    ≡ branch_read (lines_read (left - 1) source) source room column names ts
unfolding lines_read
lines_branch zero source layer room column names ts some is = absurd (some refl)
lines_branch (suc left) source layer room column names ts some is =
    let e : left ≡ suc left - 1 = omega arith in
    ap (λ (l : Layer). lines_read (suc left) source l room column names ts) is
    ∙ ap (λ (k : ℕ). branch_read (lines_read k source) source room column names ts) e
