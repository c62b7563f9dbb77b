-- The answer of a form that counts has the counts.
use Rattle.std.proofs.Common.{◌≡◌, ℕ, List, [], ◌∷◌, length, refl, ap, sym, subst, ◌∙◌}
use Rattle.std.specs.Prelude.{Option, Some, None}
use Rattle.properties.specs.declared.answers.Answer.{Answer}
use Rattle.properties.specs.declared.answers.Answer.TheVariants.{NothingJudged, Holds, HoldsFrom, Violated, ViolatedLast}
use Rattle.properties.specs.declared.answers.PulseVerdict.{PulseVerdict}
use Rattle.properties.specs.declared.answers.Violation.{Violation}
use Rattle.properties.specs.declared.property.Form.{Form}
use Rattle.properties.specs.declared.property.Form.TheVariants as forms
use Rattle.properties.specs.Answers.{answer, answer_of_judged, judged_pulses, last_violation, throughout, violations}
use Rattle.claims_json.specs.Data.{judged_count, last_violated, violated_count}
use Rattle.claims_json.specs.inner.Counting.{counting_form}

-- an answer that counts has these counts
abbrev pub HasCounts : Answer → ℕ → ℕ → Option Violation → Type 0
HasCounts NothingJudged judged violated last = (judged ≡ 0) × (violated ≡ 0) × (last ≡ None)
HasCounts (Holds n) judged violated last = (judged ≡ n) × (violated ≡ 0) × (last ≡ None)
HasCounts (HoldsFrom pulse) judged violated last = ⊥
HasCounts (Violated v n x) judged violated last = (judged ≡ n) × (violated ≡ v) × (last ≡ Some x)
HasCounts (ViolatedLast x) judged violated last = ⊥

none_last : (xs : List Violation) → last_violation xs ≡ None → xs ≡ []
none_last [] e = refl
none_last (x ∷ []) e = absurd cc
none_last (x ∷ (y ∷ xs)) e = let none = none_last (y ∷ xs) e in absurd cc

counts_by_last : (n : ℕ) (xs : List Violation) (last : Option Violation) → last_violation xs ≡ last
    → HasCounts (throughout n (length xs) last) n (length xs) (last_violation xs)
counts_by_last n xs None e = (refl, ap length (none_last xs e), e)
counts_by_last n xs (Some x) e = (refl, refl, e)

counts_throughout : (n : ℕ) (xs : List Violation)
    → HasCounts (throughout n (length xs) (last_violation xs)) n (length xs) (last_violation xs)
counts_throughout n xs = counts_by_last n xs (last_violation xs) refl

counts_always : (js : List PulseVerdict) → HasCounts (answer_of_judged forms.Always js) (length js)
    (length (violations js)) (last_violation (violations js))
counts_always [] = (refl, refl, refl)
counts_always (j ∷ js) = counts_throughout (length (j ∷ js)) (violations (j ∷ js))

counts_within : (k : ℕ) (js : List PulseVerdict) → HasCounts (answer_of_judged (forms.Within k) js) (length js)
    (length (violations js)) (last_violation (violations js))
counts_within k [] = (refl, refl, refl)
counts_within k (j ∷ js) = counts_throughout (length (j ∷ js)) (violations (j ∷ js))

pub has_counts : (form : Form) (vs : List PulseVerdict) → HasCounts (answer (counting_form form) vs)
    (judged_count form vs) (violated_count form vs) (last_violated form vs)
has_counts forms.Always vs = counts_always (judged_pulses forms.Always vs)
has_counts forms.EventuallyAlways vs = counts_always (judged_pulses forms.Always vs)
has_counts (forms.Within k) vs = counts_within k (judged_pulses (forms.Within k) vs)

-- the answer that was asked for has them
pub counts_as : (form : Form) (vs : List PulseVerdict) (f : Form) (a b : Answer) → f ≡ counting_form form
    → a ≡ answer f vs → a ≡ b
    → HasCounts b (judged_count form vs) (violated_count form vs) (last_violated form vs)
counts_as form vs f a b counting answered is =
    subst (λ (x : Answer). HasCounts x (judged_count form vs) (violated_count form vs) (last_violated form vs))
    (sym (answered ∙ ap (λ (g : Form). answer g vs) counting) ∙ is) (has_counts form vs)
