-- A run has one summary, and so seeds have one text of lines.
use Rattle.std.proofs.Common.{◌≡◌, ℕ, suc, ◌+◌, List, [], ◌∷◌, ◌++◌, Bool, length, slice_get, Option, Some, None, refl, ap, ap₂, sym, subst, ◌∙◌, arith, inl, inr}
use Rattle.std.proofs.lemmas.Bool.{cases_order}
use Rattle.bench_core.specs.Told.{PulseTold}
use Rattle.bench_workers.specs.Laws.{OneRun}
use Rattle.bench_scenario.specs.declared.summary.RunSummary.{RunSummary}
use Rattle.bench_scenario.specs.Coins.{keyed}
use Rattle.bench_scenario.specs.Events.{events_of}
use Rattle.bench_scenario.specs.InStep.{IsInStepSince}
use Rattle.bench_scenario.specs.Runs.{bench_of}
use Rattle.bench_scenario.specs.Summary.{SumsUp}
use Rattle.bench_scenario.specs.Verdicts.{judged_of}
use Rattle.scenario_text.specs.declared.scenario.Scenario.{Scenario}
use Rattle.scenario_text.specs.Views.{frame_of}
use Rattle.std.specs.Prelude.{is_some}
use Rattle.key_sweep.specs.KeyRows.{joined_rows}
use Rattle.key_sweep.specs.Rows.{sweep_names, summary_row}
use Rattle.key_sweep.specs.Sweeps.{IsOfKey, IsRowOfKey, Lines}

-- ---- the summary

-- the first pulse from which records are in step is one
one_since : (modulus : ℕ) (rs : List PulseTold) (a b : Option ℕ) → IsInStepSince modulus rs a
    → IsInStepSince modulus rs b → a ≡ b
one_since modulus rs None None h g = refl
one_since modulus rs None (Some q) h g = absurd (h g.before g.in_step)
one_since modulus rs (Some p) None h g = absurd (g h.before h.in_step)
one_since modulus rs (Some p) (Some q) h g =
    elim (cases_order h.before g.before) [
      | inl same ↦ ap Some (h.place ∙ (ap (λ n. n + 1) same ∙ sym g.place))
      | inr (inl less) ↦ absurd (g.least h.before less h.in_step)
      | inr (inr more) ↦ absurd (h.least g.before more g.in_step)
    ]

same_summary : (m n : RunSummary) → m.agreed ≡ n.agreed → m.judged ≡ n.judged
    → m.first_disagreement ≡ n.first_disagreement → m.in_step_since ≡ n.in_step_since → m.steps ≡ n.steps → m ≡ n
same_summary m n agreed judged first_disagreement in_step_since steps =
    λ k. record {
      agreed = agreed k;
      judged = judged k;
      first_disagreement = first_disagreement k;
      in_step_since = in_step_since k;
      steps = steps k;
    }

pub one_summary : (modulus : ℕ) (rs : List PulseTold) (m n : RunSummary) (own : Bool) (s : Scenario)
    → SumsUp modulus rs (judged_of (frame_of s) own rs) m → SumsUp modulus rs (judged_of (frame_of s) own rs) n → m ≡ n
one_summary modulus rs m n own s h g =
    same_summary m n (h.agreed ∙ sym g.agreed) (h.judged ∙ sym g.judged) (h.disagreed ∙ sym g.disagreed)
    (one_since modulus rs m.in_step_since n.in_step_since h.in_step g.in_step) (h.steps ∙ sym g.steps)

one_of_key : OneRun → (s : Scenario) (key : ℕ) (m n : RunSummary) → IsOfKey s key m → IsOfKey s key n → m ≡ n
one_of_key one_run s key m n h g =
    let same = (one_run (bench_of s) (events_of (keyed s key)) g.records h.records g.memories h.memories g.run h.run).0 in
    let own = is_some s.clock in
    let modulus = (frame_of s).modulus in
    one_summary modulus h.records m n own s h.summary
    (subst (λ (rs : List PulseTold). SumsUp modulus rs (judged_of (frame_of s) own rs) n) same g.summary)

one_row : OneRun → (s : Scenario) (key : ℕ) (row other : List ℕ) → IsRowOfKey s key row → IsRowOfKey s key other
    → row ≡ other
one_row one_run s key row other h g =
    h.text ∙ (ap (summary_row key) (one_of_key one_run s key h.summary g.summary h.of_key g.of_key) ∙ sym g.text)

-- ---- the lines

-- two lists of one length are one if their entries at each place are
pub one_list : {A : Type 0} (P Q : ℕ → A → Type 0) → ((k : ℕ) (x y : A) → P k x → Q k y → x ≡ y) → (xs ys : List A)
    → ((k : ℕ) (x : A) → slice_get xs k ≡ Some x → P k x) → ((k : ℕ) (y : A) → slice_get ys k ≡ Some y → Q k y)
    → length xs ≡ length ys → xs ≡ ys
one_list P Q one [] [] f g e = refl
one_list P Q one [] (y ∷ ys) f g e = absurd (omega (arith, e))
one_list P Q one (x ∷ xs) [] f g e = absurd (omega (arith, e))
one_list P Q one (x ∷ xs) (y ∷ ys) f g e =
    ap₂ (λ z zs. z ∷ zs) (one 0 x y (f 0 x refl) (g 0 y refl))
    (one_list (λ k. P (suc k)) (λ k. Q (suc k)) (λ k. one (suc k)) xs ys (λ k. f (suc k)) (λ k. g (suc k))
    (omega (arith, e)))

pub one_sweep : OneRun → (s : Scenario) (first count : ℕ) (text other : List ℕ) → Lines s first count text
    → Lines s first count other → text ≡ other
one_sweep one_run s first count text other h g =
    let same = one_list (λ k. IsRowOfKey s (first + k)) (λ k. IsRowOfKey s (first + k))
    (λ k. one_row one_run s (first + k)) h.rows g.rows h.each g.each (h.all ∙ sym g.all) in
    h.whole ∙ (ap (λ rows. sweep_names ++ joined_rows rows) same ∙ sym g.whole)
