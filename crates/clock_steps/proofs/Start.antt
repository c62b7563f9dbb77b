-- From every start there is a run.
use Rattle.std.proofs.Common.{◌≡◌, inl, inr, ℕ, zero, suc, ◌^◌, ◌<◌, Bool, true, false, cond, Option, Some, None, refl, sym, ap, ◌∙◌, subst}
use Rattle.std.specs.Prelude.{IsTrue}
use Rattle.std.specs.Ordering.{nat_cmp}
use Rattle.std.specs.FinMap.{FinMap, get, insert, empty}
use Rattle.std.proofs.lemmas.Bool.{cases_lt}
use Rattle.node_env.specs.Env.{Setting, AreNumbers}
use Rattle.clock_nodes.specs.Ends.{IsSentTo}
use Rattle.clock_nodes.proofs.Runs.{nothing_sent, sent_next}
use Rattle.rule_syntax.specs.declared.syntax.Sizes.{Sizes}
use Rattle.rule_syntax.specs.declared.syntax.Statement.{Statement}
use Rattle.rule_text.specs.Forms.{statement_form}
use Rattle.clock_rule.specs.Clock.{clock_statement}
use Rattle.rule_steps.specs.Steps.{Between, IsBetween, Sees, EachCorrect, AreSmall, IsRuleRun}
use Rattle.clock_steps.specs.Claims.{is_clock_size}
use Rattle.clock_steps.proofs.Pulse.{Serves, node_after, becomes}
use Rattle.clock_steps.proofs.Steps.{bounds_of}

-- the number that f has for each node below n
abbrev pub inbox_below : ℕ → (ℕ → ℕ) → FinMap nat_cmp ℕ
inbox_below zero f = empty
inbox_below (suc n) f = insert (inbox_below n f) n (f n)

pub built : (n : ℕ) (f : ℕ → ℕ) → IsSentTo n (λ j. Some (f j)) (inbox_below n f)
built zero f = nothing_sent (λ j. Some (f j))
built (suc n) f = sent_next n (f n) (λ j. Some (f j)) (inbox_below n f) refl (built n f)

one_number : (o : Option ℕ) (a b : ℕ) → o ≡ Some a → o ≡ Some b → b ≡ a
one_number o a b e f = cc

no_number : (o : Option ℕ) (a : ℕ) → o ≡ None → o ≡ Some a → ⊥
no_number o a e f = cc

numbers : (n : ℕ) (f : ℕ → ℕ) → ((j : ℕ) → j < n → f j < 2 ^ 32) → AreNumbers n (inbox_below n f)
numbers n f small j v e = elim (cases_lt j n) [
  | inl lt ↦
      let same : v ≡ f j = one_number (get (inbox_below n f) j) (f j) v ((built n f).each j lt) e in
      (lt, subst (λ (x : ℕ). x < 2 ^ 32) (sym same) (small j lt))
  | inr le ↦ absurd (no_number (get (inbox_below n f) j) v ((built n f).no_other j le) e)
]

-- what comes: of a correct node what it sent, of each other what it tells
abbrev pub comes : (ℕ → Bool) → (ℕ → Between) → (ℕ → ℕ) → ℕ → ℕ
comes correct nodes told j = cond (correct j) (nodes j).sent (told j)

comes_small : (z : Sizes) (correct : ℕ → Bool) (nodes : ℕ → Between) (told : ℕ → ℕ)
    → EachCorrect z.nodes correct (λ i. IsBetween z (nodes i)) → ((j : ℕ) → told j < 2 ^ 32) → (j : ℕ) → j < z.nodes
    → comes correct nodes told j < 2 ^ 32
comes_small z correct nodes told between small j lt = by (correct j) (between j lt)
  where
    by : (b : Bool) → (IsTrue b → IsBetween z (nodes j)) → cond b (nodes j).sent (told j) < 2 ^ 32
    by true h = (h refl).sent
    by false h = small j

abbrev pub setting : Sizes → (ℕ → Bool) → (ℕ → Between) → ℕ → (ℕ → ℕ) → ℕ → Setting
setting z correct nodes coin told i = record {
  shape = record { nodes = z.nodes; memory = z.memory };
  id = i;
  inbox = inbox_below z.nodes (comes correct nodes told);
  coin = coin;
}

pub seen : (z : Sizes) (correct : ℕ → Bool) (nodes : ℕ → Between) (coin : ℕ) (told : ℕ → ℕ) (i : ℕ)
    → EachCorrect z.nodes correct (λ i. IsBetween z (nodes i)) → coin < 2 → ((j : ℕ) → told j < 2 ^ 32)
    → Sees z correct nodes i (setting z correct nodes coin told i)
seen z correct nodes coin told i between bit small = record {
  same_nodes = refl;
  same_memory = refl;
  id = refl;
  coin = bit;
  mail = numbers z.nodes (comes correct nodes told) (comes_small z correct nodes told between small);
  sent = λ j l s. (built z.nodes (comes correct nodes told)).each j l
      ∙ ap (λ (b : Bool). Some (cond b (nodes j).sent (told j))) s;
}

abbrev states : Sizes → (ℕ → Bool) → (ℕ → Between) → (ℕ → ℕ → ℕ) → (ℕ → ℕ → ℕ → ℕ) → ℕ → ℕ → Between
states z correct start coins told zero = start
states z correct start coins told (suc k) = λ i.
    let old = states z correct start coins told k in
    node_after z (setting z correct old (coins k i) (told k i) i) (old i)

module _ (rule : Statement) (z : Sizes) (correct : ℕ → Bool) (e : statement_form rule ≡ clock_statement)
    (serves : Serves z) (start : ℕ → Between) (ok : EachCorrect z.nodes correct (λ i. IsBetween z (start i)))
    (coins : ℕ → ℕ → ℕ) (bits : (k i : ℕ) → coins k i < 2) (told : ℕ → ℕ → ℕ → ℕ)
    (words : (k i j : ℕ) → told k i j < 2 ^ 32) where
  abbrev nodes : ℕ → ℕ → Between
  nodes = states z correct start coins told

  abbrev env : ℕ → ℕ → Setting
  env k i = setting z correct (nodes k) (coins k i) (told k i) i

  between : (k : ℕ) → EachCorrect z.nodes correct (λ i. IsBetween z (nodes k i))
  between zero = ok
  between (suc k) = λ i lt is. (becomes z (env k i) (nodes k i) serves (between k i lt is) (bits k i) rule e).between

  sees : (k : ℕ) → EachCorrect z.nodes correct (λ i. Sees z correct (nodes k) i (env k i))
  sees k i lt is = seen z correct (nodes k) (coins k i) (told k i) i (between k) (bits k i) (words k i)

  run : IsRuleRun rule z correct env nodes
  run = record {
    start = ok;
    sees = sees;
    becomes = λ k i lt is. becomes z (env k i) (nodes k i) serves (between k i lt is) (bits k i) rule e;
  }

  pub made : (env : ℕ → ℕ → Setting) × (nodes : ℕ → ℕ → Between) × IsRuleRun rule z correct env nodes
      × (nodes 0 ≡ start) × ((k i : ℕ) → (env k i).coin ≡ coins k i)
      × ((k i j : ℕ) → j < z.nodes → correct j ≡ false → get (env k i).inbox j ≡ Some (told k i j))
  made = (
    env,
    nodes,
    run,
    refl,
    λ k i. refl,
    λ k i j lt out.
        (built z.nodes (comes correct (nodes k) (told k i))).each j lt
        ∙ ap (λ (b : Bool). Some (cond b (nodes k j).sent (told k i j))) out,
  )

pub has_run : (rule : Statement) (z : Sizes) (correct : ℕ → Bool) → statement_form rule ≡ clock_statement
    → AreSmall z → IsTrue (is_clock_size z) → (start : ℕ → Between)
    → EachCorrect z.nodes correct (λ i. IsBetween z (start i)) → (coins : ℕ → ℕ → ℕ) → ((k i : ℕ) → coins k i < 2)
    → (told : ℕ → ℕ → ℕ → ℕ) → ((k i j : ℕ) → told k i j < 2 ^ 32)
    → (env : ℕ → ℕ → Setting) × (nodes : ℕ → ℕ → Between) × IsRuleRun rule z correct env nodes
    × (nodes 0 ≡ start) × ((k i : ℕ) → (env k i).coin ≡ coins k i)
    × ((k i j : ℕ) → j < z.nodes → correct j ≡ false → get (env k i).inbox j ≡ Some (told k i j))
has_run rule z correct e small size start ok coins bits told words =
    made rule z correct e (bounds_of z small size).serves start ok coins bits told words
