-- A pulse leaves one memory and sends one number, so a step is one of every run.
use Rattle.std.proofs.Common.{◌≡◌, ℕ, zero, suc, ◌<◌, Bool, true, Some, Option, refl, sym, ap₂, ◌∙◌}
use Rattle.std.specs.Prelude.{IsTrue}
use Rattle.node_env.specs.Env.{Setting}
use Rattle.rule_syntax.specs.declared.syntax.Sizes.{Sizes}
use Rattle.rule_syntax.specs.declared.syntax.Statement.{Statement}
use Rattle.rule_steps.specs.Steps.{Between, IsBetween, NodeBecomes, EachCorrect, EachTwo, StepLeads, IsRuleRun}

some_same : (a b : ℕ) (o : Option ℕ) → o ≡ Some a → o ≡ Some b → a ≡ b
some_same a b o e f = cc

between_same : (p q : Between) → p.memory ≡ q.memory → p.sent ≡ q.sent → p ≡ q
between_same p q e f = ap₂ (λ m s. record { memory = m; sent = s }) e f

pub becomes_one : (rule : Statement) (z : Sizes) (env : Setting) (old new other : Between) (i : ℕ) → i < z.nodes
    → NodeBecomes rule z env old new → NodeBecomes rule z env old other → new ≡ other
becomes_one rule z env old new other i lt a b =
    between_same new other (a.memory ∙ sym b.memory)
    (some_same new.sent other.sent _ (a.sent.each i lt) (b.sent.each i lt))

pub between_at : (rule : Statement) (z : Sizes) (correct : ℕ → Bool) (env : ℕ → ℕ → Setting) (nodes : ℕ → ℕ → Between)
    (k : ℕ) → IsRuleRun rule z correct env nodes → EachCorrect z.nodes correct (λ i. IsBetween z (nodes k i))
between_at rule z correct env nodes zero run = run.start
between_at rule z correct env nodes (suc k) run = λ i lt is. (run.becomes k i lt is).between

pub step_of_run : (rule : Statement) (z : Sizes) (correct : ℕ → Bool) (fixed : Setting → Bool)
    (A B : Between → Between → Bool) (env : ℕ → ℕ → Setting) (nodes : ℕ → ℕ → Between) (k : ℕ)
    → StepLeads rule z correct fixed A B → IsRuleRun rule z correct env nodes
    → EachCorrect z.nodes correct (λ i. IsTrue (fixed (env k i))) → EachTwo z.nodes correct A (nodes k)
    → EachTwo z.nodes correct B (nodes (suc k))
step_of_run rule z correct fixed A B env nodes k leads run so inside =
    let step = leads (env k) (nodes k) (between_at rule z correct env nodes k run) inside
    (λ i lt is. (run.sees k i lt is, so i lt is)) in
    let same : EachCorrect z.nodes correct (λ i. step.new i ≡ nodes (suc k) i) =
    λ i lt is. becomes_one rule z (env k i) (nodes k i) (step.new i) (nodes (suc k) i) i lt (step.becomes i lt is)
    (run.becomes k i lt is) in
    λ p lt is q lt_q is_q. sym (ap₂ B (same p lt is) (same q lt_q is_q)) ∙ step.each p lt is q lt_q is_q

pub kept_in_run : (rule : Statement) (z : Sizes) (correct : ℕ → Bool) (A : ℕ → Between → Between → Bool)
    (env : ℕ → ℕ → Setting) (nodes : ℕ → ℕ → Between) → ((k : ℕ) → StepLeads rule z correct (λ at. true) (A k) (A (suc k)))
    → IsRuleRun rule z correct env nodes → EachTwo z.nodes correct (A 0) (nodes 0) → (k : ℕ)
    → EachTwo z.nodes correct (A k) (nodes k)
kept_in_run rule z correct A env nodes leads run inside zero = inside
kept_in_run rule z correct A env nodes leads run inside (suc k) =
    step_of_run rule z correct (λ at. true) (A k) (A (suc k)) env nodes k (leads k) run (λ i lt is. refl)
    (kept_in_run rule z correct A env nodes leads run inside k)
