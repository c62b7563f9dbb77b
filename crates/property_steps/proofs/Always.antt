-- A step of a property says that it always holds.
use Rattle.std.proofs.Common.{◌≡◌, ℕ, zero, suc, ◌*◌, ◌<◌, ◌≤◌, Bool, true, refl, sym, ◌∙◌, subst, arith}
use Rattle.std.specs.Prelude.{IsTrue, nat_le}
use Rattle.std.proofs.lemmas.Bool.Decides.{nat_tests}
use Rattle.node_env.specs.Env.{Setting}
use Rattle.rule_syntax.specs.declared.syntax.Sizes.{Sizes}
use Rattle.rule_syntax.specs.declared.syntax.Statement.{Statement}
use Rattle.rule_syntax.specs.declared.syntax.Term.{Term}
use Rattle.quorums.specs.Counts.{HasFewFaults}
use Rattle.rule_steps.specs.Steps.{Between, EachCorrect, EachTwo, IsBetween, IsRuleRun, Stepped}
use Rattle.properties.specs.Pairs.{JudgedNode, pair_holds}
use Rattle.step_searches.specs.declared.claims.Coins.{Coins}
use Rattle.step_searches.specs.declared.claims.Coins.TheVariants as coins
use Rattle.step_searches.specs.declared.claims.Step.{Step}
use Rattle.step_searches.specs.Claims.{coins_meet, meets}
use Rattle.property_steps.specs.Always.{AlwaysHolds, AreClaimed, IsJudged, StepHolds}
use Rattle.property_steps.specs.Steps.{IsPropertyStep}

any_meets : (free : ℕ → ℕ) (c : Coins) (env : Setting) → c ≡ coins.Any → IsTrue (coins_meet free c env)
any_meets free c env any = subst (λ (d : Coins). IsTrue (coins_meet free d env)) (sym any) refl

-- the nodes before each pulse are between two pulses
between : (rule : Statement) (z : Sizes) (correct : ℕ → Bool) (env : ℕ → ℕ → Setting) (nodes : ℕ → ℕ → Between)
    → IsRuleRun rule z correct env nodes → (k : ℕ) → EachCorrect z.nodes correct (λ i. IsBetween z (nodes k i))
between rule z correct env nodes run zero = run.start
between rule z correct env nodes run (suc k) = λ i below is_correct. (run.becomes k i below is_correct).between

no_names : ℕ → ℕ
no_names k = 0

pub always : (rule : Statement) (t : Term) (step : Step) → IsPropertyStep t step → StepHolds rule step → AlwaysHolds rule t step
always rule t step is_step holds z correct claimed few env nodes run k i below is_correct j below' is_correct' o r is is' =
    let free = no_names in
    let stepped = holds free z correct claimed.small (grind (arith, nat_tests, claimed.room)) few (env k) (nodes k)
    (between rule z correct env nodes run k)
    (λ a _ _ b _ _. claimed.begins free (nodes k a) (nodes k b))
    (λ a below'' correct''. (run.sees k a below'' correct'', any_meets free step.coins (env k a) is_step.coins)) in
    let same = (stepped.becomes i below is_correct).memory in
    let same' = (stepped.becomes j below' is_correct').memory in
    let met = stepped.each i below is_correct j below' is_correct' in
    let old = (run.becomes k i below is_correct).memory in
    let old' = (run.becomes k j below' is_correct').memory in
    subst IsTrue (is_step.after z free (stepped.new i) (stepped.new j) o r (is ∙ (old ∙ sym same))
    (is' ∙ (old' ∙ sym same'))) met
