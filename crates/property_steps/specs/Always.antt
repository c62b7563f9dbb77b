-- What it means for runs of a rule that the step of a property holds (docs/ALL_SIZES.md, "A property for all sizes").
use Rattle.std.specs.Prelude.{◌≡◌, ℕ, suc, ◌*◌, ◌≤◌, Bool, IsTrue}
use Rattle.node_env.specs.Env.{Setting}
use Rattle.rule_syntax.specs.declared.syntax.Sizes.{Sizes}
use Rattle.rule_syntax.specs.declared.syntax.Statement.{Statement}
use Rattle.rule_syntax.specs.declared.syntax.Term.{Term}
use Rattle.quorums.specs.Counts.{HasFewFaults}
use Rattle.rule_steps.specs.Steps as steps
use Rattle.rule_steps.specs.Steps.{AreSmall, Between, EachCorrect, IsRuleRun}
use Rattle.properties.specs.Pairs.{JudgedNode, pair_holds}
use Rattle.step_searches.specs.declared.claims.Step.{Step}
use Rattle.step_searches.specs.Claims.{claim_of, meets}

-- the sizes of which a property is claimed: its step begins at them in each state, and the rule's words have room
pub record AreClaimed (step : Step) (z : Sizes) : Type 0 where
  pub small : AreSmall z
  pub room : 4 * step.words ≤ z.memory
  pub begins : (free : ℕ → ℕ) (p q : Between) → IsTrue (meets z free step.before p q)

-- a node as it is judged after a pulse: by its memory, whatever its number is and its memory before the pulse
abbrev pub IsJudged : Between → JudgedNode → Type 0
IsJudged b o = o.after ≡ b.memory

-- in each run of the rule with few faults, from any memories and with any messages of the other nodes, the term holds of
-- each two correct nodes after each pulse
abbrev pub AlwaysHolds : Statement → Term → Step → Type 0
AlwaysHolds rule t step =
    (z : Sizes) (correct : ℕ → Bool) → AreClaimed step z → HasFewFaults z.nodes z.faults correct
    → (env : ℕ → ℕ → Setting) (nodes : ℕ → ℕ → Between) → IsRuleRun rule z correct env nodes
    → (k : ℕ) → EachCorrect z.nodes correct (λ i. EachCorrect z.nodes correct (λ j. (o r : JudgedNode)
    → IsJudged (nodes (suc k) i) o → IsJudged (nodes (suc k) j) r → IsTrue (pair_holds t z o r)))

-- the step holds of the rule, whatever the free names are
abbrev pub StepHolds : Statement → Step → Type 0
StepHolds rule step = (free : ℕ → ℕ) → steps.Holds rule (claim_of step free)
