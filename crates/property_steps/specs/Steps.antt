-- A property of runs as a step for all sizes (docs/ALL_SIZES.md, "A property for all sizes").
use Rattle.std.specs.Prelude.{◌≡◌, ℕ, Bool, not, if◌then◌else◌}
use Rattle.rule_syntax.specs.declared.syntax.Sizes.{Sizes}
use Rattle.rule_syntax.specs.declared.syntax.Term.{Term}
use Rattle.rule_steps.specs.Steps.{Between}
use Rattle.properties.specs.Pairs.{JudgedNode, pair_holds, pair_number}
use Rattle.step_searches.specs.declared.claims.Coins.TheVariants as coins
use Rattle.step_searches.specs.declared.claims.Condition.{Condition}
use Rattle.step_searches.specs.declared.claims.Quantity.{Quantity}
use Rattle.step_searches.specs.declared.claims.Step.{Step}
use Rattle.step_searches.specs.Claims.{meets, quantity}

-- of two nodes after a pulse, p and q as `run` judges them: whatever their numbers are, and their memories before it
abbrev pub OfJudgedNodes : (Sizes → (ℕ → ℕ) → Between → Between → JudgedNode → JudgedNode → Type 0) → Type 0
OfJudgedNodes Says = (z : Sizes) (free : ℕ → ℕ) (p q : Between) (o r : JudgedNode)
    → o.after ≡ p.memory → r.after ≡ q.memory → Says z free p q o r

-- the quantity is the term's number
abbrev pub IsQuantityOf : Term → Quantity → Type 0
IsQuantityOf t x = OfJudgedNodes (λ z free p q o r. quantity z free p q x ≡ pair_number t z o r)

-- the condition is met if the term holds, or if it doesn't
abbrev pub SaysIf : Bool → Term → Condition → Type 0
SaysIf b t c = OfJudgedNodes (λ z free p q o r.
    meets z free c p q ≡ (if b then pair_holds t z o r else not (pair_holds t z o r)))

-- it says the same of all nodes
abbrev pub IsOfSizes : Condition → Type 0
IsOfSizes c = (z : Sizes) (free : ℕ → ℕ) (p q o r : Between) → meets z free c p q ≡ meets z free c o r

-- from any state and with any coins, at some sizes, to where the term holds of each two nodes after the pulse
pub record IsPropertyStep (t : Term) (step : Step) : Type 0 where
  pub coins : step.coins ≡ coins.Any
  pub before : IsOfSizes step.before
  pub after : OfJudgedNodes (λ z free p q o r. meets z free step.after p q ≡ pair_holds t z o r)
