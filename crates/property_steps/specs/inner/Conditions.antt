-- What conditions of two quantities say.
use Rattle.std.specs.Prelude.{◌≡◌, ℕ, ◌+◌, Bool, not, if◌then◌else◌}
use Rattle.rule_syntax.specs.declared.syntax.Comparison.{Comparison}
use Rattle.rule_syntax.specs.declared.syntax.Connective.{Connective}
use Rattle.rule_syntax.specs.declared.syntax.Sizes.{Sizes}
use Rattle.rule_syntax.specs.declared.syntax.Term.{Term}
use Rattle.rule_meaning.specs.Meaning.{combine, compare}
use Rattle.rule_steps.specs.Steps.{Between}
use Rattle.properties.specs.Pairs.{pair_number}
use Rattle.property_steps.specs.Steps.{OfJudgedNodes}
use Rattle.step_searches.specs.declared.claims.Condition.{Condition}
use Rattle.step_searches.specs.declared.claims.Quantity.{Quantity}
use Rattle.step_searches.specs.declared.claims.Total.{Total}
use Rattle.step_searches.specs.Claims.{meets, quantity, total}

-- the sum is that of a quantity and a number
abbrev pub IsSumOf : Quantity → ℕ → Total → Type 0
IsSumOf x k sum = (z : Sizes) (free : ℕ → ℕ) (p q : Between) → total z free p q sum ≡ k + quantity z free p q x

-- the condition is met if two quantities compare so
abbrev pub ComparesQuantities : Comparison → Quantity → Quantity → Condition → Type 0
ComparesQuantities r x y c = (z : Sizes) (free : ℕ → ℕ) (p q : Between)
    → meets z free c p q ≡ compare r (quantity z free p q x) (quantity z free p q y)

-- the condition is met if both are, or if one of them is
abbrev pub Joins : Connective → Condition → Condition → Condition → Type 0
Joins o a b c = (z : Sizes) (free : ℕ → ℕ) (p q : Between)
    → meets z free c p q ≡ combine o (meets z free a p q) (meets z free b p q)

-- the condition is met if the numbers of two terms compare so, or if they don't
abbrev pub ComparesTerms : Bool → Comparison → Term → Term → Condition → Type 0
ComparesTerms b r s t c = OfJudgedNodes (λ z free p q o r'. meets z free c p q
    ≡ (if b then compare r (pair_number s z o r') (pair_number t z o r') else not (compare r (pair_number s z o r') (pair_number t z o r'))))

-- they are the same for all nodes
abbrev pub IsQuantityOfSizes : Quantity → Type 0
IsQuantityOfSizes x = (z : Sizes) (free : ℕ → ℕ) (p q o r : Between) → quantity z free p q x ≡ quantity z free o r x

abbrev pub IsTotalOfSizes : Total → Type 0
IsTotalOfSizes sum = (z : Sizes) (free : ℕ → ℕ) (p q o r : Between) → total z free p q sum ≡ total z free o r sum
