-- Steps of claims as data: what they say.
use Rattle.std.specs.Prelude.{ℕ, ◌+◌, ◌*◌, ◌<◌, ◌==◌, nat_le, Bool, true, ◌&&◌, ◌||◌}
use Rattle.node_env.specs.Env.{Setting}
use Rattle.rule_syntax.specs.declared.syntax.Sizes.{Sizes}
use Rattle.rule_meaning.specs.Meaning.{word_at}
use Rattle.rule_steps.specs.Steps.{Between, Claim}
use Rattle.step_searches.specs.declared.claims.Quantity.{Quantity}
use Rattle.step_searches.specs.declared.claims.Quantity.TheVariants.{Number, Nodes, Faults, Modulus, Free, FirstSent, FirstWord, SecondSent, SecondWord}
use Rattle.step_searches.specs.declared.claims.Total.{Total}
use Rattle.step_searches.specs.declared.claims.Total.TheVariants.{Zero, Plus'}
use Rattle.step_searches.specs.declared.claims.Condition.{Condition}
use Rattle.step_searches.specs.declared.claims.Condition.TheVariants.{Anything, AtMost, Both', Either'}
use Rattle.step_searches.specs.declared.claims.Coins.{Coins}
use Rattle.step_searches.specs.declared.claims.Coins.TheVariants as coins
use Rattle.step_searches.specs.declared.claims.Step.{Step}

-- a number of two nodes p and q, where `free` has the values of the free names
abbrev pub quantity : Sizes → (ℕ → ℕ) → Between → Between → Quantity → ℕ
quantity z free p q (Number c) = c
quantity z free p q Nodes = z.nodes
quantity z free p q Faults = z.faults
quantity z free p q Modulus = z.modulus
quantity z free p q (Free k) = free k
quantity z free p q FirstSent = p.sent
quantity z free p q (FirstWord k) = word_at k p.memory
quantity z free p q SecondSent = q.sent
quantity z free p q (SecondWord k) = word_at k q.memory

-- their sum, in whole numbers
abbrev pub total : Sizes → (ℕ → ℕ) → Between → Between → Total → ℕ
total z free p q Zero = 0
total z free p q (Plus' x b rest) = quantity z free p q x + total z free p q rest

abbrev pub meets : Sizes → (ℕ → ℕ) → Condition → Between → Between → Bool
meets z free Anything p q = true
meets z free (AtMost a b) p q = nat_le (total z free p q a) (total z free p q b)
meets z free (Both' x a y b) p q = meets z free a p q && meets z free b p q
meets z free (Either' x a y b) p q = meets z free a p q || meets z free b p q

abbrev pub coins_meet : (ℕ → ℕ) → Coins → Setting → Bool
coins_meet free coins.Any env = true
coins_meet free (coins.Fixed c) env = env.coin == c
coins_meet free (coins.Named k) env = env.coin == free k

-- the step of nodes with so many words
abbrev pub claim_of : Step → (ℕ → ℕ) → Claim
claim_of step free = record {
  covers = λ z. nat_le (4 * step.words) z.memory;
  fixed = coins_meet free step.coins;
  before = λ z correct. meets z free step.before;
  after = λ z correct. meets z free step.after;
}

-- ---- names in scope

abbrev pub QuantityIsCovered : ℕ → ℕ → Quantity → Type 0
QuantityIsCovered names words (Number c) = Unit {0}
QuantityIsCovered names words Nodes = Unit {0}
QuantityIsCovered names words Faults = Unit {0}
QuantityIsCovered names words Modulus = Unit {0}
QuantityIsCovered names words (Free k) = k < names
QuantityIsCovered names words FirstSent = Unit {0}
QuantityIsCovered names words (FirstWord k) = k < words
QuantityIsCovered names words SecondSent = Unit {0}
QuantityIsCovered names words (SecondWord k) = k < words

abbrev pub TotalIsCovered : ℕ → ℕ → Total → Type 0
TotalIsCovered names words Zero = Unit {0}
TotalIsCovered names words (Plus' x b rest) = QuantityIsCovered names words x × TotalIsCovered names words rest

abbrev pub ConditionIsCovered : ℕ → ℕ → Condition → Type 0
ConditionIsCovered names words Anything = Unit {0}
ConditionIsCovered names words (AtMost a b) = TotalIsCovered names words a × TotalIsCovered names words b
ConditionIsCovered names words (Both' x a y b) = ConditionIsCovered names words a × ConditionIsCovered names words b
ConditionIsCovered names words (Either' x a y b) = ConditionIsCovered names words a × ConditionIsCovered names words b

abbrev pub CoinsAreCovered : ℕ → Coins → Type 0
CoinsAreCovered names coins.Any = Unit {0}
CoinsAreCovered names (coins.Fixed c) = Unit {0}
CoinsAreCovered names (coins.Named k) = k < names

pub record StepIsCovered (step : Step) : Type 0 where
  pub before : ConditionIsCovered step.names step.words step.before
  pub after : ConditionIsCovered step.names step.words step.after
  pub coins : CoinsAreCovered step.names step.coins
