-- Conditions as relations between variables.
use Rattle.std.specs.Prelude.{ℕ, ◌+◌}
use Rattle.rule_paths.specs.Relations.{Expression, Constant, Variable, Plus, Relation, Always, IsAtMost, AllOf, AnyOf, IsLess}
use Rattle.rule_paths.specs.Stores.{NodeCount, FaultBound, ClockModulus, Store}
use Rattle.step_searches.specs.declared.claims.Quantity.{Quantity}
use Rattle.step_searches.specs.declared.claims.Quantity.TheVariants.{Number, Nodes, Faults, Modulus, Free, FirstSent, FirstWord, SecondSent, SecondWord}
use Rattle.step_searches.specs.declared.claims.Total.{Total}
use Rattle.step_searches.specs.declared.claims.Total.TheVariants.{Zero, Plus'}
use Rattle.step_searches.specs.declared.claims.Condition.{Condition}
use Rattle.step_searches.specs.declared.claims.Condition.TheVariants.{Anything, AtMost, Both', Either'}

-- the numbers of a node between pulses
pub record View : Type 0 where
  pub sent : Expression
  pub words : ℕ → Expression

-- those of the node whose variables begin at k
abbrev pub start_view : ℕ → View
start_view k = record { sent = Variable (k + 2); words = λ i. Variable (k + 3 + i) }

-- those of a node after a pulse
abbrev pub end_view : Store → Expression → View
end_view s sent = record { sent = sent; words = s.words }

abbrev pub viewed : View → View → Quantity → Expression
viewed p q (Number c) = Constant c
viewed p q Nodes = NodeCount
viewed p q Faults = FaultBound
viewed p q Modulus = ClockModulus
viewed p q (Free k) = Variable (3 + k)
viewed p q FirstSent = p.sent
viewed p q (FirstWord k) = p.words k
viewed p q SecondSent = q.sent
viewed p q (SecondWord k) = q.words k

abbrev pub summed : View → View → Total → Expression
summed p q Zero = Constant 0
summed p q (Plus' x b rest) = Plus (viewed p q x) (summed p q rest)

abbrev pub stated : View → View → Condition → Relation
stated p q Anything = Always
stated p q (AtMost a b) = IsAtMost (summed p q a) (summed p q b)
stated p q (Both' x a y b) = AllOf (stated p q a) (stated p q b)
stated p q (Either' x a y b) = AnyOf (stated p q a) (stated p q b)

abbrev pub denied : View → View → Condition → Relation
denied p q Anything = IsAtMost (Constant 1) (Constant 0)
denied p q (AtMost a b) = IsLess (summed p q b) (summed p q a)
denied p q (Both' x a y b) = AnyOf (denied p q a) (denied p q b)
denied p q (Either' x a y b) = AllOf (denied p q a) (denied p q b)
