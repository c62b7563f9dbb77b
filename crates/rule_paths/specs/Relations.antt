-- Relations between whole numbers. Each variable is a number of a pulse, or one that a rule computes on its way.
use Rattle.std.specs.Prelude.{◌≡◌, ℕ, ◌+◌, ◌<◌, ◌≤◌, ◌⊎◌}

-- a sum of numbers
pub data Expression : Type 0 where
  Constant : ℕ → Expression
  Variable : ℕ → Expression
  Plus : Expression → Expression → Expression

-- the number of each variable
abbrev pub Numbers : Type 0
Numbers = ℕ → ℕ

abbrev pub expression_number : Numbers → Expression → ℕ
expression_number v (Constant c) = c
expression_number v (Variable k) = v k
expression_number v (Plus a b) = expression_number v a + expression_number v b

pub data Relation : Type 0 where
  Always : Relation
  IsAtMost : Expression → Expression → Relation
  AllOf : Relation → Relation → Relation
  AnyOf : Relation → Relation → Relation

abbrev pub RelationHolds : Numbers → Relation → Type 0
RelationHolds v Always = Unit {0}
RelationHolds v (IsAtMost a b) = expression_number v a ≤ expression_number v b
RelationHolds v (AllOf a b) = RelationHolds v a × RelationHolds v b
RelationHolds v (AnyOf a b) = RelationHolds v a ⊎ RelationHolds v b

-- ---- the variables below n

-- w and v have the same variables below n
abbrev pub AgreeBelow : ℕ → Numbers → Numbers → Type 0
AgreeBelow n w v = (k : ℕ) → k < n → w k ≡ v k

-- they alone say that an expression is x
abbrev pub IsSettled : ℕ → Numbers → Expression → ℕ → Type 0
IsSettled n v e x = (w : Numbers) → AgreeBelow n w v → expression_number w e ≡ x

-- they alone say that a relation holds
abbrev pub Settles : ℕ → Numbers → Relation → Type 0
Settles n v r = (w : Numbers) → AgreeBelow n w v → RelationHolds w r

-- some numbers of the others make a relation hold
abbrev pub CanHold : ℕ → Numbers → Relation → Type 0
CanHold n v r = (w : Numbers) × AgreeBelow n w v × RelationHolds w r

-- ---- common relations

abbrev pub IsEqual : Expression → Expression → Relation
IsEqual a b = AllOf (IsAtMost a b) (IsAtMost b a)

abbrev pub IsLess : Expression → Expression → Relation
IsLess a b = IsAtMost (Plus a (Constant 1)) b
