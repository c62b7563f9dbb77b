-- The variables of relations as those of formulas.
use Rattle.std.specs.Prelude.{pos}
use Rattle.linear_certificates.specs.declared.data.Formula.{Formula}
use Rattle.linear_certificates.specs.Meaning.{Assignment}
use Rattle.linear_certificates.specs.Meaning as linear
use Rattle.rule_paths.specs.Relations.{Expression, Constant, Variable, Plus, Numbers, Relation, RelationHolds}
use Rattle.rule_formulas.specs.declared.numbers.Number.{Number}
use Rattle.rule_formulas.specs.declared.numbers.Number.TheVariants as numbers
use Rattle.rule_formulas.specs.declared.numbers.Sum.{Sum}
use Rattle.rule_formulas.specs.declared.numbers.Sum.TheVariants.{Only, Two}

abbrev pub expression : Number → Expression
expression (numbers.Constant c) = Constant c
expression (numbers.Variable k) = Variable k

abbrev pub sum_expression : Sum → Expression
sum_expression (Only a) = expression a
sum_expression (Two a b) = Plus (expression a) (expression b)

abbrev pub integers : Numbers → Assignment
integers v = λ i. pos (v i)

-- where the relation holds, the formula does
abbrev pub Implies : Relation → Formula → Type 0
Implies r f = (v : Numbers) → RelationHolds v r → linear.FormulaHolds (integers v) f
