-- What has to be impossible: p and q meet the first condition, take two paths, and don't meet the second one.
use Rattle.std.specs.Prelude.{ℕ, zero, suc, ◌+◌, Option, Some, None, List}
use Rattle.rule_syntax.specs.declared.syntax.Statement.{Statement}
use Rattle.rule_paths.specs.Relations.{Expression, Constant, Variable, Relation, Always, IsAtMost, AllOf, IsEqual}
use Rattle.rule_paths.specs.Stores.{NodeCount, FaultBound, ClockModulus}
use Rattle.rule_paths.specs.Paths.{has_32_bits, Place, rule_place, passed}
use Rattle.step_searches.specs.declared.claims.Coins.{Coins}
use Rattle.step_searches.specs.declared.claims.Coins.TheVariants as coins
use Rattle.step_searches.specs.declared.claims.Step.{Step}
use Rattle.step_searches.specs.declared.uses.Use.{Use}
use Rattle.step_searches.specs.Views.{start_view, end_view, stated, denied}
use Rattle.step_searches.specs.Laws.{Pair, is_node, is_correct, all_used}

-- The variables: 0 to 2 are n, f and M, then come the free names, p's and q's. These are the first ones of p, of q and of
-- what a pulse computes.
abbrev pub first_start : Step → ℕ
first_start step = 3 + step.names

abbrev pub second_start : Step → ℕ
second_start step = 3 + step.names + 3 + step.words

abbrev pub fresh_start : Step → ℕ
fresh_start step = 3 + step.names + 3 + step.words + 3 + step.words

abbrev pub pair_of : Step → Pair
pair_of step = record {
  words = step.words;
  condition = step.before;
  first = first_start step;
  second = second_start step;
}

-- ---- the beginning

abbrev pub names_are_numbers : ℕ → Relation
names_are_numbers zero = Always
names_are_numbers (suc n) = AllOf (names_are_numbers n) (IsAtMost (Constant 0) (Variable (3 + n)))

-- the coin of the node at k
abbrev pub coin_is : Coins → ℕ → Relation
coin_is coins.Any k = Always
coin_is (coins.Fixed c) k = IsEqual (Variable (k + 1)) (Constant c)
coin_is (coins.Named j) k = IsEqual (Variable (k + 1)) (Variable (3 + j))

abbrev pub begun : Step → Relation
begun step =
    let p = first_start step in
    let q = second_start step in
    AllOf (AllOf (has_32_bits NodeCount) (AllOf (has_32_bits FaultBound) (has_32_bits ClockModulus)))
    (AllOf (names_are_numbers step.names)
    (AllOf (AllOf (is_node step.words p) (is_node step.words q))
    (AllOf (AllOf (coin_is step.coins p) (coin_is step.coins q))
    (AllOf (stated (start_view p) (start_view p) step.before) (is_correct (pair_of step) q)))))

-- ---- the end

-- the laws that are used, and that p and q don't meet the second condition
abbrev pub ended_with : Step → List Use → Place → Place → Option Expression → Option Expression → Relation
ended_with step uses p q (Some a) (Some b) =
    let laws = all_used (pair_of step) p.counts q.counts uses q.next in
    AllOf laws.facts (denied (end_view p.store a) (end_view q.store b) step.after)
ended_with step uses p q (Some a) None = Always
ended_with step uses p q None b = Always

abbrev pub paths_end : Step → List Use → Place → Place → Relation
paths_end step uses p q = ended_with step uses p q p.sent q.sent

-- the paths of q after one of p
abbrev pub second_paths : Statement → Step → List Use → Place → Relation
second_paths rule step uses p = passed rule 0 (rule_place (second_start step) p.next) (paths_end step uses p)

-- the paths of both
abbrev pub both_paths : Statement → Step → List Use → Relation
both_paths rule step uses = passed rule 0 (rule_place (first_start step) (fresh_start step)) (second_paths rule step uses)
