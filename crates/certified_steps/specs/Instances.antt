-- Formulas of laws of quorums.
use Rattle.std.specs.Prelude.{◌≡◌, Bool, if◌then◌else◌, List, [], ◌∷◌}
use Rattle.rule_paths.specs.Relations.{Constant, Plus, Relation, IsAtMost}
use Rattle.rule_paths.specs.Stores as stores
use Rattle.rule_paths.specs.Stores.{NodeCount, FaultBound}
use Rattle.rule_formulas.specs.Numbers.{Implies}
use Rattle.rule_formulas.specs.Stores.{written_store}
use Rattle.step_searches.specs.Laws as laws
use Rattle.certified_steps.specs.declared.instances.Instance.{Instance}
use Rattle.certified_steps.specs.declared.instances.Counts.{Counts}
use Rattle.certified_steps.specs.declared.instances.Counts.TheVariants.{Nothing, More'}
use Rattle.certified_steps.specs.declared.instances.Answer.{Answer}

pub record IsInstance (made : Instance) (i : laws.Instance) : Type 0 where
  pub facts : Implies i.facts made.facts
  pub next : made.next ≡ i.next

abbrev pub answer_count : Answer → stores.Count
answer_count a = record { variable = a.variable; test = a.test.now; store = written_store a.store.now }

-- the answers of two counts are few
abbrev pub few_of_two : Bool → stores.Count → Bool → stores.Count → Bool → Relation
few_of_two same c answer d other =
    IsAtMost (Plus (laws.more c answer) (laws.more d other))
    (Plus (Plus NodeCount (if same then Constant 0 else FaultBound)) (Plus (laws.less_number c answer) (laws.less_number d other)))

abbrev pub counts_of : Counts → List stores.Count
counts_of Nothing = []
counts_of (More' variable test store p rest) =
    record { variable = variable; test = test.now; store = written_store store.now } ∷ counts_of rest
