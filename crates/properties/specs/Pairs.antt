-- What a property's term says of two nodes in a pulse (docs/PROPERTIES.md, "Terms").
use Rattle.std.specs.Prelude.{ℕ, Bool, true, false, ◌&&◌, ◌||◌, List, []}
use Rattle.std.specs.FinMap.{empty}
use Rattle.node_env.specs.Env.{Setting}
use Rattle.rule_syntax.specs.declared.syntax.Sizes.{Sizes}
use Rattle.rule_syntax.specs.declared.syntax.Term.{Term}
use Rattle.rule_syntax.specs.declared.syntax.Term.TheVariants.{Number, Nodes, Faults, Modulus, Me, Coin, LoopNode, Local, Word, Message', Binary', Logical', Not', Choice', Count', Least', Sorted'}
use Rattle.rule_meaning.specs.Meaning.{NodeState, truth, value, word_at}
use Rattle.properties.specs.declared.names.Side.{Side}
use Rattle.properties.specs.declared.names.Side.TheVariants.{First, Second}
use Rattle.properties.specs.declared.names.PairName.{PairName}
use Rattle.properties.specs.declared.names.PairName.TheVariants as names
use Rattle.properties.specs.Names.{name_of_local}

-- a node in a pulse: its number, and its memory after the pulse and before it
pub record JudgedNode : Type 0 where
  pub node : ℕ
  pub after : List ℕ
  pub before : List ℕ

-- ---- names

abbrev pub node_on_side : Side → JudgedNode → JudgedNode → JudgedNode
node_on_side First p q = p
node_on_side Second p q = q

-- the number that a name is for p and q
abbrev pub number_of_name : PairName → JudgedNode → JudgedNode → ℕ
number_of_name (names.Number s) p q = (node_on_side s p q).node
number_of_name (names.After s w) p q = word_at w (node_on_side s p q).after
number_of_name (names.Before s w) p q = word_at w (node_on_side s p q).before

-- ---- terms

-- the locals of a term are its names, and no form of a term looks at anything else of a node
abbrev pub is_pair_term : Term → Bool
is_pair_term (Number v) = true
is_pair_term Nodes = true
is_pair_term Faults = true
is_pair_term Modulus = true
is_pair_term Me = false
is_pair_term Coin = false
is_pair_term (LoopNode i) = false
is_pair_term (Local k) = true
is_pair_term (Word k) = false
is_pair_term (Message' p a) = false
is_pair_term (Binary' o p a q b) = is_pair_term a && is_pair_term b
is_pair_term (Logical' c p a q b) = is_pair_term a && is_pair_term b
is_pair_term (Not' p a) = is_pair_term a
is_pair_term (Choice' p t q a r b) = is_pair_term t && (is_pair_term a && is_pair_term b)
is_pair_term (Count' p t) = false
is_pair_term (Least' p t) = false
is_pair_term (Sorted' p k q e) = false

-- such a term never looks at it
abbrev pub no_setting : Setting
no_setting = record { shape = record { nodes = 0; memory = 0 }; id = 0; inbox = empty; coin = 0 }

-- the state of a rule whose locals are the names
abbrev pub pair_state : JudgedNode → JudgedNode → NodeState
pair_state p q = record { locals = λ k. number_of_name (name_of_local k) p q; memory = []; sent = empty }

-- the number of a term for p and q, as in rules
abbrev pub pair_number : Term → Sizes → JudgedNode → JudgedNode → ℕ
pair_number t z p q = value t z no_setting [] (pair_state p q)

-- every number but 0 holds
abbrev pub pair_holds : Term → Sizes → JudgedNode → JudgedNode → Bool
pair_holds t z p q = truth (pair_number t z p q)

-- ---- the pulse before

abbrev pub is_before : PairName → Bool
is_before (names.Number s) = false
is_before (names.After s w) = false
is_before (names.Before s w) = true

-- whether a pair term has a word `before`
abbrev pub has_before : Term → Bool
has_before (Number v) = false
has_before Nodes = false
has_before Faults = false
has_before Modulus = false
has_before Me = false
has_before Coin = false
has_before (LoopNode i) = false
has_before (Local k) = is_before (name_of_local k)
has_before (Word k) = false
has_before (Message' p a) = has_before a
has_before (Binary' o p a q b) = has_before a || has_before b
has_before (Logical' c p a q b) = has_before a || has_before b
has_before (Not' p a) = has_before a
has_before (Choice' p t q a r b) = has_before t || (has_before a || has_before b)
has_before (Count' p t) = has_before t
has_before (Least' p t) = has_before t
has_before (Sorted' p k q e) = has_before k || has_before e
