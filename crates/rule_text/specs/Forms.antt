-- What terms, assignments and statements say, as plain data: `rule_syntax` keeps the same in boxes.
use Rattle.std.specs.Prelude.{ℕ, Bool, true, false, ◌&&◌}
use Rattle.rule_syntax.specs.declared.syntax.Operator.{Operator}
use Rattle.rule_syntax.specs.declared.syntax.Connective.{Connective}
use Rattle.rule_syntax.specs.declared.syntax.Target.{Target}
use Rattle.rule_syntax.specs.declared.syntax.Assignment.{Assignment}
use Rattle.rule_syntax.specs.declared.syntax.Assignment.TheVariants.{One, Also'}
use Rattle.rule_syntax.specs.declared.syntax.Term.{Term}
use Rattle.rule_syntax.specs.declared.syntax.Term.TheVariants.{Number, Nodes, Faults, Modulus, Me, Coin, LoopNode}
use Rattle.rule_syntax.specs.declared.syntax.Term.TheVariants.{Local, Word, Message', Binary', Logical', Not', Choice'}
use Rattle.rule_syntax.specs.declared.syntax.Term.TheVariants.{Count', Least', Sorted'}
use Rattle.rule_syntax.specs.declared.syntax.Statement.{Statement}
use Rattle.rule_syntax.specs.declared.syntax.Statement.TheVariants.{Nothing, Then', Let', Assign, If', For', SendAll}
use Rattle.rule_syntax.specs.declared.syntax.Statement.TheVariants.{SendTo}
use Rattle.rule_text.specs.declared.leaves.Leaf.{Leaf}
use Rattle.rule_text.specs.declared.leaves.Leaf.TheVariants as leaves

pub data TermForm : Type 0 where
  number : ℕ → TermForm
  nodes : TermForm
  faults : TermForm
  modulus : TermForm
  me : TermForm
  coin : TermForm
  loop_node : ℕ → TermForm
  local : ℕ → TermForm
  word : ℕ → TermForm
  message : TermForm → TermForm
  binary : Operator → TermForm → TermForm → TermForm
  logical : Connective → TermForm → TermForm → TermForm
  inverse : TermForm → TermForm
  choice : TermForm → TermForm → TermForm → TermForm
  count : TermForm → TermForm
  least : TermForm → TermForm
  sorted : TermForm → TermForm → TermForm

pub data AssignmentForm : Type 0 where
  one : Target → TermForm → AssignmentForm
  also : AssignmentForm → Target → TermForm → AssignmentForm

pub data StatementForm : Type 0 where
  nothing : StatementForm
  sequence : StatementForm → StatementForm → StatementForm
  let_in : TermForm → StatementForm → StatementForm
  assign : AssignmentForm → StatementForm
  branch : TermForm → StatementForm → StatementForm → StatementForm
  each : StatementForm → StatementForm
  send_all : TermForm → StatementForm
  send_to : TermForm → TermForm → StatementForm

abbrev pub term_form : Term → TermForm
term_form (Number v) = number v
term_form Nodes = nodes
term_form Faults = faults
term_form Modulus = modulus
term_form Me = me
term_form Coin = coin
term_form (LoopNode i) = loop_node i
term_form (Local k) = local k
term_form (Word k) = word k
term_form (Message' p a) = message (term_form a)
term_form (Binary' o p a q b) = binary o (term_form a) (term_form b)
term_form (Logical' c p a q b) = logical c (term_form a) (term_form b)
term_form (Not' p a) = inverse (term_form a)
term_form (Choice' p t q a r b) = choice (term_form t) (term_form a) (term_form b)
term_form (Count' p t) = count (term_form t)
term_form (Least' p t) = least (term_form t)
term_form (Sorted' p k q t) = sorted (term_form k) (term_form t)

-- a constant is a number, a size, the node of a loop, or computed of constants: the same for all nodes and pulses
abbrev pub is_constant_form : TermForm → Bool
is_constant_form (number v) = true
is_constant_form nodes = true
is_constant_form faults = true
is_constant_form modulus = true
is_constant_form me = false
is_constant_form coin = false
is_constant_form (loop_node i) = true
is_constant_form (local k) = false
is_constant_form (word k) = false
is_constant_form (message a) = false
is_constant_form (binary o a b) = is_constant_form a && is_constant_form b
is_constant_form (logical c a b) = false
is_constant_form (inverse a) = false
is_constant_form (choice t a b) = false
is_constant_form (count t) = false
is_constant_form (least t) = false
is_constant_form (sorted k t) = false

-- a term of one token
abbrev pub leaf_form : Leaf → TermForm
leaf_form (leaves.Number v) = number v
leaf_form leaves.Nodes = nodes
leaf_form leaves.Faults = faults
leaf_form leaves.Modulus = modulus
leaf_form leaves.Me = me
leaf_form leaves.Coin = coin
leaf_form (leaves.LoopNode i) = loop_node i
leaf_form (leaves.Local k) = local k
leaf_form (leaves.Word k) = word k

abbrev pub assignment_form : Assignment → AssignmentForm
assignment_form (One target e) = one target (term_form e)
assignment_form (Also' p front target e) = also (assignment_form front) target (term_form e)

abbrev pub statement_form : Statement → StatementForm
statement_form Nothing = nothing
statement_form (Then' p a q b) = sequence (statement_form a) (statement_form b)
statement_form (Let' e p rest) = let_in (term_form e) (statement_form rest)
statement_form (Assign a) = assign (assignment_form a)
statement_form (If' t p a q b) = branch (term_form t) (statement_form a) (statement_form b)
statement_form (For' p body) = each (statement_form body)
statement_form (SendAll e) = send_all (term_form e)
statement_form (SendTo e k) = send_to (term_form e) (term_form k)
