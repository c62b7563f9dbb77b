-- The numbers of one node at a place of a rule.
use Rattle.std.specs.Prelude.{◌≡◌, ℕ, ◌+◌, ◌*◌, ◌^◌, ◌<◌, ◌≤◌, All, List, [], ◌∷◌, length, Option, Some, None}
use Rattle.std.specs.FinMap.{get}
use Rattle.node_env.specs.Env.{Setting, AreNumbers}
use Rattle.clock_nodes.specs.Ends.{IsSentTo}
use Rattle.rule_syntax.specs.declared.syntax.Sizes.{Sizes}
use Rattle.rule_syntax.specs.declared.syntax.Term.{Term}
use Rattle.rule_meaning.specs.Meaning.{NodeState, word_at, value, count_below}
use Rattle.rule_paths.specs.Relations.{Expression, Constant, Variable, Numbers, IsSettled}
use Rattle.rule_paths.specs.Covered.{TermIsCovered}

-- the first three variables
abbrev pub NodeCount : Expression
NodeCount = Variable 0

abbrev pub FaultBound : Expression
FaultBound = Variable 1

abbrev pub ClockModulus : Expression
ClockModulus = Variable 2

pub record Store : Type 0 where
  pub me : Expression
  pub coin : Expression
  pub locals : ℕ → Expression
  pub words : ℕ → Expression

-- a node's variables before a pulse: its number, its coin, the number that it sent, and its words
abbrev pub initial_store : ℕ → Store
initial_store start = record {
  me = Variable start;
  coin = Variable (start + 1);
  locals = λ i. Constant 0;
  words = λ i. Variable (start + 3 + i);
}

-- a variable is how many nodes there are for which a test holds in a store
pub record Count : Type 0 where
  pub variable : ℕ
  pub test : Term
  pub store : Store

-- what a node's pulse may see: any sizes of 32 bits, its number, its coin and its messages
pub record CanSee (z : Sizes) (env : Setting) : Type 0 where
  pub nodes : z.nodes < 2 ^ 32
  pub faults : z.faults < 2 ^ 32
  pub modulus : z.modulus < 2 ^ 32
  pub id : env.id < z.nodes
  pub coin : env.coin < 2
  pub mail : AreNumbers z.nodes env.inbox

-- the variables below n say that the first three are the sizes
pub record AreSizeNumbers (z : Sizes) (n : ℕ) (v : Numbers) : Type 0 where
  pub nodes : IsSettled n v NodeCount z.nodes
  pub faults : IsSettled n v FaultBound z.faults
  pub modulus : IsSettled n v ClockModulus z.modulus

-- the store says with the variables below n what a state is, whose numbers have 32 bits
pub record StoreSays (word_count : ℕ) (z : Sizes) (env : Setting) (n : ℕ) (v : Numbers) (s : Store) (u : NodeState) : Type 0 where
  pub sizes : AreSizeNumbers z n v
  pub me : IsSettled n v s.me env.id
  pub coin : IsSettled n v s.coin env.coin
  pub locals : (k : ℕ) → IsSettled n v (s.locals k) (u.locals k)
  pub words : (k : ℕ) → k < word_count → IsSettled n v (s.words k) (word_at k u.memory)
  pub small : (k : ℕ) → u.locals k < 2 ^ 32
  pub room : 4 * word_count ≤ length u.memory
  pub bytes : All (λ byte. byte < 256) u.memory

-- the variables below n are the sizes and those of a node before a pulse, from `start` on
pub record IsNode (word_count : ℕ) (z : Sizes) (env : Setting) (n : ℕ) (v : Numbers) (start : ℕ) (memory : List ℕ) : Type 0 where
  pub sizes : AreSizeNumbers z n v
  pub me : IsSettled n v (Variable start) env.id
  pub coin : IsSettled n v (Variable (start + 1)) env.coin
  pub words : (k : ℕ) → k < word_count → IsSettled n v (Variable (start + 3 + k)) (word_at k memory)
  pub room : 4 * word_count ≤ length memory
  pub bytes : All (λ byte. byte < 256) memory

-- the variables below n say that a count is a true one
pub record IsCounted (word_count : ℕ) (z : Sizes) (env : Setting) (n : ℕ) (v : Numbers) (c : Count) : Type 0 where
  pub state : NodeState
  pub says : StoreSays word_count z env n v c.store state
  pub covered : TermIsCovered word_count 1 c.test
  pub number : IsSettled n v (Variable c.variable) (count_below z.nodes (λ j. value c.test z env (j ∷ []) state))

abbrev pub AllCounted : ℕ → Sizes → Setting → ℕ → Numbers → List Count → Type 0
AllCounted word_count z env n v [] = Unit {0}
AllCounted word_count z env n v (c ∷ cs) =
    IsCounted word_count z env n v c × AllCounted word_count z env n v cs

-- the variables below n say what was sent to node 0, if that is known
abbrev pub IsSent : ℕ → Numbers → Option Expression → NodeState → Type 0
IsSent n v None u = Unit {0}
IsSent n v (Some e) u = (x : ℕ) × IsSettled n v e x × (get u.sent 0 ≡ Some x)

-- what a pulse leaves of a node that had a memory: one number for all, and a memory as long as before
pub record LeavesNode (nodes : ℕ) (memory : List ℕ) (u : NodeState) : Type 0 where
  pub number : ℕ
  pub small : number < 2 ^ 32
  pub sent : IsSentTo nodes (λ j. Some number) u.sent
  pub length : length u.memory ≡ length memory
  pub bytes : All (λ byte. byte < 256) u.memory
