-- What a rule needs to be compiled: its numbers have 32 bits, its names are in scope, its words are in the memory, and
-- it needs no more places than there are.
use Rattle.std.specs.Prelude.{◌≡◌, ℕ, ◌+◌, ◌*◌, ◌^◌, ◌<◌, ◌≤◌, Bool, true, false, ◌||◌}
use Rattle.rule_syntax.specs.declared.syntax.Sizes.{Sizes}
use Rattle.rule_syntax.specs.declared.syntax.Target.{Target}
use Rattle.rule_syntax.specs.declared.syntax.Target.TheVariants.{ToLocal, ToWord}
use Rattle.rule_syntax.specs.declared.syntax.Assignment.{Assignment}
use Rattle.rule_syntax.specs.declared.syntax.Assignment.TheVariants.{One, Also'}
use Rattle.rule_syntax.specs.declared.syntax.Term.{Term}
use Rattle.rule_syntax.specs.declared.syntax.Term.TheVariants.{Number, Nodes, Faults, Modulus, Me, Coin, LoopNode, Local, Word, Message', Binary', Logical', Not', Choice', Count', Least', Sorted'}
use Rattle.rule_syntax.specs.declared.syntax.Statement.{Statement}
use Rattle.rule_syntax.specs.declared.syntax.Statement.TheVariants.{Nothing, Then', Let', Assign, If', For', SendAll, SendTo}
use Rattle.rule_nodes.specs.declared.numbers.TheConstants.{PLACES}
use Rattle.rule_nodes.specs.Operands.{is_constant, is_operand, is_steady, is_shared, depth_behind}

-- true: no place is needed; false: depth d has a free place. Two computed sides need one for the left number, as does a
-- computed number that is sent to all, or assigned with others, or sent to a node that is no constant
abbrev pub HasPlace : Bool → ℕ → Type 0
HasPlace true d = Unit {0}
HasPlace false d = d < PLACES

-- what the sides of the test of a tally in place d need, by what they need at a depth. A shared right number is kept in place
-- d + 1; any other test is at depth d + 1
abbrev pub SidesFit : Bool → Bool → ℕ → (ℕ → Type 0) → (ℕ → Type 0) → Type 0
SidesFit true found d Left Right = (d + 1 < PLACES) × Right (d + 1) × Left (d + 2)
SidesFit false found d Left Right = HasPlace found (d + 1) × Left (d + 1) × Right (depth_behind found (d + 1))

-- a term at depth d, in a number of loops and with a number of lets in scope
abbrev pub Fits : Term → Sizes → ℕ → ℕ → ℕ → Type 0
Fits (Number v) z loops lets d = v < 2 ^ 32
Fits Nodes z loops lets d = Unit {0}
Fits Faults z loops lets d = Unit {0}
Fits Modulus z loops lets d = Unit {0}
Fits Me z loops lets d = Unit {0}
Fits Coin z loops lets d = Unit {0}
Fits (LoopNode i) z loops lets d = i < loops
Fits (Local k) z loops lets d = k < lets
Fits (Word k) z loops lets d = 4 * k + 4 ≤ z.memory
Fits (Message' p a) z loops lets d = Fits a z loops lets d
Fits (Binary' o p a q b) z loops lets d =
    HasPlace (is_operand a || is_operand b) d × Fits a z loops lets d
    × Fits b z loops lets (depth_behind (is_operand a || is_operand b) d)
Fits (Logical' c p a q b) z loops lets d = Fits a z loops lets d × Fits b z loops lets d
Fits (Not' p a) z loops lets d = Fits a z loops lets d
Fits (Choice' p t q a r b) z loops lets d = Fits t z loops lets d × Fits a z loops lets d × Fits b z loops lets d
Fits (Count' p (Binary' o q a r b)) z loops lets d =
    (d < PLACES) × SidesFit (is_shared o a b loops) (is_operand a || is_operand b) d
    (λ e. Fits a z (loops + 1) lets e) (λ e. Fits b z (loops + 1) lets e)
Fits (Count' p t) z loops lets d = (d < PLACES) × Fits t z (loops + 1) lets (d + 1)
Fits (Least' p (Binary' o q a r b)) z loops lets d =
    (d < PLACES) × SidesFit (is_shared o a b loops) (is_operand a || is_operand b) d
    (λ e. Fits a z (loops + 1) lets e) (λ e. Fits b z (loops + 1) lets e)
Fits (Least' p t) z loops lets d = (d < PLACES) × Fits t z (loops + 1) lets (d + 1)
Fits (Sorted' p k q e) z loops lets d =
    (is_constant k ≡ true) × Fits k z loops lets d × (d + z.nodes ≤ PLACES) × Fits e z (loops + 1) lets (d + z.nodes)

-- the tests of a tally in place d
abbrev pub TallyFits : Term → Sizes → ℕ → ℕ → ℕ → Type 0
TallyFits (Binary' o q a r b) z loops lets d =
    (d < PLACES) × SidesFit (is_shared o a b loops) (is_operand a || is_operand b) d
    (λ e. Fits a z (loops + 1) lets e) (λ e. Fits b z (loops + 1) lets e)
TallyFits t z loops lets d = (d < PLACES) × Fits t z (loops + 1) lets (d + 1)

abbrev pub TargetFits : Target → ℕ → ℕ → Type 0
TargetFits (ToLocal k) memory lets = k < lets
TargetFits (ToWord k) memory lets = 4 * k + 4 ≤ memory

abbrev pub AssignmentFits : Assignment → Sizes → ℕ → ℕ → ℕ → Type 0
AssignmentFits (One target e) z loops lets d = TargetFits target z.memory lets × Fits e z loops lets d
AssignmentFits (Also' p front target e) z loops lets d =
    TargetFits target z.memory lets × Fits e z loops lets d × HasPlace (is_steady e) d
    × AssignmentFits front z loops lets (depth_behind (is_steady e) d)

-- a statement in a number of loops, with d lets in scope
abbrev pub BlockFits : Statement → Sizes → ℕ → ℕ → Type 0
BlockFits Nothing z loops d = Unit {0}
BlockFits (Then' p a q b) z loops d = BlockFits a z loops d × BlockFits b z loops d
BlockFits (Let' e p rest) z loops d = (d < PLACES) × Fits e z loops d d × BlockFits rest z loops (d + 1)
BlockFits (Assign a) z loops d = AssignmentFits a z loops d d
BlockFits (If' t p a q b) z loops d = Fits t z loops d d × BlockFits a z loops d × BlockFits b z loops d
BlockFits (For' p body) z loops d = BlockFits body z (loops + 1) d
BlockFits (SendAll e) z loops d = HasPlace (is_operand e) d × Fits e z loops d d
BlockFits (SendTo e k) z loops d =
    HasPlace (is_constant k || is_operand e) d × Fits e z loops d d
    × Fits k z loops d (depth_behind (is_constant k || is_operand e) d)
