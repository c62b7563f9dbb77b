-- The rules whose paths are known: they have no loop and no `send .. to`, their numbers have 32 bits, and their words are
-- among those of a node.
use Rattle.std.specs.Prelude.{ℕ, ◌+◌, ◌^◌, ◌<◌, Bool, true, false, ◌&&◌, ◌||◌}
use Rattle.rule_syntax.specs.declared.syntax.Target.{Target}
use Rattle.rule_syntax.specs.declared.syntax.Target.TheVariants.{ToLocal, ToWord}
use Rattle.rule_syntax.specs.declared.syntax.Assignment.{Assignment}
use Rattle.rule_syntax.specs.declared.syntax.Assignment.TheVariants.{One, Also'}
use Rattle.rule_syntax.specs.declared.syntax.Term.{Term}
use Rattle.rule_syntax.specs.declared.syntax.Term.TheVariants.{Number, Nodes, Faults, Modulus, Me, Coin, LoopNode, Local, Word, Message', Binary', Logical', Not', Choice', Count', Least', Sorted'}
use Rattle.rule_syntax.specs.declared.syntax.Statement.{Statement}
use Rattle.rule_syntax.specs.declared.syntax.Statement.TheVariants.{Nothing, Then', Let', Assign, If', For', SendAll, SendTo}

-- a term in so many counts
abbrev pub TermIsCovered : ℕ → ℕ → Term → Type 0
TermIsCovered words loops (Number v) = v < 2 ^ 32
TermIsCovered words loops Nodes = Unit {0}
TermIsCovered words loops Faults = Unit {0}
TermIsCovered words loops Modulus = Unit {0}
TermIsCovered words loops Me = Unit {0}
TermIsCovered words loops Coin = Unit {0}
TermIsCovered words loops (LoopNode i) = i < loops
TermIsCovered words loops (Local k) = Unit {0}
TermIsCovered words loops (Word k) = k < words
TermIsCovered words loops (Message' p a) = TermIsCovered words loops a
TermIsCovered words loops (Binary' o p a q b) = TermIsCovered words loops a × TermIsCovered words loops b
TermIsCovered words loops (Logical' c p a q b) = TermIsCovered words loops a × TermIsCovered words loops b
TermIsCovered words loops (Not' p a) = TermIsCovered words loops a
TermIsCovered words loops (Choice' p t q a r b) =
    TermIsCovered words loops t × TermIsCovered words loops a × TermIsCovered words loops b
TermIsCovered words loops (Count' p t) = TermIsCovered words (loops + 1) t
TermIsCovered words loops (Least' p t) = ⊥
TermIsCovered words loops (Sorted' p k q t) = ⊥

abbrev pub TargetIsCovered : ℕ → Target → Type 0
TargetIsCovered words (ToLocal k) = Unit {0}
TargetIsCovered words (ToWord k) = k < words

abbrev pub AssignmentIsCovered : ℕ → Assignment → Type 0
AssignmentIsCovered words (One target e) = TargetIsCovered words target × TermIsCovered words 0 e
AssignmentIsCovered words (Also' p front target e) =
    AssignmentIsCovered words front × TargetIsCovered words target × TermIsCovered words 0 e

abbrev pub RuleIsCovered : ℕ → Statement → Type 0
RuleIsCovered words Nothing = Unit {0}
RuleIsCovered words (Then' p a q b) = RuleIsCovered words a × RuleIsCovered words b
RuleIsCovered words (Let' e p rest) = TermIsCovered words 0 e × RuleIsCovered words rest
RuleIsCovered words (Assign a) = AssignmentIsCovered words a
RuleIsCovered words (If' t p a q b) = TermIsCovered words 0 t × RuleIsCovered words a × RuleIsCovered words b
RuleIsCovered words (For' p body) = ⊥
RuleIsCovered words (SendAll e) = TermIsCovered words 0 e
RuleIsCovered words (SendTo e k) = ⊥

-- a number is sent to all on each path
abbrev pub always_sends : Statement → Bool
always_sends Nothing = false
always_sends (Then' p a q b) = always_sends a || always_sends b
always_sends (Let' e p rest) = always_sends rest
always_sends (Assign a) = false
always_sends (If' t p a q b) = always_sends a && always_sends b
always_sends (For' p body) = false
always_sends (SendAll e) = true
always_sends (SendTo e k) = false
