-- What a rule means, with nothing of programs: from a node's memory, messages, coin and number, the memory that it
-- leaves and the messages that it sends.
use Rattle.std.specs.Prelude.{ℕ, zero, suc, ◌+◌, ◌-◌, ◌*◌, ◌/◌, ◌%◌, ◌^◌, ◌==◌, min, nat_lt, nat_le, not, ◌&&◌, ◌||◌, Bool, if◌then◌else◌, List, [], ◌∷◌, ◌++◌, slice_index, slice_index_or, slice_set}
use Rattle.std.specs.Ordering.{nat_cmp}
use Rattle.std.specs.FinMap.{FinMap, insert, empty}
use Rattle.node_env.specs.declared.env.TheConstants.{NO_MAIL}
use Rattle.node_env.specs.Env.{Setting, received}
use Rattle.rule_syntax.specs.declared.syntax.Sizes.{Sizes}
use Rattle.rule_syntax.specs.declared.syntax.Operation.{Operation}
use Rattle.rule_syntax.specs.declared.syntax.Operation.TheVariants.{Sum, Difference, Product, Quotient, Remainder}
use Rattle.rule_syntax.specs.declared.syntax.Comparison.{Comparison}
use Rattle.rule_syntax.specs.declared.syntax.Comparison.TheVariants.{Equal, NotEqual, Less, AtMost, Greater, AtLeast}
use Rattle.rule_syntax.specs.declared.syntax.Operator.{Operator}
use Rattle.rule_syntax.specs.declared.syntax.Operator.TheVariants.{Compute, Compare}
use Rattle.rule_syntax.specs.declared.syntax.Connective.{Connective}
use Rattle.rule_syntax.specs.declared.syntax.Connective.TheVariants.{And, Or}
use Rattle.rule_syntax.specs.declared.syntax.Target.{Target}
use Rattle.rule_syntax.specs.declared.syntax.Target.TheVariants.{ToLocal, ToWord}
use Rattle.rule_syntax.specs.declared.syntax.Assignment.{Assignment}
use Rattle.rule_syntax.specs.declared.syntax.Assignment.TheVariants.{One, Also'}
use Rattle.rule_syntax.specs.declared.syntax.Term.{Term}
use Rattle.rule_syntax.specs.declared.syntax.Term.TheVariants.{Number, Nodes, Faults, Modulus, Me, Coin, LoopNode, Local, Word, Message', Binary', Logical', Not', Choice', Count', Least', Sorted'}
use Rattle.rule_syntax.specs.declared.syntax.Statement.{Statement}
use Rattle.rule_syntax.specs.declared.syntax.Statement.TheVariants.{Nothing, Then', Let', Assign, If', For', SendAll, SendTo}

-- the number of each let by its place, the memory, and the numbers sent, by receiver
pub record NodeState : Type 0 where
  pub locals : ℕ → ℕ
  pub memory : List ℕ
  pub sent : FinMap nat_cmp ℕ

-- ---- numbers

-- modulo 2 ^ 32; a division by 0 gives 0, and its remainder is the left side
abbrev pub apply : Operation → ℕ → ℕ → ℕ
apply Sum a b = (a + b) % 2 ^ 32
apply Difference a b = (a + (2 ^ 32 - b)) % 2 ^ 32
apply Product a b = (a * b) % 2 ^ 32
apply Quotient a b = if b == 0 then 0 else a / b
apply Remainder a b = if b == 0 then a else a % b

abbrev pub compare : Comparison → ℕ → ℕ → Bool
compare Equal a b = a == b
compare NotEqual a b = not (a == b)
compare Less a b = nat_lt a b
compare AtMost a b = nat_le a b
compare Greater a b = nat_lt b a
compare AtLeast a b = nat_le b a

abbrev pub bit_of : Bool → ℕ
bit_of b = if b then 1 else 0

-- every number but 0 holds
abbrev pub truth : ℕ → Bool
truth v = not (v == 0)

abbrev pub apply_operator : Operator → ℕ → ℕ → ℕ
apply_operator (Compute op) a b = apply op a b
apply_operator (Compare r) a b = bit_of (compare r a b)

abbrev pub combine : Connective → Bool → Bool → Bool
combine And a b = a && b
combine Or a b = a || b

-- for how many numbers below n it holds
abbrev pub count_below : ℕ → (ℕ → ℕ) → ℕ
count_below zero holds = 0
count_below (suc n) holds = count_below n holds + bit_of (truth (holds n))

-- the least of the messages of the nodes below n for which it holds; NO_MAIL if there is none
abbrev pub least_below : ℕ → (ℕ → ℕ) → (ℕ → ℕ) → ℕ
least_below zero holds message = NO_MAIL
least_below (suc n) holds message =
    if truth (holds n) then min (message n) (least_below n holds message) else least_below n holds message

-- the numbers of the nodes below n, in the order of the nodes
abbrev pub numbers_of_nodes : ℕ → (ℕ → ℕ) → List ℕ
numbers_of_nodes zero number = []
numbers_of_nodes (suc n) number = numbers_of_nodes n number ++ number n ∷ []

-- a number put into numbers that rise, before the first greater one
abbrev pub put_in : ℕ → List ℕ → List ℕ
put_in v [] = v ∷ []
put_in v (w ∷ ws) = if nat_le w v then w ∷ put_in v ws else v ∷ w ∷ ws

-- the same numbers in rising order
abbrev pub in_order : List ℕ → List ℕ
in_order [] = []
in_order (v ∷ vs) = put_in v (in_order vs)

-- the number at a place, from 0 on; NO_MAIL past the last
abbrev pub number_at_place : ℕ → List ℕ → ℕ
number_at_place k vs = slice_index_or vs k NO_MAIL

-- ---- the memory and the messages

-- the bytes 4k to 4k + 3, the lowest first
abbrev pub word_at : ℕ → List ℕ → ℕ
word_at k m =
    slice_index m (4 * k) + 256 * (slice_index m (4 * k + 1) + 256 * (slice_index m (4 * k + 2) + 256 * slice_index m
    (4 * k + 3)))

abbrev pub with_memory_word : ℕ → ℕ → List ℕ → List ℕ
with_memory_word k v m = slice_set
    (slice_set (slice_set (slice_set m (4 * k) (v % 256)) (4 * k + 1) (v / 256 % 256)) (4 * k + 2) (v / 65536 % 256))
    (4 * k + 3) (v / 16777216 % 256)

-- the last message from a node; NO_MAIL if nothing came, or if there is no such node
abbrev pub message_from : Sizes → Setting → ℕ → ℕ
message_from z env j = if nat_lt j z.nodes then received env j else NO_MAIL

-- ---- terms

-- the number of a term in a state u, where J has the nodes of the loops around it
abbrev pub value : Term → Sizes → Setting → List ℕ → NodeState → ℕ
value (Number v) z env J u = v
value Nodes z env J u = z.nodes
value Faults z env J u = z.faults
value Modulus z env J u = z.modulus
value Me z env J u = env.id
value Coin z env J u = env.coin
value (LoopNode i) z env J u = slice_index J i
value (Local k) z env J u = u.locals k
value (Word k) z env J u = word_at k u.memory
value (Message' p a) z env J u = message_from z env (value a z env J u)
value (Binary' o p a q b) z env J u = apply_operator o (value a z env J u) (value b z env J u)
value (Logical' c p a q b) z env J u = bit_of (combine c (truth (value a z env J u)) (truth (value b z env J u)))
value (Not' p a) z env J u = bit_of (not (truth (value a z env J u)))
value (Choice' p t q a r b) z env J u = if truth (value t z env J u) then value a z env J u else value b z env J u
value (Count' p t) z env J u = count_below z.nodes (λ j. value t z env (J ++ j ∷ []) u)
value (Least' p t) z env J u =
    least_below z.nodes (λ j. value t z env (J ++ j ∷ []) u) (λ j. message_from z env j)
value (Sorted' p k q e) z env J u =
    number_at_place (value k z env J u) (in_order (numbers_of_nodes z.nodes (λ j. value e z env (J ++ j ∷ []) u)))

-- ---- statements

abbrev pub with_local : ℕ → ℕ → NodeState → NodeState
with_local k v u = record {
  locals = λ j. if j == k then v else u.locals j;
  memory = u.memory;
  sent = u.sent;
}

abbrev pub assigned : Target → ℕ → NodeState → NodeState
assigned (ToLocal k) v u = with_local k v u
assigned (ToWord k) v u = record { locals = u.locals; memory = with_memory_word k v u.memory; sent = u.sent }

-- each target, in order, becomes its number; all numbers are those of the state u
abbrev pub all_assigned : Assignment → Sizes → Setting → List ℕ → NodeState → NodeState
all_assigned (One target e) z env J u = assigned target (value e z env J u) u
all_assigned (Also' p front target e) z env J u = assigned target (value e z env J u) (all_assigned front z env J u)

abbrev pub with_sent : ℕ → ℕ → NodeState → NodeState
with_sent j v u = record { locals = u.locals; memory = u.memory; sent = insert u.sent j v }

-- to each node below n, from 0 on
abbrev pub sent_below : ℕ → ℕ → NodeState → NodeState
sent_below zero v u = u
sent_below (suc n) v u = with_sent n v (sent_below n v u)

-- for each node below n, from 0 on
abbrev pub each_below : ℕ → (ℕ → NodeState → NodeState) → NodeState → NodeState
each_below zero act u = u
each_below (suc n) act u = act n (each_below n act u)

-- the state that a statement makes of a state u, where d lets are in scope
abbrev pub after : Statement → Sizes → Setting → ℕ → List ℕ → NodeState → NodeState
after Nothing z env d J u = u
after (Then' p a q b) z env d J u = after b z env d J (after a z env d J u)
after (Let' e p rest) z env d J u = after rest z env (d + 1) J (with_local d (value e z env J u) u)
after (Assign a) z env d J u = all_assigned a z env J u
after (If' t p a q b) z env d J u =
    if truth (value t z env J u) then after a z env d J u else after b z env d J u
after (For' p body) z env d J u = each_below z.nodes (λ j w. after body z env d (J ++ j ∷ []) w) u
after (SendAll e) z env d J u = sent_below z.nodes (value e z env J u) u
after (SendTo e k) z env d J u =
    if nat_lt (value k z env J u) z.nodes then with_sent (value k z env J u) (value e z env J u) u else u

-- when the pulse begins, nothing is sent and no let is in scope
abbrev pub initial_state : List ℕ → NodeState
initial_state memory = record { locals = λ k. 0; memory = memory; sent = empty }

-- a rule in a pulse
abbrev pub pulse : Statement → Sizes → Setting → List ℕ → NodeState
pulse rule z env memory = after rule z env 0 [] (initial_state memory)
