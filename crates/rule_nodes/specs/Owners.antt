-- Which statement made each instruction of a rule's program. Statements are numbered from 0 in the order of the text:
-- one before those in its blocks, and a let before the rest of its block.
use Rattle.std.specs.Prelude.{ℕ, zero, suc, ◌+◌, ◌-◌, if◌then◌else◌, List, [], ◌∷◌, ◌++◌, length, replicate}
use Rattle.rule_syntax.specs.declared.syntax.Sizes.{Sizes}
use Rattle.rule_syntax.specs.declared.syntax.Statement.{Statement}
use Rattle.rule_syntax.specs.declared.syntax.Statement.TheVariants.{Nothing, Then', Let', Assign, If', For', SendAll, SendTo}
use Rattle.rule_nodes.specs.Code.{let_code, is_nothing, block_code}

-- how many statements there are
abbrev pub statements_in : Statement → ℕ
statements_in Nothing = 0
statements_in (Then' p a q b) = statements_in a + statements_in b
statements_in (Let' e p rest) = statements_in rest + 1
statements_in (Assign a) = 1
statements_in (If' t p a q b) = statements_in a + statements_in b + 1
statements_in (For' p body) = statements_in body + 1
statements_in (SendAll e) = 1
statements_in (SendTo e k) = 1

-- the jump from the end of the first block over the second
abbrev pub jump_slots : Statement → ℕ
jump_slots b = if is_nothing b then 0 else 1

-- the instructions of a condition: those of its statement that are in neither block, but for that jump
abbrev pub test_slots : ℕ → ℕ → ℕ → ℕ → ℕ
test_slots all first jump second = all - (first + jump + second)

abbrev pub each_owners : (ℕ → List ℕ) → ℕ → List ℕ
each_owners body zero = []
each_owners body (suc n) = each_owners body n ++ body n

-- for each instruction of a block the number of its statement, where the first statement has number i
abbrev pub owners_of : Statement → Sizes → List ℕ → ℕ → ℕ → List ℕ
owners_of Nothing z J d i = []
owners_of (Then' p a q b) z J d i = owners_of a z J d i ++ owners_of b z J d (i + statements_in a)
owners_of (Let' e p rest) z J d i =
    replicate (length (let_code e z J d [])) i ++ owners_of rest z J (d + 1) (i + 1)
owners_of (Assign a) z J d i = replicate (length (block_code (Assign a) z J d)) i
owners_of (If' t p a q b) z J d i =
    replicate (test_slots (length (block_code (If' t p a q b) z J d)) (length (block_code a z J d)) (jump_slots b)
    (length (block_code b z J d))) i
    ++ (owners_of a z J d (i + 1) ++ (replicate (jump_slots b) i ++ owners_of b z J d (i + 1 + statements_in a)))
owners_of (For' p body) z J d i = each_owners (λ j. owners_of body z (J ++ j ∷ []) d (i + 1)) z.nodes
owners_of (SendAll e) z J d i = replicate (length (block_code (SendAll e) z J d)) i
owners_of (SendTo e k) z J d i = replicate (length (block_code (SendTo e k) z J d)) i
