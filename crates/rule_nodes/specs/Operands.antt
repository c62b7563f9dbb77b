-- The terms whose numbers are found without code of their own: constants, locals and words.
use Rattle.std.specs.Prelude.{ℕ, Bool, true, false, not, ◌==◌, ◌&&◌, ◌||◌, ◌+◌, ◌*◌, ◌≤◌, if◌then◌else◌, List, slice_index}
use Rattle.rule_syntax.specs.declared.syntax.Sizes.{Sizes}
use Rattle.rule_nodes.specs.declared.numbers.Source.{Source}
use Rattle.rule_nodes.specs.declared.numbers.Source.TheVariants.{Constant, FromLocal, FromWord, Computed}
use Rattle.rule_syntax.specs.declared.syntax.Operator.{Operator}
use Rattle.rule_syntax.specs.declared.syntax.Operator.TheVariants.{Compute, Compare}
use Rattle.rule_syntax.specs.declared.syntax.Target.{Target}
use Rattle.rule_syntax.specs.declared.syntax.Target.TheVariants.{ToLocal, ToWord}
use Rattle.rule_syntax.specs.declared.syntax.Term.{Term}
use Rattle.rule_syntax.specs.declared.syntax.Term.TheVariants.{Number, Nodes, Faults, Modulus, Me, Coin, LoopNode, Local, Word, Message', Binary', Logical', Not', Choice', Count', Least', Sorted'}
use Rattle.rule_meaning.specs.Meaning.{apply_operator}

-- a constant is a number, a size, the node of a loop, or computed of constants
abbrev pub is_constant : Term → Bool
is_constant (Number v) = true
is_constant Nodes = true
is_constant Faults = true
is_constant Modulus = true
is_constant (LoopNode i) = true
is_constant (Binary' o p a q b) = is_constant a && is_constant b
is_constant _ = false

abbrev pub is_fetched : Term → Bool
is_fetched (Local k) = true
is_fetched (Word k) = true
is_fetched _ = false

-- an operand is a constant, a local or a word
abbrev pub is_operand : Term → Bool
is_operand t = is_constant t || is_fetched t

abbrev pub is_local : Term → ℕ → Bool
is_local (Local j) k = j == k
is_local _ k = false

abbrev pub is_asked : Term → Bool
is_asked Me = true
is_asked Coin = true
is_asked _ = false

-- the number of a steady term is the same whatever is assigned
abbrev pub is_steady : Term → Bool
is_steady t = is_constant t || is_asked t

-- a term has the same number for all nodes of loop i. Loops are numbered from outside: those within it have greater numbers
abbrev pub is_free : Term → ℕ → Bool
is_free (Number v) i = true
is_free Nodes i = true
is_free Faults i = true
is_free Modulus i = true
is_free Me i = true
is_free Coin i = true
is_free (LoopNode k) i = not (k == i)
is_free (Local k) i = true
is_free (Word k) i = true
is_free (Message' p a) i = is_free a i
is_free (Binary' o p a q b) i = is_free a i && is_free b i
is_free (Logical' c p a q b) i = is_free a i && is_free b i
is_free (Not' p a) i = is_free a i
is_free (Choice' p t q a r b) i = is_free t i && (is_free a i && is_free b i)
is_free (Count' p t) i = is_free t i
is_free (Least' p t) i = is_free t i
is_free (Sorted' p k q e) i = is_free k i && is_free e i

-- the right side of a comparison is computed once for all nodes of loop i: neither side is an operand, and the right one is
-- free of the loop
abbrev pub is_shared : Operator → Term → Term → ℕ → Bool
is_shared (Compute op) a b i = false
is_shared (Compare r) a b i = not (is_operand a || is_operand b) && is_free b i

-- a term is such a comparison
abbrev pub shares_side : Term → ℕ → Bool
shares_side (Binary' o p a q b) i = is_shared o a b i
shares_side _ i = false

-- any other number is kept in a place while targets are set, as is the left one of two computed numbers
abbrev pub depth_behind : Bool → ℕ → ℕ
depth_behind steady d = if steady then d else d + 1

-- the number of a constant, where J has the nodes of the loops around it
abbrev pub constant_number : Term → Sizes → List ℕ → ℕ
constant_number (Number v) z J = v
constant_number Nodes z J = z.nodes
constant_number Faults z J = z.faults
constant_number Modulus z J = z.modulus
constant_number (LoopNode i) z J = slice_index J i
constant_number (Binary' o p a q b) z J = apply_operator o (constant_number a z J) (constant_number b z J)
constant_number _ z J = 0

-- ---- where a number is found

abbrev pub fetched_source : Term → Source
fetched_source (Local k) = FromLocal k
fetched_source (Word k) = FromWord k
fetched_source _ = Computed

abbrev pub term_source : Term → Sizes → List ℕ → Source
term_source t z J = if is_constant t then Constant (constant_number t z J) else fetched_source t

-- a source that is a word is in a memory of this length
abbrev pub IsSourceWithin : Source → ℕ → Type 0
IsSourceWithin (FromWord k) memory = 4 * k + 4 ≤ memory
IsSourceWithin _ memory = Unit {0}

-- and a target that is one
abbrev pub IsTargetInMemory : Target → ℕ → Type 0
IsTargetInMemory (ToLocal k) memory = Unit {0}
IsTargetInMemory (ToWord k) memory = 4 * k + 4 ≤ memory
