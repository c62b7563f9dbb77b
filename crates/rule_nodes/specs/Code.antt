-- The instructions of a rule. r6 has the memory's place, r0 the number just computed, r1 and r2 are scratch. Numbers in
-- use are kept in places: r7, r8 and r9, and then four bytes of the stack for each. At depth d the places below d are in
-- use.
use Rattle.std.specs.Prelude.{ℕ, zero, suc, ◌+◌, ◌-◌, ◌*◌, min, pos, negsuc, Bool, true, false, not, nat_lt, nat_le, ◌&&◌, ◌||◌, if◌then◌else◌, Option, Some, None, List, [], ◌∷◌, ◌++◌, length, slice_index}
use Rattle.std.specs.Int.{w32, cast_signed}
use Rattle.bpf_insn.specs.declared.forms.Reg as regs
use Rattle.bpf_insn.specs.declared.forms.Reg.TheVariants.{R0, R1, R2, R6, R7, R8, R9, R10}
use Rattle.bpf_insn.specs.declared.forms.Width.TheVariants.{W32, W64}
use Rattle.bpf_insn.specs.declared.forms.Size.TheVariants as size
use Rattle.bpf_insn.specs.declared.forms.AluOp.{AluOp}
use Rattle.bpf_insn.specs.declared.forms.AluOp.TheVariants.{Add, Sub, Mul, Div, Mod, Mov}
use Rattle.bpf_insn.specs.declared.forms.Cond.{Cond}
use Rattle.bpf_insn.specs.declared.forms.Cond.TheVariants as conds
use Rattle.bpf_insn.specs.declared.forms.Operand.{Operand}
use Rattle.bpf_insn.specs.declared.forms.Operand.TheVariants.{Imm, Reg}
use Rattle.bpf_insn.specs.declared.forms.Insn.{Insn}
use Rattle.bpf_insn.specs.declared.forms.Insn.TheVariants.{Alu, Branch, Ja, Call, Exit, Load, StoreReg, StoreImm}
use Rattle.rule_meaning.specs.Meaning.{apply_operator}
use Rattle.rule_nodes.specs.Operands.{is_constant, is_operand, is_local, is_steady, is_shared, constant_number, depth_behind, term_source}
use Rattle.rule_syntax.specs.declared.syntax.Sizes.{Sizes}
use Rattle.rule_syntax.specs.declared.syntax.Operation.{Operation}
use Rattle.rule_syntax.specs.declared.syntax.Operation.TheVariants.{Sum, Difference, Product, Quotient, Remainder}
use Rattle.rule_syntax.specs.declared.syntax.Comparison.{Comparison}
use Rattle.rule_syntax.specs.declared.syntax.Comparison.TheVariants.{Equal, NotEqual, Less, AtMost, Greater, AtLeast}
use Rattle.rule_syntax.specs.declared.syntax.Operator.{Operator}
use Rattle.rule_syntax.specs.declared.syntax.Operator.TheVariants.{Compute, Compare}
use Rattle.rule_syntax.specs.declared.syntax.Connective.{Connective}
use Rattle.rule_syntax.specs.declared.syntax.Connective.TheVariants.{And, Or}
use Rattle.rule_syntax.specs.declared.syntax.Target.{Target}
use Rattle.rule_syntax.specs.declared.syntax.Target.TheVariants.{ToLocal, ToWord}
use Rattle.rule_syntax.specs.declared.syntax.Assignment.{Assignment}
use Rattle.rule_syntax.specs.declared.syntax.Assignment.TheVariants.{One, Also'}
use Rattle.rule_nodes.specs.declared.numbers.Purpose.{Purpose}
use Rattle.rule_nodes.specs.declared.numbers.Purpose.TheVariants.{Value, Jump}
use Rattle.rule_nodes.specs.declared.numbers.TheConstants.{PLACES}
use Rattle.rule_nodes.specs.declared.numbers.Place.{Place}
use Rattle.rule_nodes.specs.declared.numbers.Place.TheVariants.{InRegister, OnStack}
use Rattle.rule_nodes.specs.declared.numbers.Tally.{Tally}
use Rattle.rule_nodes.specs.declared.numbers.Tally.TheVariants.{HowMany, LeastMessage}
use Rattle.rule_nodes.specs.declared.numbers.Source.{Source}
use Rattle.rule_nodes.specs.declared.numbers.Source.TheVariants.{Constant, FromLocal, FromWord, Computed}
use Rattle.rule_syntax.specs.declared.syntax.Term.{Term}
use Rattle.rule_syntax.specs.declared.syntax.Term.TheVariants.{Number, Nodes, Faults, Modulus, Me, Coin, LoopNode, Local, Word, Message', Binary', Logical', Not', Choice', Count', Least', Sorted'}
use Rattle.rule_syntax.specs.declared.syntax.Statement.{Statement}
use Rattle.rule_syntax.specs.declared.syntax.Statement.TheVariants.{Nothing, Then', Let', Assign, If', For', SendAll, SendTo}

-- ---- instructions

-- a number of 32 bits into a register
abbrev pub set_number : regs.Reg → ℕ → Insn
set_number dst v = Alu Mov W32 dst (Imm (cast_signed w32 v))

-- a whole register, as a node's number
abbrev pub set_node : regs.Reg → ℕ → Insn
set_node dst v = Alu Mov W64 dst (Imm (pos v))

abbrev pub copy : regs.Reg → regs.Reg → Insn
copy dst src = Alu Mov W32 dst (Reg src)

-- ---- places

-- where number k is kept: from the fourth on in the four bytes from r10 - 4(k - 2) on. Past the last of the PLACES, where
-- no rule that fits has a number, it is the last
abbrev pub number_place : ℕ → Place
number_place zero = InRegister R7
number_place (suc zero) = InRegister R8
number_place (suc (suc zero)) = InRegister R9
number_place (suc (suc (suc k))) = OnStack (negsuc (4 * min k (PLACES - 4) + 3))

-- a place into a register
abbrev pub fetch_code : regs.Reg → Place → Insn
fetch_code dst (InRegister register) = copy dst register
fetch_code dst (OnStack off) = Load size.W dst R10 off

-- r0 into a place
abbrev pub keep_code : Place → Insn
keep_code (InRegister register) = copy register R0
keep_code (OnStack off) = StoreReg size.W R10 off R0

-- a number of 32 bits into a place
abbrev pub start_code : Place → ℕ → Insn
start_code (InRegister register) v = set_number register v
start_code (OnStack off) v = StoreImm size.W R10 off (cast_signed w32 v)

-- one more in a place: on the stack by r0
abbrev pub increment_code : Place → List Insn
increment_code (InRegister register) = Alu Add W32 register (Imm (pos 1)) ∷ []
increment_code (OnStack off) =
    fetch_code R0 (OnStack off) ∷ Alu Add W32 R0 (Imm (pos 1)) ∷ keep_code (OnStack off) ∷ []

-- a place as the operand of an instruction: one on the stack is loaded into r1 first
abbrev pub place_operand : Place → Operand
place_operand (InRegister register) = Reg register
place_operand (OnStack off) = Reg R1

abbrev pub load_place : Place → List Insn
load_place (InRegister register) = []
load_place (OnStack off) = fetch_code R1 (OnStack off) ∷ []

-- ---- jumps

abbrev pub alu_op_of : Operation → AluOp
alu_op_of Sum = Add
alu_op_of Difference = Sub
alu_op_of Product = Mul
alu_op_of Quotient = Div
alu_op_of Remainder = Mod

abbrev pub cond_of : Comparison → Cond
cond_of Equal = conds.Eq
cond_of NotEqual = conds.Ne
cond_of Less = conds.Lt
cond_of AtMost = conds.Le
cond_of Greater = conds.Gt
cond_of AtLeast = conds.Ge

abbrev pub opposite : Comparison → Comparison
opposite Equal = NotEqual
opposite NotEqual = Equal
opposite Less = AtLeast
opposite AtMost = Greater
opposite Greater = AtMost
opposite AtLeast = Less

-- the same comparison with its sides changed over
abbrev pub mirror : Comparison → Comparison
mirror Equal = Equal
mirror NotEqual = NotEqual
mirror Less = Greater
mirror AtMost = AtLeast
mirror Greater = Less
mirror AtLeast = AtMost

-- the comparison for a jump that is taken if it holds, or if it doesn't
abbrev pub jump_on : Bool → Comparison → Comparison
jump_on when r = if when then r else opposite r

-- a jump by what r0 and an operand are
abbrev pub jump_by : Comparison → Operand → ℕ → Insn
jump_by r src far = Branch (cond_of r) W32 R0 src (pos far)

-- a jump by what r0 is beside a number
abbrev pub jump_at : Comparison → ℕ → ℕ → Insn
jump_at r v far = Branch (cond_of r) W32 R0 (Imm (pos v)) (pos far)

-- ---- terms

-- after a test that jumps 2 if it doesn't hold: 1, or 0
abbrev pub truth_code : List Insn
truth_code = set_number R0 1 ∷ Ja (pos 1) ∷ set_number R0 0 ∷ []

-- the code of a term whose number is computed: a jump then tests it against 0
abbrev pub by_value : Purpose → List Insn → List Insn
by_value Value code = code
by_value (Jump when far) code = code ++ jump_at (jump_on when NotEqual) 0 far ∷ []

-- the jump that the test of a term makes
abbrev pub when_of : Purpose → Bool
when_of Value = false
when_of (Jump when far) = when

abbrev pub far_of : Purpose → ℕ
far_of Value = 2
far_of (Jump when far) = far

-- how far beyond its end the code of a term leads
abbrev pub beyond_purpose : Purpose → ℕ
beyond_purpose Value = 0
beyond_purpose (Jump when far) = far

-- what comes after the test
abbrev pub behind_test : Purpose → List Insn → List Insn
behind_test Value code = code ++ truth_code
behind_test (Jump when far) code = code

-- the code of a term that is a test: a value then becomes 1 or 0
abbrev pub by_test : Purpose → (Bool → ℕ → List Insn) → List Insn
by_test purpose test = behind_test purpose (test (when_of purpose) (far_of purpose))

-- the instruction that puts a found number into a register
abbrev pub get_code : regs.Reg → Source → Insn
get_code dst (Constant v) = set_number dst v
get_code dst (FromLocal k) = fetch_code dst (number_place k)
get_code dst (FromWord k) = Load size.W dst R6 (pos (4 * k))
get_code dst Computed = copy dst R0

-- how a found number is the operand of an instruction: a word is loaded into r1 first
abbrev pub operand_code : Source → Operand
operand_code (Constant v) = Imm (cast_signed w32 v)
operand_code (FromLocal k) = place_operand (number_place k)
operand_code (FromWord k) = Reg R1
operand_code Computed = Reg R1

abbrev pub load_code : Source → List Insn
load_code (FromLocal k) = load_place (number_place k)
load_code (FromWord k) = get_code R1 (FromWord k) ∷ []
load_code _ = []

-- an operation on r0 and an operand gives a number, and a comparison of them is a test
abbrev pub by_operator : Operator → Operand → Purpose → List Insn → List Insn
by_operator (Compute op) src purpose code = by_value purpose (code ++ Alu (alu_op_of op) W32 R0 src ∷ [])
by_operator (Compare r) src purpose code = by_test purpose (λ when far. code ++ jump_by (jump_on when r) src far ∷ [])

-- the left number is found and the right one is computed: a comparison is turned round
abbrev pub left_code : Operator → Source → Purpose → List Insn → List Insn
left_code (Compute op) x purpose right =
    by_operator (Compute op) (Reg R1) purpose (right ++ (copy R1 R0 ∷ get_code R0 x ∷ []))
left_code (Compare r) x purpose right =
    by_operator (Compare (mirror r)) (operand_code x) purpose (right ++ load_code x)

-- a jump that compares a register with a constant
abbrev pub jump_register : regs.Reg → Comparison → ℕ → ℕ → Insn
jump_register register r v far = Branch (cond_of r) W32 register (Imm (cast_signed w32 v)) (pos far)

-- the right number is found
abbrev pub right_code : Operator → Source → Purpose → List Insn → List Insn
right_code o y purpose left = by_operator o (operand_code y) purpose (left ++ load_code y)

-- a comparison of a place with a constant: a register is compared where it is
abbrev pub beside_code : Place → Comparison → ℕ → Purpose → List Insn → List Insn
beside_code (InRegister register) r c purpose left =
    by_test purpose (λ when far. jump_register register (jump_on when r) c far ∷ [])
beside_code (OnStack off) r c purpose left = right_code (Compare r) (Constant c) purpose left

-- by where the right number y and the left number x are found: two constants give a constant. If both are computed, the
-- left one is kept in place d, and is found there
abbrev pub binary_code : Source → Source → Operator → ℕ → Purpose → List Insn → List Insn → List Insn
binary_code (Constant c) (Constant b) o d purpose left right = by_value purpose (set_number R0
    (apply_operator o b c) ∷ [])
binary_code (Constant c) (FromLocal k) (Compare r) d purpose left right = beside_code (number_place k) r c purpose left
binary_code Computed Computed o d purpose left right =
    left ++ (keep_code (number_place d) ∷ left_code o (FromLocal d) purpose right)
binary_code Computed x o d purpose left right = left_code o x purpose right
binary_code y x o d purpose left right = right_code o y purpose left

-- a test that skips the first, and the first skips the second
abbrev pub choice_code : (ℕ → List Insn) → List Insn → List Insn → List Insn
choice_code test a b = test (length a + 1) ++ (a ++ (Ja (pos (length b)) ∷ b))

-- without code for the other case there is nothing to skip
abbrev pub if_code : Bool → (ℕ → List Insn) → List Insn → List Insn → List Insn
if_code true test a b = test (length a) ++ a
if_code false test a b = choice_code test a b

-- the first condition decides alone if it is this
abbrev pub decides : Connective → Bool
decides And = false
decides Or = true

-- how far the first condition jumps, over the n instructions of the second
abbrev pub both_far : Bool → Bool → ℕ → ℕ → ℕ
both_far alone when n far =
    if alone then (if when then n + far else n) else (if when then n else n + far)

abbrev pub both_code : Bool → Bool → ℕ → (Bool → ℕ → List Insn) → List Insn → List Insn
both_code alone when far left right = left alone (both_far alone when (length right) far) ++ right

-- the last message from the node in r0
abbrev pub message_code : ℕ → List Insn
message_code n = jump_at Less n 2 ∷ set_number R0 4294967295 ∷ Ja (pos 2) ∷ copy R1 R0 ∷ Call (pos 2) ∷ []

-- the last message from a node, by where the node's number is found: a constant needs no test
abbrev pub message_by : Source → ℕ → List Insn → List Insn
message_by (Constant j) n code =
    if nat_lt j n then set_node R1 j ∷ Call (pos 2) ∷ [] else set_number R0 4294967295 ∷ []
message_by _ n code = code ++ message_code n

-- ---- tallies: a number in a place that is changed for each node at which a test holds

-- the message from node j goes into a place if it is less than the number there
abbrev pub lower_code : Place → ℕ → List Insn
lower_code p j =
    set_node R1 j ∷ Call (pos 2) ∷ (load_place p ++ (jump_by AtLeast (place_operand p) 1 ∷ keep_code p ∷ []))

-- a count begins with 0, and the least message with none
abbrev pub tally_start : Tally → ℕ
tally_start HowMany = 0
tally_start LeastMessage = 4294967295

-- what is done for node j
abbrev pub tally_step : Tally → Place → ℕ → List Insn
tally_step HowMany p j = increment_code p
tally_step LeastMessage p j = lower_code p j

-- for each node below n a test, which jumps over the step of the node if it doesn't hold
abbrev pub tally_codes : (ℕ → List Insn) → (ℕ → List Insn) → ℕ → List Insn
tally_codes step test zero = []
tally_codes step test (suc n) = tally_codes step test n ++ (test n ++ step n)

-- the tests and steps of n nodes, for a tally in place d
abbrev pub tests_code : Tally → ℕ → ℕ → (ℕ → List Insn) → List Insn
tests_code tally d n test = tally_codes (tally_step tally (number_place d)) test n

-- the tally stays in place d
abbrev pub tallied_code : Tally → ℕ → List Insn → List Insn
tallied_code tally d tests = start_code (number_place d) (tally_start tally) ∷ tests

abbrev pub tally_code : Tally → ℕ → List Insn → List Insn
tally_code tally d tests = tallied_code tally d tests ++ fetch_code R0 (number_place d) ∷ []

-- the steps of all nodes have the same length
abbrev pub tally_test : Tally → ℕ → Purpose
tally_test tally d = Jump false (length (tally_step tally (number_place d) 0))

-- the right number is computed once, and stays in place d + 1 for the tests of all nodes
abbrev pub shared_code : Tally → ℕ → ℕ → Operator → List Insn → (ℕ → List Insn) → List Insn
shared_code tally d n o right left =
    right ++ (keep_code (number_place (d + 1)) ∷ tests_code tally d n
    (λ j. right_code o (FromLocal (d + 1)) (tally_test tally d) (left j)))

-- the tests of an operator between two terms, by the codes of its sides for the nodes of the loops around and a depth
abbrev pub sides_code : Tally → Operator → Term → Term → Sizes → List ℕ → ℕ → (List ℕ → ℕ → List Insn)
    → (List ℕ → ℕ → List Insn) → List Insn
sides_code tally o a b z J d left right =
    if is_shared o a b (length J)
    then shared_code tally d z.nodes o (right (J ++ 0 ∷ []) (d + 1)) (λ j. left (J ++ j ∷ []) (d + 2))
    else tests_code tally d z.nodes (λ j. binary_code (term_source b z (J ++ j ∷ [])) (term_source a z (J ++ j ∷ [])) o
    (d + 1) (tally_test tally d) (left (J ++ j ∷ []) (d + 1))
    (right (J ++ j ∷ []) (depth_behind (is_operand a || is_operand b) (d + 1))))

-- ---- sorted numbers: the number of each node in a place, and then passes over the places

-- the number of node j, below n, into place d + j
abbrev pub items_code : ℕ → (ℕ → List Insn) → ℕ → List Insn
items_code d item zero = []
items_code d item (suc n) = items_code d item n ++ (item n ++ keep_code (number_place (d + n)) ∷ [])

-- of r0 and a place, the number for which the comparison with the other holds goes to r0, and the other to the place
abbrev pub exchange_code : Comparison → Place → List Insn
exchange_code r p = fetch_code R1 p ∷ jump_by r (Reg R1) 2 ∷ keep_code p ∷ copy R0 R1 ∷ []

-- with each of m places, from place b on
abbrev pub exchange_codes : Comparison → ℕ → ℕ → List Insn
exchange_codes r b zero = []
exchange_codes r b (suc m) = exchange_code r (number_place b) ++ exchange_codes r (b + 1) m

-- of the numbers in place a and the m places behind it, the least (AtMost) or the greatest (AtLeast) goes to r0, and
-- the others to the m places
abbrev pub pass_code : Comparison → ℕ → ℕ → List Insn
pass_code r a m = fetch_code R0 (number_place a) ∷ exchange_codes r (a + 1) m

-- as many passes over n places, from place d on, each from the next place on
abbrev pub pass_codes : Comparison → ℕ → ℕ → ℕ → List Insn
pass_codes r d n zero = []
pass_codes r d n (suc i) = pass_codes r d n i ++ pass_code r (d + i) (n - 1 - i)

-- place k of n is found from the nearer end: from the lesser numbers on, or from the greater ones on
abbrev pub nearer_end : ℕ → ℕ → Comparison
nearer_end k n = if nat_le k (n - 1 - k) then AtMost else AtLeast

-- after this many passes one more puts the number at place k of n into r0
abbrev pub passes_before : ℕ → ℕ → ℕ
passes_before k n = min k (n - 1 - k)

-- the number at place k among n numbers, in place d and those behind it; none if there is no place k
abbrev pub sorted_code : ℕ → ℕ → ℕ → (ℕ → List Insn) → List Insn
sorted_code k d n item =
    if nat_lt k n then items_code d item n ++ pass_codes (nearer_end k n) d n (suc (passes_before k n))
    else set_number R0 4294967295 ∷ []

-- of a term at depth d
abbrev pub term_code : Term → Sizes → List ℕ → ℕ → Purpose → List Insn
term_code (Number v) z J d purpose = by_value purpose (set_number R0 v ∷ [])
term_code Nodes z J d purpose = by_value purpose (set_number R0 z.nodes ∷ [])
term_code Faults z J d purpose = by_value purpose (set_number R0 z.faults ∷ [])
term_code Modulus z J d purpose = by_value purpose (set_number R0 z.modulus ∷ [])
term_code Me z J d purpose = by_value purpose (Call (pos 1) ∷ [])
term_code Coin z J d purpose = by_value purpose (Call (pos 4) ∷ [])
term_code (LoopNode i) z J d purpose = by_value purpose (set_number R0 (slice_index J i) ∷ [])
term_code (Local k) z J d purpose = by_value purpose (fetch_code R0 (number_place k) ∷ [])
term_code (Word k) z J d purpose = by_value purpose (Load size.W R0 R6 (pos (4 * k)) ∷ [])
term_code (Message' p a) z J d purpose = by_value purpose (message_by (term_source a z J) z.nodes
    (term_code a z J d Value))
term_code (Binary' o p a q b) z J d purpose =
    binary_code (term_source b z J) (term_source a z J) o d purpose (term_code a z J d Value)
    (term_code b z J (depth_behind (is_operand a || is_operand b) d) Value)
term_code (Logical' c p a q b) z J d purpose = by_test purpose (λ when far.
    both_code (decides c) when far (λ w g. term_code a z J d (Jump w g)) (term_code b z J d (Jump when far)))
term_code (Not' p a) z J d purpose = by_test purpose (λ when far. term_code a z J d (Jump (not when) far))
term_code (Choice' p t q a r b) z J d purpose = by_value purpose
    (choice_code (λ far. term_code t z J d (Jump false far)) (term_code a z J d Value) (term_code b z J d Value))
term_code (Count' p (Binary' o q a r b)) z J d purpose = by_value purpose (tally_code HowMany d
    (sides_code HowMany o a b z J d (λ I e. term_code a z I e Value) (λ I e. term_code b z I e Value)))
term_code (Count' p t) z J d purpose = by_value purpose (tally_code HowMany d
    (tests_code HowMany d z.nodes (λ j. term_code t z (J ++ j ∷ []) (d + 1) (tally_test HowMany d))))
term_code (Least' p (Binary' o q a r b)) z J d purpose = by_value purpose (tally_code LeastMessage d
    (sides_code LeastMessage o a b z J d (λ I e. term_code a z I e Value) (λ I e. term_code b z I e Value)))
term_code (Least' p t) z J d purpose = by_value purpose (tally_code LeastMessage d
    (tests_code LeastMessage d z.nodes (λ j. term_code t z (J ++ j ∷ []) (d + 1) (tally_test LeastMessage d))))
term_code (Sorted' p k q e) z J d purpose = by_value purpose
    (sorted_code (constant_number k z J) d z.nodes (λ j. term_code e z (J ++ j ∷ []) (d + j) Value))

-- the tests and steps of a tally over the nodes at which a term holds
abbrev pub over_code : Tally → Term → Sizes → List ℕ → ℕ → List Insn
over_code tally (Binary' o q a r b) z J d =
    sides_code tally o a b z J d (λ I e. term_code a z I e Value) (λ I e. term_code b z I e Value)
over_code tally t z J d =
    tests_code tally d z.nodes (λ j. term_code t z (J ++ j ∷ []) (d + 1) (tally_test tally d))

-- ---- statements

abbrev pub assign_code : Target → Insn
assign_code (ToLocal k) = keep_code (number_place k)
assign_code (ToWord k) = StoreReg size.W R6 (pos (4 * k)) R0

-- a found number into a place: on the stack by r0
abbrev pub place_code : Place → Source → List Insn
place_code (InRegister register) x = get_code register x ∷ []
place_code (OnStack off) x = get_code R0 x ∷ keep_code (OnStack off) ∷ []

-- a place into a word
abbrev pub word_code : ℕ → Place → List Insn
word_code k (InRegister register) = StoreReg size.W R6 (pos (4 * k)) register ∷ []
word_code k (OnStack off) = fetch_code R0 (OnStack off) ∷ assign_code (ToWord k) ∷ []

-- sets a target to a found number
abbrev pub set_code : Target → Source → List Insn
set_code (ToLocal k) x = place_code (number_place k) x
set_code (ToWord k) (Constant v) = StoreImm size.W R6 (pos (4 * k)) (cast_signed w32 v) ∷ []
set_code (ToWord k) (FromLocal j) = word_code k (number_place j)
set_code (ToWord k) x = get_code R0 x ∷ assign_code (ToWord k) ∷ []

-- sets a target to a number, by where that is found
abbrev pub given_code : Source → Target → List Insn → List Insn
given_code Computed target code = code ++ assign_code target ∷ []
given_code x target code = set_code target x

-- the instruction that changes a place by an operation on itself and a constant, if it is a register
abbrev pub change_place : Place → Operation → ℕ → Option Insn
change_place (InRegister register) op c = Some (Alu (alu_op_of op) W32 register (Imm (cast_signed w32 c)))
change_place (OnStack off) op c = None

-- the instruction that changes a local in its place, if a target is set to an operation on itself and a constant
abbrev pub change_by : Target → Operator → Term → Term → Sizes → List ℕ → Option Insn
change_by (ToLocal k) (Compute op) a b z J =
    if is_local a k && is_constant b then change_place (number_place k) op (constant_number b z J) else None
change_by target o a b z J = None

abbrev pub changing_insn : Target → Term → Sizes → List ℕ → Option Insn
changing_insn target (Binary' o p a q b) z J = change_by target o a b z J
changing_insn target _ z J = None

abbrev pub one_code : Option Insn → List Insn → List Insn
one_code (Some insn) code = insn ∷ []
one_code None code = code

-- a steady number comes after the targets before; any other number comes before them, and is kept in place d
abbrev pub also_code : Bool → ℕ → Source → Target → List Insn → List Insn → List Insn
also_code true d x target code first = first ++ given_code x target code
also_code false d x target code first =
    code ++ (keep_code (number_place d) ∷ (first ++ fetch_code R0 (number_place d) ∷ assign_code target ∷ []))

-- of an assignment at depth d
abbrev pub assignment_code : Assignment → Sizes → List ℕ → ℕ → List Insn
assignment_code (One target e) z J d =
    one_code (changing_insn target e z J) (given_code (term_source e z J) target (term_code e z J d Value))
assignment_code (Also' p front target e) z J d =
    also_code (is_steady e) d (term_source e z J) target (term_code e z J d Value)
    (assignment_code front z J (depth_behind (is_steady e) d))

-- a found number to a node
abbrev pub send_code : Source → ℕ → List Insn
send_code x j = set_node R1 j ∷ get_code R2 x ∷ Call (pos 3) ∷ []

-- to each node below n, from 0 on
abbrev pub send_codes : Source → ℕ → List Insn
send_codes x zero = []
send_codes x (suc n) = send_codes x n ++ send_code x n

-- a computed number is sent from place d
abbrev pub send_all_code : Source → ℕ → ℕ → List Insn → List Insn
send_all_code Computed d n code = code ++ (keep_code (number_place d) ∷ send_codes (FromLocal d) n)
send_all_code x d n code = send_codes x n

-- a found number, or a computed one, to a node
abbrev pub passed_code : Source → ℕ → List Insn → List Insn
passed_code Computed j code = code ++ send_code Computed j
passed_code x j code = send_code x j

-- An instruction without effect. So each statement has one, and the limit of slots bounds the work of the compiler.
abbrev pub idle_code : List Insn
idle_code = set_number R0 0 ∷ []

-- to the node of a constant, if there is one
abbrev pub send_to_constant_code : Source → ℕ → ℕ → List Insn → List Insn
send_to_constant_code x j n code = if nat_lt j n then passed_code x j code else idle_code

-- a found number to the node in r0, if there is one
abbrev pub receiver_code : Source → ℕ → List Insn
receiver_code x n = jump_at AtLeast n 3 ∷ copy R1 R0 ∷ get_code R2 x ∷ Call (pos 3) ∷ []

-- a computed number is sent from place d, and a found one from where it is found
abbrev pub send_to_code : Source → ℕ → ℕ → List Insn → List Insn → List Insn
send_to_code Computed d n code receiver =
    code ++ (keep_code (number_place d) ∷ (receiver ++ receiver_code (FromLocal d) n))
send_to_code x d n code receiver = receiver ++ receiver_code x n

abbrev pub each_code : (ℕ → List Insn) → ℕ → List Insn
each_code body zero = []
each_code body (suc n) = each_code body n ++ body n

-- a found number, or a computed one, goes to place d; then comes what follows
abbrev pub stored_code : Source → ℕ → List Insn → List Insn → List Insn
stored_code Computed d code rest = code ++ (keep_code (number_place d) ∷ rest)
stored_code x d code rest = place_code (number_place d) x ++ rest

-- a let at depth d, and what follows: a tally stays where it was made
abbrev pub let_code : Term → Sizes → List ℕ → ℕ → List Insn → List Insn
let_code (Count' p t) z J d rest = tallied_code HowMany d (over_code HowMany t z J d) ++ rest
let_code (Least' p t) z J d rest = tallied_code LeastMessage d (over_code LeastMessage t z J d) ++ rest
let_code e z J d rest = stored_code (term_source e z J) d (term_code e z J d Value) rest

abbrev pub is_nothing : Statement → Bool
is_nothing Nothing = true
is_nothing _ = false

-- of a statement with d lets in scope
abbrev pub block_code : Statement → Sizes → List ℕ → ℕ → List Insn
block_code Nothing z J d = []
block_code (Then' p a q b) z J d = block_code a z J d ++ block_code b z J d
block_code (Let' e p rest) z J d = let_code e z J d (block_code rest z J (d + 1))
block_code (Assign a) z J d = assignment_code a z J d
block_code (If' t p a q b) z J d =
    if_code (is_nothing b) (λ far. term_code t z J d (Jump false far)) (block_code a z J d) (block_code b z J d)
block_code (For' p body) z J d = each_code (λ j. block_code body z (J ++ j ∷ []) d) z.nodes
block_code (SendAll e) z J d = send_all_code (term_source e z J) d z.nodes (term_code e z J d Value)
block_code (SendTo e k) z J d =
    if is_constant k then send_to_constant_code (term_source e z J) (constant_number k z J) z.nodes
    (term_code e z J d Value)
    else send_to_code (term_source e z J) d z.nodes (term_code e z J d Value)
    (term_code k z J (depth_behind (is_operand e) d) Value)

abbrev pub head_code : List Insn
head_code = Alu Mov W64 R6 (Reg R1) ∷ []

abbrev pub tail_code : List Insn
tail_code = Alu Mov W64 R0 (Imm (pos 0)) ∷ Exit ∷ []

-- of a whole rule
abbrev pub rule_code : Statement → Sizes → List Insn
rule_code rule z = head_code ++ (block_code rule z [] 0 ++ tail_code)
