-- The code of a rule, and whether it fits, don't depend on where its boxes lie: rules of one form have the same.
use Rattle.std.proofs.Common.{◌≡◌, ℕ, ◌+◌, ◌<◌, ◌≤◌, ◌&&◌, ◌||◌, not, true, false, if◌then◌else◌, List, [], ◌∷◌, ◌++◌, length, None, refl, ap, sym, subst, ◌∙◌, Box, Global}
use denote.RawPtr.{null_ptr}
use Rattle.bpf_insn.specs.declared.forms.Insn.{Insn}
use Rattle.rule_meaning.specs.Meaning.{apply_operator}
use Rattle.rule_nodes.specs.Operands.{is_constant, is_fetched, is_local, is_operand, is_asked, is_steady, is_free, is_shared, depth_behind, constant_number, fetched_source, term_source}
use Rattle.rule_nodes.specs.Code.{number_place, by_value, by_test, binary_code, choice_code, decides, both_code, message_by, tests_code, tallied_code, tally_code, tally_test, shared_code, sides_code, sorted_code, term_code, over_code, given_code, change_place, change_by, changing_insn, one_code, also_code, assignment_code, stored_code, send_all_code, send_to_constant_code, send_to_code, each_code, if_code, is_nothing, let_code, block_code, head_code, tail_code, rule_code}
use Rattle.rule_nodes.specs.Fits.{HasPlace, SidesFit, Fits, TargetFits, AssignmentFits, BlockFits}
use Rattle.rule_syntax.specs.declared.syntax.Operator.{Operator}
use Rattle.rule_syntax.specs.declared.syntax.Operator.TheVariants.{Compute, Compare}
use Rattle.rule_syntax.specs.declared.syntax.Sizes.{Sizes}
use Rattle.rule_syntax.specs.declared.syntax.Target.{Target}
use Rattle.rule_syntax.specs.declared.syntax.Target.TheVariants.{ToLocal, ToWord}
use Rattle.rule_nodes.specs.declared.numbers.TheConstants.{PLACES}
use Rattle.rule_nodes.specs.declared.numbers.Purpose.{Purpose}
use Rattle.rule_nodes.specs.declared.numbers.Purpose.TheVariants.{Value, Jump}
use Rattle.rule_nodes.specs.declared.numbers.Source.TheVariants.{Constant}
use Rattle.rule_nodes.specs.declared.numbers.Tally.{Tally}
use Rattle.rule_nodes.specs.declared.numbers.Tally.TheVariants.{HowMany, LeastMessage}
use Rattle.rule_syntax.specs.declared.syntax.Assignment.{Assignment}
use Rattle.rule_syntax.specs.declared.syntax.Assignment.TheVariants.{One, Also'}
use Rattle.rule_syntax.specs.declared.syntax.Term.{Term}
use Rattle.rule_syntax.specs.declared.syntax.Term.TheVariants.{Number, Nodes, Faults, Modulus, Me, Coin, LoopNode, Local, Word, Message', Binary', Logical', Not', Choice', Count', Least', Sorted'}
use Rattle.rule_syntax.specs.declared.syntax.Statement.{Statement}
use Rattle.rule_syntax.specs.declared.syntax.Statement.TheVariants.{Nothing, Then', Let', Assign, If', For', SendAll, SendTo}
use Rattle.rule_text.specs.Forms.{TermForm, number, nodes, faults, modulus, me, coin, loop_node, local, word, message, binary, logical, inverse, choice, count, least, sorted, AssignmentForm, one, also, StatementForm, nothing, sequence, let_in, assign, branch, each, send_all, send_to, term_form, assignment_form, statement_form}

-- ---- a rule of each form, whose boxes lie nowhere, for an allocator g

nowhere : Global → Box (Unit {0}) Global
nowhere g = record { ptr = null_ptr; alloc = g; value = tt }

abbrev term_of : Global → TermForm → Term
term_of g (number v) = Number v
term_of g nodes = Nodes
term_of g faults = Faults
term_of g modulus = Modulus
term_of g me = Me
term_of g coin = Coin
term_of g (loop_node i) = LoopNode i
term_of g (local k) = Local k
term_of g (word k) = Word k
term_of g (message a) = Message' (nowhere g) (term_of g a)
term_of g (binary o a b) = Binary' o (nowhere g) (term_of g a) (nowhere g) (term_of g b)
term_of g (logical c a b) = Logical' c (nowhere g) (term_of g a) (nowhere g) (term_of g b)
term_of g (inverse a) = Not' (nowhere g) (term_of g a)
term_of g (choice t a b) = Choice' (nowhere g) (term_of g t) (nowhere g) (term_of g a) (nowhere g) (term_of g b)
term_of g (count t) = Count' (nowhere g) (term_of g t)
term_of g (least t) = Least' (nowhere g) (term_of g t)
term_of g (sorted k t) = Sorted' (nowhere g) (term_of g k) (nowhere g) (term_of g t)

abbrev assignment_of : Global → AssignmentForm → Assignment
assignment_of g (one target e) = One target (term_of g e)
assignment_of g (also front target e) = Also' (nowhere g) (assignment_of g front) target (term_of g e)

abbrev statement_of : Global → StatementForm → Statement
statement_of g nothing = Nothing
statement_of g (sequence a b) = Then' (nowhere g) (statement_of g a) (nowhere g) (statement_of g b)
statement_of g (let_in e rest) = Let' (term_of g e) (nowhere g) (statement_of g rest)
statement_of g (assign a) = Assign (assignment_of g a)
statement_of g (branch t a b) = If' (term_of g t) (nowhere g) (statement_of g a) (nowhere g) (statement_of g b)
statement_of g (each body) = For' (nowhere g) (statement_of g body)
statement_of g (send_all e) = SendAll (term_of g e)
statement_of g (send_to e k) = SendTo (term_of g e) (term_of g k)

-- the same term, with its boxes nowhere
abbrev lifted : Global → Term → Term
lifted g t = term_of g (term_form t)

-- ---- operands

constant_same : (g : Global) (t : Term) → is_constant t ≡ is_constant (lifted g t)
constant_same g (Binary' o p a q b) = λ k. constant_same g a k && constant_same g b k
constant_same g Me = refl
constant_same g _ = refl

is_fetched_same : (g : Global) (t : Term) → is_fetched t ≡ is_fetched (lifted g t)
is_fetched_same g (Local k) = refl
is_fetched_same g _ = refl

asked_same : (g : Global) (t : Term) → is_asked t ≡ is_asked (lifted g t)
asked_same g Me = refl
asked_same g _ = refl

operand_same : (g : Global) (t : Term) → is_operand t ≡ is_operand (lifted g t)
operand_same g t = λ k. constant_same g t k || is_fetched_same g t k

steady_same : (g : Global) (t : Term) → is_steady t ≡ is_steady (lifted g t)
steady_same g t = λ k. constant_same g t k || asked_same g t k

number_same : (g : Global) (t : Term) (z : Sizes) (J : List ℕ) → constant_number t z J ≡ constant_number (lifted g t) z J
number_same g (Binary' o p a q b) z J = λ k. apply_operator o (number_same g a z J k) (number_same g b z J k)
number_same g Me z J = refl
number_same g _ z J = refl

fetched_same : (g : Global) (t : Term) → fetched_source t ≡ fetched_source (lifted g t)
fetched_same g (Local k) = refl
fetched_same g _ = refl

source_same : (g : Global) (t : Term) (z : Sizes) (J : List ℕ) → term_source t z J ≡ term_source (lifted g t) z J
source_same g t z J = λ k. if constant_same g t k then Constant (number_same g t z J k) else fetched_same g t k

-- ---- terms

free_same : (g : Global) (t : Term) (i : ℕ) → is_free t i ≡ is_free (lifted g t) i
free_same g (Message' p a) i = free_same g a i
free_same g (Binary' o p a q b) i = λ k. free_same g a i k && free_same g b i k
free_same g (Logical' c p a q b) i = λ k. free_same g a i k && free_same g b i k
free_same g (Not' p a) i = free_same g a i
free_same g (Choice' p t q a r b) i = λ k. free_same g t i k && (free_same g a i k && free_same g b i k)
free_same g (Count' p t) i = free_same g t i
free_same g (Least' p t) i = free_same g t i
free_same g (Sorted' p a q b) i = λ k. free_same g a i k && free_same g b i k
free_same g Me i = refl
free_same g _ i = refl

shared_same : (g : Global) (o : Operator) (a b : Term) (i : ℕ) → is_shared o a b i ≡ is_shared o (lifted g a) (lifted g b) i
shared_same g (Compute op) a b i = refl
shared_same g (Compare r) a b i = λ k. not (operand_same g a k || operand_same g b k) && free_same g b i k

-- the tests of an operator between two terms
sides_same : (g : Global) (tally : Tally) (o : Operator) (a b : Term) (z : Sizes) (J : List ℕ) (d : ℕ)
    → ((I : List ℕ) (e : ℕ) → term_code a z I e Value ≡ term_code (lifted g a) z I e Value)
    → ((I : List ℕ) (e : ℕ) → term_code b z I e Value ≡ term_code (lifted g b) z I e Value)
    → sides_code tally o a b z J d (λ I e. term_code a z I e Value) (λ I e. term_code b z I e Value)
    ≡ sides_code tally o (lifted g a) (lifted g b) z J d (λ I e. term_code (lifted g a) z I e Value)
    (λ I e. term_code (lifted g b) z I e Value)
sides_same g tally o a b z J d left right =
    λ k. if shared_same g o a b (length J) k
    then shared_code tally d z.nodes o (right (J ++ 0 ∷ []) (d + 1) k) (λ j. left (J ++ j ∷ []) (d + 2) k)
    else tests_code tally d z.nodes (λ j. binary_code (source_same g b z (J ++ j ∷ []) k)
    (source_same g a z (J ++ j ∷ []) k) o (d + 1) (tally_test tally d) (left (J ++ j ∷ []) (d + 1) k)
    (right (J ++ j ∷ []) (depth_behind (operand_same g a k || operand_same g b k) (d + 1)) k))

code_same : (g : Global) (t : Term) (z : Sizes) (J : List ℕ) (d : ℕ) (purpose : Purpose)
    → term_code t z J d purpose ≡ term_code (lifted g t) z J d purpose
code_same g (Message' p a) z J d purpose =
    λ k. by_value purpose (message_by (source_same g a z J k) z.nodes (code_same g a z J d Value k))
code_same g (Binary' o p a q b) z J d purpose =
    let D = depth_behind (is_operand a || is_operand b) d in
    let E = depth_behind (is_operand (lifted g a) || is_operand (lifted g b)) d in
    let deep : D ≡ E = λ k. depth_behind (operand_same g a k || operand_same g b k) d in
    let right : term_code b z J D Value ≡ term_code (lifted g b) z J E Value =
    code_same g b z J D Value ∙ ap (λ (e : ℕ). term_code (lifted g b) z J e Value) deep in
    λ k. binary_code (source_same g b z J k) (source_same g a z J k) o d purpose (code_same g a z J d Value k) (right k)
code_same g (Logical' c p a q b) z J d purpose =
    λ k. by_test purpose (λ when far. both_code (decides c) when far (λ w h. code_same g a z J d (Jump w h) k)
    (code_same g b z J d (Jump when far) k))
code_same g (Not' p a) z J d purpose = λ k. by_test purpose (λ when far. code_same g a z J d (Jump (not when) far) k)
code_same g (Choice' p t q a r b) z J d purpose =
    λ k. by_value purpose (choice_code (λ far. code_same g t z J d (Jump false far) k) (code_same g a z J d Value k)
    (code_same g b z J d Value k))
code_same g (Count' p (Binary' o q a r b)) z J d purpose =
    let tests = sides_same g HowMany o a b z J d (λ I e. code_same g a z I e Value) (λ I e. code_same g b z I e Value) in
    λ k. by_value purpose (tally_code HowMany d (tests k))
code_same g (Count' p t) z J d purpose =
    λ k. by_value purpose (tally_code HowMany d
    (tests_code HowMany d z.nodes (λ j. code_same g t z (J ++ j ∷ []) (d + 1) (tally_test HowMany d) k)))
code_same g (Least' p (Binary' o q a r b)) z J d purpose =
    let tests = sides_same g LeastMessage o a b z J d (λ I e. code_same g a z I e Value) (λ I e. code_same g b z I e Value) in
    λ k. by_value purpose (tally_code LeastMessage d (tests k))
code_same g (Least' p t) z J d purpose =
    λ k. by_value purpose (tally_code LeastMessage d
    (tests_code LeastMessage d z.nodes (λ j. code_same g t z (J ++ j ∷ []) (d + 1) (tally_test LeastMessage d) k)))
code_same g (Sorted' p a q b) z J d purpose =
    λ k. by_value purpose
    (sorted_code (number_same g a z J k) d z.nodes (λ j. code_same g b z (J ++ j ∷ []) (d + j) Value k))
code_same g Me z J d purpose = refl
code_same g _ z J d purpose = refl

fits_same : (g : Global) (t : Term) (z : Sizes) (loops lets d : ℕ) → Fits t z loops lets d ≡ Fits (lifted g t) z loops lets d
fits_same g (Message' p a) z loops lets d = fits_same g a z loops lets d
fits_same g (Binary' o p a q b) z loops lets d =
    let D = depth_behind (is_operand a || is_operand b) d in
    let E = depth_behind (is_operand (lifted g a) || is_operand (lifted g b)) d in
    let deep : D ≡ E = λ k. depth_behind (operand_same g a k || operand_same g b k) d in
    let right : Fits b z loops lets D ≡ Fits (lifted g b) z loops lets E =
    fits_same g b z loops lets D ∙ ap (λ (e : ℕ). Fits (lifted g b) z loops lets e) deep in
    λ k. HasPlace (operand_same g a k || operand_same g b k) d × fits_same g a z loops lets d k × right k
fits_same g (Logical' c p a q b) z loops lets d = λ k. fits_same g a z loops lets d k × fits_same g b z loops lets d k
fits_same g (Not' p a) z loops lets d = fits_same g a z loops lets d
fits_same g (Choice' p t q a r b) z loops lets d =
    λ k. fits_same g t z loops lets d k × fits_same g a z loops lets d k × fits_same g b z loops lets d k
fits_same g (Count' p (Binary' o q a r b)) z loops lets d =
    λ k. (d < PLACES) × SidesFit (shared_same g o a b loops k) (operand_same g a k || operand_same g b k) d
    (λ e. fits_same g a z (loops + 1) lets e k) (λ e. fits_same g b z (loops + 1) lets e k)
fits_same g (Count' p t) z loops lets d = λ k. (d < PLACES) × fits_same g t z (loops + 1) lets (d + 1) k
fits_same g (Least' p (Binary' o q a r b)) z loops lets d =
    λ k. (d < PLACES) × SidesFit (shared_same g o a b loops k) (operand_same g a k || operand_same g b k) d
    (λ e. fits_same g a z (loops + 1) lets e k) (λ e. fits_same g b z (loops + 1) lets e k)
fits_same g (Least' p t) z loops lets d = λ k. (d < PLACES) × fits_same g t z (loops + 1) lets (d + 1) k
fits_same g (Sorted' p a q b) z loops lets d =
    λ k. (constant_same g a k ≡ true) × fits_same g a z loops lets d k × (d + z.nodes ≤ PLACES)
    × fits_same g b z (loops + 1) lets (d + z.nodes) k
fits_same g Me z loops lets d = refl
fits_same g _ z loops lets d = refl

-- ---- assignments

abbrev lifted_all : Global → Assignment → Assignment
lifted_all g a = assignment_of g (assignment_form a)

local_same : (g : Global) (t : Term) (j : ℕ) → is_local t j ≡ is_local (lifted g t) j
local_same g (Local k) j = refl
local_same g _ j = refl

change_by_same : (g : Global) (target : Target) (o : Operator) (a b : Term) (z : Sizes) (J : List ℕ)
    → change_by target o a b z J ≡ change_by target o (lifted g a) (lifted g b) z J
change_by_same g (ToLocal j) (Compute op) a b z J =
    λ k. if local_same g a j k && constant_same g b k then change_place (number_place j) op (number_same g b z J k) else None
change_by_same g (ToLocal j) (Compare r) a b z J = refl
change_by_same g (ToWord j) o a b z J = refl

change_same : (g : Global) (target : Target) (e : Term) (z : Sizes) (J : List ℕ)
    → changing_insn target e z J ≡ changing_insn target (lifted g e) z J
change_same g target (Binary' o p a q b) z J = change_by_same g target o a b z J
change_same g target Me z J = refl
change_same g target _ z J = refl

assigned_same : (g : Global) (a : Assignment) (z : Sizes) (J : List ℕ) (d : ℕ)
    → assignment_code a z J d ≡ assignment_code (lifted_all g a) z J d
assigned_same g (One target e) z J d =
    λ k. one_code (change_same g target e z J k)
    (given_code (source_same g e z J k) target (code_same g e z J d Value k))
assigned_same g (Also' p front target e) z J d =
    let D = depth_behind (is_steady e) d in
    let deep : D ≡ depth_behind (is_steady (lifted g e)) d = λ k. depth_behind (steady_same g e k) d in
    let first : assignment_code front z J D
    ≡ assignment_code (lifted_all g front) z J (depth_behind (is_steady (lifted g e)) d) =
    assigned_same g front z J D ∙ ap (λ (m : ℕ). assignment_code (lifted_all g front) z J m) deep in
    λ k. also_code (steady_same g e k) d (source_same g e z J k) target (code_same g e z J d Value k) (first k)

all_fit_same : (g : Global) (a : Assignment) (z : Sizes) (loops lets d : ℕ)
    → AssignmentFits a z loops lets d ≡ AssignmentFits (lifted_all g a) z loops lets d
all_fit_same g (One target e) z loops lets d = λ k. TargetFits target z.memory lets × fits_same g e z loops lets d k
all_fit_same g (Also' p front target e) z loops lets d =
    let D = depth_behind (is_steady e) d in
    let deep : D ≡ depth_behind (is_steady (lifted g e)) d = λ k. depth_behind (steady_same g e k) d in
    let first : AssignmentFits front z loops lets D
    ≡ AssignmentFits (lifted_all g front) z loops lets (depth_behind (is_steady (lifted g e)) d) =
    all_fit_same g front z loops lets D ∙ ap (λ (m : ℕ). AssignmentFits (lifted_all g front) z loops lets m) deep in
    λ k. TargetFits target z.memory lets × fits_same g e z loops lets d k × HasPlace (steady_same g e k) d × first k

-- ---- statements

abbrev lifted_block : Global → Statement → Statement
lifted_block g s = statement_of g (statement_form s)

nothing_same : (g : Global) (s : Statement) → is_nothing s ≡ is_nothing (lifted_block g s)
nothing_same g Nothing = refl
nothing_same g _ = refl

over_same : (g : Global) (tally : Tally) (t : Term) (z : Sizes) (J : List ℕ) (d : ℕ)
    → over_code tally t z J d ≡ over_code tally (lifted g t) z J d
over_same g tally (Binary' o q a r b) z J d =
    sides_same g tally o a b z J d (λ I e. code_same g a z I e Value) (λ I e. code_same g b z I e Value)
over_same g tally t z J d =
    λ k. tests_code tally d z.nodes (λ j. code_same g t z (J ++ j ∷ []) (d + 1) (tally_test tally d) k)

let_same : (g : Global) (e : Term) (z : Sizes) (J : List ℕ) (d : ℕ) (rest after : List Insn) → rest ≡ after
    → let_code e z J d rest ≡ let_code (lifted g e) z J d after
let_same g (Count' p t) z J d rest after same =
    λ k. tallied_code HowMany d (over_same g HowMany t z J d k) ++ same k
let_same g (Least' p t) z J d rest after same =
    λ k. tallied_code LeastMessage d (over_same g LeastMessage t z J d k) ++ same k
let_same g e z J d rest after same = λ k. stored_code (source_same g e z J k) d (code_same g e z J d Value k) (same k)

block_same : (g : Global) (s : Statement) (z : Sizes) (J : List ℕ) (d : ℕ)
    → block_code s z J d ≡ block_code (lifted_block g s) z J d
block_same g Nothing z J d = refl
block_same g (Then' p a q b) z J d = λ k. block_same g a z J d k ++ block_same g b z J d k
block_same g (Let' e p rest) z J d = let_same g e z J d _ _ (block_same g rest z J (d + 1))
block_same g (Assign a) z J d = assigned_same g a z J d
block_same g (If' t p a q b) z J d =
    λ k. if_code (nothing_same g b k) (λ far. code_same g t z J d (Jump false far) k) (block_same g a z J d k)
    (block_same g b z J d k)
block_same g (For' p body) z J d = λ k. each_code (λ j. block_same g body z (J ++ j ∷ []) d k) z.nodes
block_same g (SendAll e) z J d = λ k. send_all_code (source_same g e z J k) d z.nodes (code_same g e z J d Value k)
block_same g (SendTo e to) z J d =
    let D = depth_behind (is_operand e) d in
    let E = depth_behind (is_operand (lifted g e)) d in
    let deep : D ≡ E = λ k. depth_behind (operand_same g e k) d in
    let receiver : term_code to z J D Value ≡ term_code (lifted g to) z J E Value =
    code_same g to z J D Value ∙ ap (λ (n : ℕ). term_code (lifted g to) z J n Value) deep in
    λ k. if constant_same g to k then send_to_constant_code (source_same g e z J k) (number_same g to z J k) z.nodes
    (code_same g e z J d Value k)
    else send_to_code (source_same g e z J k) d z.nodes (code_same g e z J d Value k) (receiver k)

block_fits_same : (g : Global) (s : Statement) (z : Sizes) (loops d : ℕ)
    → BlockFits s z loops d ≡ BlockFits (lifted_block g s) z loops d
block_fits_same g Nothing z loops d = refl
block_fits_same g (Then' p a q b) z loops d = λ k. block_fits_same g a z loops d k × block_fits_same g b z loops d k
block_fits_same g (Let' e p rest) z loops d =
    λ k. (d < PLACES) × fits_same g e z loops d d k × block_fits_same g rest z loops (d + 1) k
block_fits_same g (Assign a) z loops d = all_fit_same g a z loops d d
block_fits_same g (If' t p a q b) z loops d =
    λ k. fits_same g t z loops d d k × block_fits_same g a z loops d k × block_fits_same g b z loops d k
block_fits_same g (For' p body) z loops d = block_fits_same g body z (loops + 1) d
block_fits_same g (SendAll e) z loops d = λ k. HasPlace (operand_same g e k) d × fits_same g e z loops d d k
block_fits_same g (SendTo e to) z loops d =
    let D = depth_behind (is_constant to || is_operand e) d in
    let E = depth_behind (is_constant (lifted g to) || is_operand (lifted g e)) d in
    let deep : D ≡ E = λ k. depth_behind (constant_same g to k || operand_same g e k) d in
    let right : Fits to z loops d D ≡ Fits (lifted g to) z loops d E =
    fits_same g to z loops d D ∙ ap (λ (n : ℕ). Fits (lifted g to) z loops d n) deep in
    λ k. HasPlace (constant_same g to k || operand_same g e k) d × fits_same g e z loops d d k × right k

-- ---- rules of one form

pub same_code : (g : Global) (a b : Statement) (z : Sizes) → statement_form a ≡ statement_form b → rule_code a z ≡ rule_code b z
same_code g a b z same =
    let there : block_code a z [] 0 ≡ block_code (lifted_block g a) z [] 0 = block_same g a z [] 0 in
    let across : block_code (lifted_block g a) z [] 0 ≡ block_code (lifted_block g b) z [] 0 =
    ap (λ (f : StatementForm). block_code (statement_of g f) z [] 0) same in
    let back : block_code (lifted_block g b) z [] 0 ≡ block_code b z [] 0 = sym (block_same g b z [] 0) in
    ap (λ (code : List Insn). head_code ++ (code ++ tail_code)) (there ∙ (across ∙ back))

pub same_fit : (g : Global) (a b : Statement) (z : Sizes) → statement_form a ≡ statement_form b → BlockFits a z 0 0
    → BlockFits b z 0 0
same_fit g a b z same fits =
    let there = subst (λ (X : Type 0). X) (block_fits_same g a z 0 0) fits in
    let across = subst (λ (f : StatementForm). BlockFits (statement_of g f) z 0 0) same there in
    subst (λ (X : Type 0). X) (sym (block_fits_same g b z 0 0)) across
