-- The code of a part is no longer than that of the whole, so a part that is too long makes the whole too long.
use Rattle.std.proofs.Common.{◌≡◌, ℕ, zero, suc, ◌+◌, ◌<◌, ◌≤◌, Bool, true, false, not, if◌then◌else◌, ◌||◌, ◌&&◌, ◌⊎◌, nat_lt, Option, Some, None, List, [], ◌∷◌, ◌++◌, length, Result, Ok, Err, IfErr, IsErrAnd, pos, refl, sym, ap, ◌∙◌, arith, subst, inl, inr, length-append}
use Rattle.std.proofs.lemmas.Option.{none-some}
use Rattle.std.proofs.lemmas.Bool.{cases_Bool, cases_lt, cond-true, cond-false, and_parts, lt-ltb}
use Rattle.bpf_insn.specs.declared.forms.Width.TheVariants.{W32}
use Rattle.bpf_insn.specs.declared.forms.Reg.TheVariants.{R0, R1}
use Rattle.bpf_insn.specs.declared.forms.Operand.{Operand}
use Rattle.bpf_insn.specs.declared.forms.Operand.TheVariants as operand
use Rattle.bpf_insn.specs.declared.forms.Insn.{Insn}
use Rattle.bpf_insn.specs.declared.forms.Insn.TheVariants as i
use Rattle.rule_nodes.specs.declared.errors.CompileError.{CompileError}
use Rattle.rule_nodes.specs.declared.errors.CompileError.TheVariants.{NoRoom, TooLong, Memory}
use Rattle.rule_syntax.specs.declared.syntax.Sizes.{Sizes}
use Rattle.rule_syntax.specs.declared.syntax.Comparison.{Comparison}
use Rattle.rule_syntax.specs.declared.syntax.Comparison.TheVariants.{NotEqual}
use Rattle.rule_syntax.specs.declared.syntax.Operation.{Operation}
use Rattle.rule_syntax.specs.declared.syntax.Operator.{Operator}
use Rattle.rule_syntax.specs.declared.syntax.Operator.TheVariants.{Compute, Compare}
use Rattle.rule_syntax.specs.declared.syntax.Connective.{Connective}
use Rattle.rule_nodes.specs.declared.numbers.Place.{Place}
use Rattle.rule_nodes.specs.declared.numbers.Place.TheVariants.{InRegister, OnStack}
use Rattle.rule_nodes.specs.declared.numbers.Purpose.{Purpose}
use Rattle.rule_nodes.specs.declared.numbers.Purpose.TheVariants.{Value, Jump}
use Rattle.rule_syntax.specs.declared.syntax.Target.{Target}
use Rattle.rule_syntax.specs.declared.syntax.Target.TheVariants.{ToLocal, ToWord}
use Rattle.rule_nodes.specs.declared.numbers.Tally.{Tally}
use Rattle.rule_nodes.specs.declared.numbers.Tally.TheVariants.{HowMany, LeastMessage}
use Rattle.rule_nodes.specs.declared.numbers.Source.{Source}
use Rattle.rule_nodes.specs.declared.numbers.Source.TheVariants.{Constant, FromLocal, FromWord, Computed}
use Rattle.rule_syntax.specs.declared.syntax.Term.{Term}
use Rattle.rule_syntax.specs.declared.syntax.Term.TheVariants.{Number, Nodes, Faults, Modulus, LoopNode, Local, Word, Message', Binary', Logical', Not', Choice', Count', Least', Sorted'}
use Rattle.rule_syntax.specs.declared.syntax.Assignment.{Assignment}
use Rattle.rule_syntax.specs.declared.syntax.Assignment.TheVariants.{One, Also'}
use Rattle.rule_syntax.specs.declared.syntax.Statement.{Statement}
use Rattle.rule_syntax.specs.declared.syntax.Statement.TheVariants.{Let', For', SendAll, SendTo}
use Rattle.rule_meaning.specs.Meaning.{apply_operator}
use Rattle.rule_nodes.specs.Operands.{is_constant, is_local, is_operand, is_steady, is_shared, shares_side, constant_number, depth_behind, fetched_source, term_source, IsSourceWithin}
use Rattle.rule_nodes.specs.Fits.{Fits, AssignmentFits, BlockFits}
use Rattle.rule_nodes.specs.Code.{number_place, fetch_code, keep_code, set_number, set_node, copy, mirror, jump_on, jump_by, jump_at, jump_register, alu_op_of, far_of, when_of, beyond_purpose, behind_test, by_value, truth_code, get_code, load_code, operand_code, by_operator, left_code, right_code, beside_code, binary_code, choice_code, decides, both_far, message_code, message_by, tally_step, tally_codes, tests_code, tallied_code, tally_code, tally_test, shared_code, items_code, pass_codes, nearer_end, passes_before, sorted_code, term_code, over_code, stored_code, let_code, assign_code, place_code, word_code, set_code, given_code, change_place, changing_insn, one_code, also_code, send_codes, send_code, send_all_code, passed_code, idle_code, send_to_constant_code, receiver_code, send_to_code, each_code, assignment_code, block_code}
use Rattle.rule_nodes.specs.Refusals.{IsUnmade}
use Rattle.rule_nodes.proofs.Sources.{is_found}
use Rattle.rule_nodes.proofs.TallyLaws.{steps_alike}
use Rattle.rule_nodes.proofs.Shared.{count_code, least_code, plain_code, sides_shared}

-- ---- errors

pub longer : (m n : ℕ) (e : CompileError) → m ≤ n → IsUnmade m e → IsUnmade n e
longer m n NoRoom le h = h
longer m n TooLong le h = omega (arith, le, h)
longer m n Memory le h = tt

pub error_longer : {A : Type 0} (r : Result A CompileError) (m n : ℕ) → m ≤ n → IfErr r (IsUnmade m)
    → IfErr r (IsUnmade n)
error_longer (Ok x) m n le h = tt
error_longer (Err e) m n le h = longer m n e le h

-- ---- words

fetched_within : (t : Term) (z : Sizes) (loops lets d : ℕ) → z.memory ≤ 256 → Fits t z loops lets d
    → IsSourceWithin (fetched_source t) 256
fetched_within (Word k) z loops lets d few fits = omega (arith, few, fits)
fetched_within t z loops lets d few fits = tt

pub source_within : (t : Term) (z : Sizes) (J : List ℕ) (loops lets d : ℕ) → z.memory ≤ 256 → Fits t z loops lets d
    → IsSourceWithin (term_source t z J) 256
source_within t z J loops lets d few fits =
    let c = Constant (constant_number t z J) in
    let P : Source → Type 0 = λ x. IsSourceWithin x 256 in
    elim (cases_Bool (is_constant t)) [
      | inl so ↦ subst P (sym (cond-true (is_constant t) c (fetched_source t) so)) tt
      | inr other ↦ subst P (sym (cond-false (is_constant t) c (fetched_source t) other))
          (fetched_within t z loops lets d few fits)
    ]

-- ---- terms

pub value_long : (purpose : Purpose) (code : List Insn) → length code ≤ length (by_value purpose code)
value_long Value code = omega arith
value_long (Jump when far) code = omega (arith, length-append code (jump_at (jump_on when NotEqual) 0 far ∷ []))

pub test_long : (purpose : Purpose) (code : List Insn) → length code + far_of purpose
    ≤ length (behind_test purpose code) + beyond_purpose purpose
test_long Value code = omega (arith, length-append code truth_code)
test_long (Jump when far) code = omega arith

-- the code of an operand is one instruction
pub constant_short : (t : Term) (z : Sizes) (J : List ℕ) (d : ℕ) → is_constant t ≡ true
    → length (term_code t z J d Value) ≡ 1
constant_short (Number v) z J d e = refl
constant_short Nodes z J d e = refl
constant_short Faults z J d e = refl
constant_short Modulus z J d e = refl
constant_short (LoopNode k) z J d e = refl
constant_short (Binary' o p a q b) z J d e =
    let parts = and_parts (is_constant a) (is_constant b) e in
    let A = cond-true (is_constant a) (Constant (constant_number a z J)) (fetched_source a) parts.0 in
    let B = cond-true (is_constant b) (Constant (constant_number b z J)) (fetched_source b) parts.1 in
    let left = term_code a z J d Value in
    let right = term_code b z J _ Value in
    ap (λ (y : Source). length (binary_code y (term_source a z J) o d Value left right)) B
    ∙ ap (λ (x : Source). length (binary_code (Constant (constant_number b z J)) x o d Value left right)) A
constant_short t z J d e = absurd (let no : false ≡ true = e in cc)

fetched_short : (t : Term) (z : Sizes) (J : List ℕ) (d : ℕ) → is_found (fetched_source t) ≡ true
    → length (term_code t z J d Value) ≡ 1
fetched_short (Local k) z J d e = refl
fetched_short (Word k) z J d e = refl
fetched_short t z J d e = absurd (let no : false ≡ true = e in cc)

pub found_short : (t : Term) (z : Sizes) (J : List ℕ) (d : ℕ) → is_found (term_source t z J) ≡ true
    → length (term_code t z J d Value) ≡ 1
found_short t z J d e =
    elim (cases_Bool (is_constant t)) [
      | inl so ↦ constant_short t z J d so
      | inr other ↦ fetched_short t z J d (sym (ap is_found (cond-false (is_constant t)
          (Constant (constant_number t z J)) (fetched_source t) other)) ∙ e)
    ]

operator_long : (o : Operator) (src : Operand) (purpose : Purpose) (code : List Insn)
    → length code + 1 ≤ length (by_operator o src purpose code) + beyond_purpose purpose
operator_long (Compute op) src purpose code =
    let act = i.Alu (alu_op_of op) W32 R0 src ∷ [] in
    omega (arith, value_long purpose (code ++ act), length-append code act)
operator_long (Compare r) src purpose code =
    let jump = jump_by (jump_on (when_of purpose) r) src (far_of purpose) ∷ [] in
    omega (arith, test_long purpose (code ++ jump), length-append code jump)

right_long : (o : Operator) (y : Source) (purpose : Purpose) (left : List Insn)
    → length left + 1 ≤ length (right_code o y purpose left) + beyond_purpose purpose
right_long o y purpose left = omega (
  arith,
  operator_long o (operand_code y) purpose (left ++ load_code y),
  length-append left (load_code y),
)

left_long : (o : Operator) (x : Source) (purpose : Purpose) (right : List Insn)
    → length right + 1 ≤ length (left_code o x purpose right) + beyond_purpose purpose
left_long (Compute op) x purpose right =
    let back = copy R1 R0 ∷ get_code R0 x ∷ [] in
    omega (arith, operator_long (Compute op) (operand.Reg R1) purpose (right ++ back), length-append right back)
left_long (Compare r) x purpose right = right_long (Compare (mirror r)) x purpose right

beside_long : (p : Place) (r : Comparison) (c : ℕ) (purpose : Purpose) (left : List Insn) → length left ≡ 1
    → 1 ≤ length (beside_code p r c purpose left) + beyond_purpose purpose
beside_long (InRegister register) r c purpose left one =
    let l = test_long purpose (jump_register register (jump_on (when_of purpose) r) c (far_of purpose) ∷ []) in
    omega arith
beside_long (OnStack off) r c purpose left one =
    let l = right_long (Compare r) (Constant c) purpose left in
    omega arith

-- a side whose number is found has one instruction
pub sides_long : (y x : Source) (o : Operator) (d : ℕ) (purpose : Purpose) (left right : List Insn)
    → (is_found x ≡ true → length left ≡ 1) → (is_found y ≡ true → length right ≡ 1)
    → (length left ≤ length (binary_code y x o d purpose left right) + beyond_purpose purpose)
    × (length right ≤ length (binary_code y x o d purpose left right) + beyond_purpose purpose)
sides_long (Constant c) (FromLocal k) (Compare r) d purpose left right f g =
    let a = f refl in
    let b = g refl in
    let l = beside_long (number_place k) r c purpose left a in
    (omega arith, omega arith)
sides_long (Constant c) (FromLocal k) (Compute op) d purpose left right f g =
    let b = g refl in
    let l = right_long (Compute op) (Constant c) purpose left in
    (omega arith, omega arith)
sides_long (Constant c) (Constant e) o d purpose left right f g =
    let a = f refl in
    let b = g refl in
    let l = value_long purpose (set_number R0 (apply_operator o e c) ∷ []) in
    (omega arith, omega arith)
sides_long (Constant c) (FromWord k) o d purpose left right f g =
    let b = g refl in
    let l = right_long o (Constant c) purpose left in
    (omega arith, omega arith)
sides_long (Constant c) Computed o d purpose left right f g =
    let b = g refl in
    let l = right_long o (Constant c) purpose left in
    (omega arith, omega arith)
sides_long (FromLocal k) x o d purpose left right f g =
    let b = g refl in
    let l = right_long o (FromLocal k) purpose left in
    (omega arith, omega arith)
sides_long (FromWord k) x o d purpose left right f g =
    let b = g refl in
    let l = right_long o (FromWord k) purpose left in
    (omega arith, omega arith)
sides_long Computed (Constant c) o d purpose left right f g =
    let a = f refl in
    let l = left_long o (Constant c) purpose right in
    (omega arith, omega arith)
sides_long Computed (FromLocal k) o d purpose left right f g =
    let a = f refl in
    let l = left_long o (FromLocal k) purpose right in
    (omega arith, omega arith)
sides_long Computed (FromWord k) o d purpose left right f g =
    let a = f refl in
    let l = left_long o (FromWord k) purpose right in
    (omega arith, omega arith)
sides_long Computed Computed o d purpose left right f g =
    let beside = left_code o (FromLocal d) purpose right in
    let l = left_long o (FromLocal d) purpose right in
    let e = length-append left (keep_code (number_place d) ∷ beside) in
    (omega arith, omega arith)

pub message_long : (y : Source) (n : ℕ) (code : List Insn) → (is_found y ≡ true → length code ≡ 1)
    → length code ≤ length (message_by y n code)
message_long (Constant j) n code f =
    let a = f refl in
    let known = set_node R1 j ∷ i.Call (pos 2) ∷ [] in
    let none = set_number R0 4294967295 ∷ [] in
    let P : List Insn → Type 0 = λ c. length code ≤ length c in
    elim (cases_Bool (nat_lt j n)) [
      | inl so ↦ subst P (sym (cond-true (nat_lt j n) known none so)) (omega arith)
      | inr other ↦ subst P (sym (cond-false (nat_lt j n) known none other)) (omega arith)
    ]
message_long (FromLocal k) n code f = omega (arith, length-append code (message_code n))
message_long (FromWord k) n code f = omega (arith, length-append code (message_code n))
message_long Computed n code f = omega (arith, length-append code (message_code n))

cases_last : (n m : ℕ) → m ≤ suc n → (m ≤ n) ⊎ (m ≡ suc n)
cases_last n m le = elim (cases_lt m (suc n)) [
  | inl less ↦ inl (omega (arith, less))
  | inr above ↦ inr (omega (arith, above, le))
]

one_tally : (step test : ℕ → List Insn) (m : ℕ)
    → length (tally_codes step test (suc m)) ≡ length (tally_codes step test m) + (length (test m) + length (step m))
one_tally step test m =
    omega (arith, length-append (tally_codes step test m) (test m ++ step m), length-append (test m) (step m))

pub tallies_long : (step test : ℕ → List Insn) (n m : ℕ) → m ≤ n
    → length (tally_codes step test m) ≤ length (tally_codes step test n)
tallies_long step test zero zero le = omega arith
tallies_long step test zero (suc m) le = absurd (omega (arith, le))
tallies_long step test (suc n) m le = elim (cases_last n m le) [
  | inl less ↦ omega (arith, tallies_long step test n m less, one_tally step test n)
  | inr same ↦ let e : length (tally_codes step test m) ≡ length (tally_codes step test (suc n)) =
      ap (λ (k : ℕ). length (tally_codes step test k)) same in omega arith
]

pub test_in_tally : (step test : ℕ → List Insn) (n m : ℕ) → m < n
    → length (test m) + length (step m) ≤ length (tally_codes step test n)
test_in_tally step test n m lt =
    omega (arith, one_tally step test m, tallies_long step test n (suc m) (omega (arith, lt)))

pub tally_long : (tally : Tally) (d : ℕ) (tests : List Insn) → length (tally_code tally d tests) ≡ length tests + 2
tally_long tally d tests =
    omega (arith, length-append (tallied_code tally d tests) (fetch_code R0 (number_place d) ∷ []))

one_item : (d : ℕ) (item : ℕ → List Insn) (m : ℕ)
    → length (items_code d item (suc m)) ≡ length (items_code d item m) + (length (item m) + 1)
one_item d item m =
    let keep = keep_code (number_place (d + m)) ∷ [] in
    omega (arith, length-append (items_code d item m) (item m ++ keep), length-append (item m) keep)

items_long : (d : ℕ) (item : ℕ → List Insn) (n m : ℕ) → m ≤ n
    → length (items_code d item m) ≤ length (items_code d item n)
items_long d item zero zero le = omega arith
items_long d item zero (suc m) le = absurd (omega (arith, le))
items_long d item (suc n) m le = elim (cases_last n m le) [
  | inl less ↦ omega (arith, items_long d item n m less, one_item d item n)
  | inr same ↦ let e : length (items_code d item m) ≡ length (items_code d item (suc n)) =
      ap (λ (k : ℕ). length (items_code d item k)) same in omega arith
]

item_in : (d : ℕ) (item : ℕ → List Insn) (n m : ℕ) → m < n → length (item m) ≤ length (items_code d item n)
item_in d item n m lt = omega (arith, one_item d item m, items_long d item n (suc m) (omega (arith, lt)))

sorted_long : (k d n : ℕ) (item : ℕ → List Insn) → k < n
    → length (items_code d item n) ≤ length (sorted_code k d n item)
sorted_long k d n item lt =
    let passes = pass_codes (nearer_end k n) d n (suc (passes_before k n)) in
    let found = items_code d item n ++ passes in
    let e : length (sorted_code k d n item) ≡ length found =
    ap length (cond-true (nat_lt k n) found (set_number R0 4294967295 ∷ []) (lt-ltb k n lt)) in
    omega (arith, e, length-append (items_code d item n) passes)

-- ---- statements

placed_long : (p : Place) (x : Source) → 1 ≤ length (place_code p x)
placed_long (InRegister register) x = omega arith
placed_long (OnStack off) x = omega arith

word_long : (k : ℕ) (p : Place) → 1 ≤ length (word_code k p)
word_long k (InRegister register) = omega arith
word_long k (OnStack off) = omega arith

set_long : (target : Target) (x : Source) → 1 ≤ length (set_code target x)
set_long (ToLocal k) x = placed_long (number_place k) x
set_long (ToWord k) (Constant c) = omega arith
set_long (ToWord k) (FromLocal j) = word_long k (number_place j)
set_long (ToWord k) (FromWord j) = omega arith
set_long (ToWord k) Computed = omega arith

pub given_long : (x : Source) (target : Target) (code : List Insn) → (is_found x ≡ true → length code ≡ 1)
    → length code ≤ length (given_code x target code)
given_long (Constant c) target code f = omega (arith, f refl, set_long target (Constant c))
given_long (FromLocal k) target code f = omega (arith, f refl, set_long target (FromLocal k))
given_long (FromWord k) target code f = omega (arith, f refl, set_long target (FromWord k))
given_long Computed target code f = omega (arith, length-append code (assign_code target ∷ []))

pub also_long : (steady : Bool) (d : ℕ) (x : Source) (target : Target) (code first : List Insn)
    → (is_found x ≡ true → length code ≡ 1)
    → (length code ≤ length (also_code steady d x target code first))
    × (length first ≤ length (also_code steady d x target code first))
also_long true d x target code first f =
    let l = given_long x target code f in
    let e = length-append first (given_code x target code) in
    (omega arith, omega arith)
also_long false d x target code first f =
    let back = fetch_code R0 (number_place d) ∷ assign_code target ∷ [] in
    let e1 = length-append code (keep_code (number_place d) ∷ (first ++ back)) in
    let e2 = length-append first back in
    (omega arith, omega arith)

sends_long : (x : Source) (n : ℕ) → 1 ≤ n → 1 ≤ length (send_codes x n)
sends_long x zero some = absurd (omega (arith, some))
sends_long x (suc n) some = omega (arith, length-append (send_codes x n) (send_code x n))

pub send_all_long : (x : Source) (d n : ℕ) (code : List Insn) → 1 ≤ n → (is_found x ≡ true → length code ≡ 1)
    → length code ≤ length (send_all_code x d n code)
send_all_long (Constant c) d n code some f = omega (arith, f refl, sends_long (Constant c) n some)
send_all_long (FromLocal k) d n code some f = omega (arith, f refl, sends_long (FromLocal k) n some)
send_all_long (FromWord k) d n code some f = omega (arith, f refl, sends_long (FromWord k) n some)
send_all_long Computed d n code some f =
    omega (arith, length-append code (keep_code (number_place d) ∷ send_codes (FromLocal d) n))

one_each : (m : ℕ) (body : ℕ → List Insn) → length (each_code body (suc m)) ≡ length (each_code body m) + length (body m)
one_each m body = length-append (each_code body m) (body m)

pub eachs_long : (n m : ℕ) (body : ℕ → List Insn) → m ≤ n → length (each_code body m) ≤ length (each_code body n)
eachs_long zero zero body le = omega arith
eachs_long zero (suc m) body le = absurd (omega (arith, le))
eachs_long (suc n) m body le = elim (cases_last n m le) [
  | inl less ↦ omega (arith, eachs_long n m body less, one_each n body)
  | inr same ↦ let e : length (each_code body m) ≡ length (each_code body (suc n)) =
      ap (λ (k : ℕ). length (each_code body k)) same in omega arith
]

pub body_in_each : (n m : ℕ) (body : ℕ → List Insn) → m < n → length (body m) ≤ length (each_code body n)
body_in_each n m body lt = omega (arith, one_each m body, eachs_long n (suc m) body (omega (arith, lt)))

-- ---- the parts of terms, as the compiler's variables have them

pub passed_on : {A : Type 0} (r : Result A CompileError) (e : CompileError) (m n : ℕ) → m ≤ n → IsUnmade m e
    → IsErrAnd r (λ x. x ≡ e) → IfErr r (IsUnmade n)
passed_on (Ok x) e m n le h is = absurd is
passed_on (Err x) e m n le h is = subst (λ (y : CompileError). IsUnmade n y) (sym is) (longer m n e le h)

pub message_part : (whole a a1 : Term) (p : _) (z : Sizes) (J : List ℕ) (d : ℕ) (purpose : Purpose)
    → whole ≡ Message' p a → a1 ≡ a
    → length (term_code a1 z J d Value) + 0 ≤ length (term_code whole z J d purpose) + beyond_purpose purpose
message_part whole a a1 p z J d purpose e e1 =
    let code = term_code a z J d Value in
    let l1 = message_long (term_source a z J) z.nodes code (found_short a z J d) in
    let l2 = value_long purpose (message_by (term_source a z J) z.nodes code) in
    rw (e, e1) (omega (arith, l1, l2))

pub left_part : (whole a b a1 : Term) (p q : _) (o : Operator) (z : Sizes) (J : List ℕ) (d : ℕ) (purpose : Purpose)
    → whole ≡ Binary' o p a q b → a1 ≡ a
    → length (term_code a1 z J d Value) + 0 ≤ length (term_code whole z J d purpose) + beyond_purpose purpose
left_part whole a b a1 p q o z J d purpose e e1 =
    let deep = depth_behind (is_operand a || is_operand b) d in
    let l = sides_long (term_source b z J) (term_source a z J) o d purpose (term_code a z J d Value)
    (term_code b z J deep Value) (found_short a z J d) (found_short b z J deep) in
    rw (e, e1) (omega (arith, l.0))

pub right_part : (whole a b a2 b2 b1 : Term) (p q : _) (o : Operator) (z : Sizes) (J : List ℕ) (d behind : ℕ)
    (found : Bool) (purpose : Purpose) → whole ≡ Binary' o p a q b → b1 ≡ b → behind ≡ depth_behind found d
    → found ≡ (is_operand a2 || is_operand b2) → a2 ≡ a → b2 ≡ b
    → length (term_code b1 z J behind Value) + 0 ≤ length (term_code whole z J d purpose) + beyond_purpose purpose
right_part whole a b a2 b2 b1 p q o z J d behind found purpose e e1 e2 e3 e4 e5 =
    let deep = depth_behind (is_operand a || is_operand b) d in
    let l = sides_long (term_source b z J) (term_source a z J) o d purpose (term_code a z J d Value)
    (term_code b z J deep Value) (found_short a z J d) (found_short b z J deep) in
    let is : behind ≡ deep = e2 ∙ ap (λ (x : Bool). depth_behind x d)
    (e3 ∙ ap (λ (x : Term). is_operand x || is_operand b2) e4 ∙ ap (λ (x : Term). is_operand a || is_operand x) e5) in
    rw (e, e1, is) (omega (arith, l.1))

pub left_within : (whole a b a1 : Term) (p q : _) (o : Operator) (z : Sizes) (J : List ℕ) (lets d : ℕ)
    → whole ≡ Binary' o p a q b → a1 ≡ a → z.memory ≤ 256 → Fits whole z (length J) lets d
    → IsSourceWithin (term_source a1 z J) 256
left_within whole a b a1 p q o z J lets d e e1 few fits =
    let parts : Fits (Binary' o p a q b) z (length J) lets d =
    subst (λ (x : Term). Fits x z (length J) lets d) e fits in
    subst (λ (x : Term). IsSourceWithin (term_source x z J) 256) (sym e1) (source_within a z J (length J) lets d few parts.1)

pub right_within : (whole a b b1 : Term) (p q : _) (o : Operator) (z : Sizes) (J : List ℕ) (lets d : ℕ)
    → whole ≡ Binary' o p a q b → b1 ≡ b → z.memory ≤ 256 → Fits whole z (length J) lets d
    → IsSourceWithin (term_source b1 z J) 256
right_within whole a b b1 p q o z J lets d e e1 few fits =
    let parts : Fits (Binary' o p a q b) z (length J) lets d =
    subst (λ (x : Term). Fits x z (length J) lets d) e fits in
    subst (λ (x : Term). IsSourceWithin (term_source x z J) 256) (sym e1)
    (source_within b z J (length J) lets (depth_behind (is_operand a || is_operand b) d) few parts.2)

pub count_part : (whole t t1 : Term) (p : _) (z : Sizes) (J : List ℕ) (d : ℕ) (purpose : Purpose) → whole ≡ Count' p t
    → t1 ≡ t
    → length (tally_code HowMany d (over_code HowMany t1 z J d)) ≤ length (term_code whole z J d purpose) + beyond_purpose purpose
count_part whole t t1 p z J d purpose e e1 =
    let code = λ (x : Term). tally_code HowMany d (over_code HowMany x z J d) in
    let l : length (code t) ≤ length (by_value purpose (code t)) = value_long purpose (code t) in
    let same : length (code t1) ≡ length (code t) = ap (λ (x : Term). length (code x)) e1 in
    let made : length (term_code whole z J d purpose) ≡ length (by_value purpose (code t)) =
    ap (λ (x : Term). length (term_code x z J d purpose)) e ∙ ap length (count_code t p z J d purpose) in
    omega (arith, l, same, made)

pub least_part : (whole t t1 : Term) (p : _) (z : Sizes) (J : List ℕ) (d : ℕ) (purpose : Purpose) → whole ≡ Least' p t
    → t1 ≡ t
    → length (tally_code LeastMessage d (over_code LeastMessage t1 z J d)) ≤ length (term_code whole z J d purpose) + beyond_purpose purpose
least_part whole t t1 p z J d purpose e e1 =
    let code = λ (x : Term). tally_code LeastMessage d (over_code LeastMessage x z J d) in
    let l : length (code t) ≤ length (by_value purpose (code t)) = value_long purpose (code t) in
    let same : length (code t1) ≡ length (code t) = ap (λ (x : Term). length (code x)) e1 in
    let made : length (term_code whole z J d purpose) ≡ length (by_value purpose (code t)) =
    ap (λ (x : Term). length (term_code x z J d purpose)) e ∙ ap length (least_code t p z J d purpose) in
    omega (arith, l, same, made)

-- the tests of a term at each node
pub test_part : (tally : Tally) (t t1 : Term) (z : Sizes) (J J1 J2 : List ℕ) (d n : ℕ) (skip : Purpose)
    → skip ≡ tally_test tally d → t1 ≡ t → J1 ≡ J ++ n ∷ [] → J2 ≡ J1 → n < z.nodes
    → length (term_code t1 z J2 (d + 1) skip) + beyond_purpose skip
    ≤ length (tests_code tally d z.nodes (λ j. term_code t z (J ++ j ∷ []) (d + 1) (tally_test tally d)))
test_part tally t t1 z J J1 J2 d n skip e0 e1 e2 e3 lt =
    let step = tally_step tally (number_place d) in
    let test = λ (j : ℕ). term_code t z (J ++ j ∷ []) (d + 1) (tally_test tally d) in
    let l2 = test_in_tally step test z.nodes n lt in
    let l3 = steps_alike tally (number_place d) n in
    rw (e0, e1, e3, e2) (omega (arith, l2, l3))

pub tests_part : (tally : Tally) (z : Sizes) (d n : ℕ) (test : ℕ → List Insn) (new : List Insn) → n + 1 ≤ z.nodes
    → new ≡ tests_code tally d (n + 1) test → length new ≤ length (tests_code tally d z.nodes test)
tests_part tally z d n test new le e1 =
    let l2 = tallies_long (tally_step tally (number_place d)) test z.nodes (n + 1) le in
    rw e1 (omega (arith, l2))

-- the left side of a shared comparison at each node
pub left_in_tests : (tally : Tally) (o : Operator) (a : Term) (z : Sizes) (J J1 J2 : List ℕ) (d n : ℕ)
    → J1 ≡ J ++ n ∷ [] → J2 ≡ J1 → n < z.nodes
    → length (term_code a z J2 (d + 2) Value) + 0
    ≤ length (tests_code tally d z.nodes
    (λ j. right_code o (FromLocal (d + 1)) (tally_test tally d) (term_code a z (J ++ j ∷ []) (d + 2) Value)))
left_in_tests tally o a z J J1 J2 d n e2 e3 lt =
    let step = tally_step tally (number_place d) in
    let left = λ (j : ℕ). term_code a z (J ++ j ∷ []) (d + 2) Value in
    let test = λ (j : ℕ). right_code o (FromLocal (d + 1)) (tally_test tally d) (left j) in
    let l1 = right_long o (FromLocal (d + 1)) (tally_test tally d) (left n) in
    let l2 = test_in_tally step test z.nodes n lt in
    let l3 = steps_alike tally (number_place d) n in
    rw (e3, e2) (omega (arith, l1, l2, l3))

pub shared_long : (tally : Tally) (d n : ℕ) (o : Operator) (right : List Insn) (left : ℕ → List Insn)
    → (length right + 0 ≤ length (shared_code tally d n o right left))
    × (length (tests_code tally d n (λ j. right_code o (FromLocal (d + 1)) (tally_test tally d) (left j)))
    ≤ length (shared_code tally d n o right left))
shared_long tally d n o right left =
    let tests = tests_code tally d n (λ j. right_code o (FromLocal (d + 1)) (tally_test tally d) (left j)) in
    let l = length-append right (keep_code (number_place (d + 1)) ∷ tests) in
    (omega arith, omega arith)

pub plain_part : (tally : Tally) (t : Term) (z : Sizes) (J : List ℕ) (d : ℕ) → shares_side t (length J) ≡ false
    → length (tests_code tally d z.nodes (λ j. term_code t z (J ++ j ∷ []) (d + 1) (tally_test tally d)))
    ≤ length (tally_code tally d (over_code tally t z J d))
plain_part tally t z J d e =
    let l = tally_long tally d (over_code tally t z J d) in
    let same = ap length (plain_code tally t z J d e) in
    omega (arith, l, same)

pub shared_part : (tally : Tally) (whole a a1 b : Term) (o : Operator) (p q : _) (z : Sizes) (J : List ℕ) (d : ℕ)
    → whole ≡ Binary' o p a q b → a1 ≡ a → shares_side whole (length J) ≡ true
    → length (tests_code tally d z.nodes
    (λ j. right_code o (FromLocal (d + 1)) (tally_test tally d) (term_code a1 z (J ++ j ∷ []) (d + 2) Value)))
    ≤ length (over_code tally whole z J d)
shared_part tally whole a a1 b o p q z J d e e1 shared =
    let is : is_shared o a b (length J) ≡ true = subst (λ (x : Term). shares_side x (length J) ≡ true) e shared in
    let right = term_code b z (J ++ 0 ∷ []) (d + 1) Value in
    let left = λ (j : ℕ). term_code a z (J ++ j ∷ []) (d + 2) Value in
    let made : length (over_code tally whole z J d) ≡ length (shared_code tally d z.nodes o right left) =
    ap (λ (x : Term). length (over_code tally x z J d)) e ∙ ap length (sides_shared tally o a b p q z J d is) in
    let l = shared_long tally d z.nodes o right left in
    let same : length (tests_code tally d z.nodes
    (λ j. right_code o (FromLocal (d + 1)) (tally_test tally d) (term_code a1 z (J ++ j ∷ []) (d + 2) Value)))
    ≡ length (tests_code tally d z.nodes (λ j. right_code o (FromLocal (d + 1)) (tally_test tally d) (left j))) =
    ap (λ (x : Term). length (tests_code tally d z.nodes
    (λ j. right_code o (FromLocal (d + 1)) (tally_test tally d) (term_code x z (J ++ j ∷ []) (d + 2) Value)))) e1 in
    omega (arith, l.1, made, same)

-- ---- the parts of conditions, inversions and choices

far_within : (alone when : Bool) (n far : ℕ) → both_far alone when n far ≤ n + far
far_within true true n far = omega arith
far_within true false n far = omega arith
far_within false true n far = omega arith
far_within false false n far = omega arith

pub second_part : (whole a b b1 : Term) (k : Connective) (p q : _) (z : Sizes) (J : List ℕ) (d : ℕ)
    (purpose skip : Purpose) → whole ≡ Logical' k p a q b → b1 ≡ b → skip ≡ Jump (when_of purpose) (far_of purpose)
    → length (term_code b1 z J d skip) + beyond_purpose skip ≤ length (term_code whole z J d purpose) + beyond_purpose purpose
second_part whole a b b1 k p q z J d purpose skip e e1 e2 =
    let right = term_code b z J d (Jump (when_of purpose) (far_of purpose)) in
    let left = term_code a z J d (Jump (decides k) (both_far (decides k) (when_of purpose) (length right) (far_of purpose))) in
    let l1 = test_long purpose (left ++ right) in
    let l2 = length-append left right in
    rw (e, e1, e2) (omega (arith, l1, l2))

pub first_part : (whole a a1 b b1 : Term) (k : Connective) (p q : _) (z : Sizes) (J : List ℕ) (d : ℕ)
    (purpose skip test : Purpose) (right : List Insn) → whole ≡ Logical' k p a q b → a1 ≡ a → b1 ≡ b
    → skip ≡ Jump (when_of purpose) (far_of purpose) → right ≡ term_code b1 z J d skip
    → test ≡ Jump (decides k) (both_far (decides k) (when_of purpose) (length right) (far_of purpose))
    → length (term_code a1 z J d test) + beyond_purpose test ≤ length (term_code whole z J d purpose) + beyond_purpose purpose
first_part whole a a1 b b1 k p q z J d purpose skip test right e e1 e2 e3 e4 e5 =
    let second = term_code b z J d (Jump (when_of purpose) (far_of purpose)) in
    let far = both_far (decides k) (when_of purpose) (length second) (far_of purpose) in
    let left = term_code a z J d (Jump (decides k) far) in
    let l1 = test_long purpose (left ++ second) in
    let l2 = length-append left second in
    let l3 = far_within (decides k) (when_of purpose) (length second) (far_of purpose) in
    rw (e5, e4, e, e1, e2, e3) (omega (arith, l1, l2, l3))

pub inverse_part : (whole a a1 : Term) (p : _) (z : Sizes) (J : List ℕ) (d : ℕ) (purpose skip : Purpose)
    → whole ≡ Not' p a → a1 ≡ a → skip ≡ Jump (not (when_of purpose)) (far_of purpose)
    → length (term_code a1 z J d skip) + beyond_purpose skip ≤ length (term_code whole z J d purpose) + beyond_purpose purpose
inverse_part whole a a1 p z J d purpose skip e e1 e2 =
    let l = test_long purpose (term_code a z J d (Jump (not (when_of purpose)) (far_of purpose))) in
    rw (e, e1, e2) (omega (arith, l))

choice_long : (purpose : Purpose) (test : ℕ → List Insn) (a b : List Insn)
    → length (test (length a + 1)) + (length a + 1) + length b
    ≤ length (by_value purpose (choice_code test a b)) + beyond_purpose purpose
choice_long purpose test a b =
    let skip = i.Ja (pos (length b)) ∷ b in
    let l1 = value_long purpose (choice_code test a b) in
    let l2 = length-append (test (length a + 1)) (a ++ skip) in
    let l3 = length-append a skip in
    omega arith

pub otherwise_part : (whole t a b b1 : Term) (p q r : _) (z : Sizes) (J : List ℕ) (d : ℕ) (purpose : Purpose)
    → whole ≡ Choice' p t q a r b → b1 ≡ b
    → length (term_code b1 z J d Value) + 0 ≤ length (term_code whole z J d purpose) + beyond_purpose purpose
otherwise_part whole t a b b1 p q r z J d purpose e e1 =
    let l = choice_long purpose (λ far. term_code t z J d (Jump false far)) (term_code a z J d Value)
    (term_code b z J d Value) in
    rw (e, e1) (omega (arith, l))

pub chosen_part : (whole t a a1 b : Term) (p q r : _) (z : Sizes) (J : List ℕ) (d : ℕ) (purpose : Purpose)
    → whole ≡ Choice' p t q a r b → a1 ≡ a
    → length (term_code a1 z J d Value) + 0 ≤ length (term_code whole z J d purpose) + beyond_purpose purpose
chosen_part whole t a a1 b p q r z J d purpose e e1 =
    let l = choice_long purpose (λ far. term_code t z J d (Jump false far)) (term_code a z J d Value)
    (term_code b z J d Value) in
    rw (e, e1) (omega (arith, l))

pub choosing_part : (whole t t1 a a1 b : Term) (p q r : _) (z : Sizes) (J : List ℕ) (d : ℕ) (purpose skip : Purpose)
    (first : List Insn) → whole ≡ Choice' p t q a r b → t1 ≡ t → a1 ≡ a → first ≡ term_code a1 z J d Value
    → skip ≡ Jump false (length first + 1)
    → length (term_code t1 z J d skip) + beyond_purpose skip ≤ length (term_code whole z J d purpose) + beyond_purpose purpose
choosing_part whole t t1 a a1 b p q r z J d purpose skip first e e1 e2 e3 e4 =
    let l = choice_long purpose (λ far. term_code t z J d (Jump false far)) (term_code a z J d Value)
    (term_code b z J d Value) in
    rw (e4, e3, e, e1, e2) (omega (arith, l))

pub sorted_part : (whole k k1 e e1 : Term) (p q : _) (z : Sizes) (J : List ℕ) (d place : ℕ) (purpose : Purpose)
    → whole ≡ Sorted' p k q e → place ≡ constant_number k1 z J → k1 ≡ k → e1 ≡ e
    → length (sorted_code place d z.nodes (λ j. term_code e1 z (J ++ j ∷ []) (d + j) Value))
    ≤ length (term_code whole z J d purpose) + beyond_purpose purpose
sorted_part whole k k1 e e1 p q z J d place purpose is at_k same_k same_e =
    let code = λ (i : ℕ) (x : Term). sorted_code i d z.nodes (λ j. term_code x z (J ++ j ∷ []) (d + j) Value) in
    let c = constant_number k z J in
    let l : length (code c e) ≤ length (by_value purpose (code c e)) = value_long purpose (code c e) in
    let there : place ≡ c = at_k ∙ ap (λ (x : Term). constant_number x z J) same_k in
    let same : length (code place e1) ≡ length (code c e) = ap (λ (i : ℕ). length (code i e1)) there
    ∙ ap (λ (x : Term). length (code c x)) same_e in
    let made : length (term_code whole z J d purpose) ≡ length (by_value purpose (code c e)) =
    ap (λ (x : Term). length (term_code x z J d purpose)) is in
    omega (arith, l, same, made)

pub item_part : (e : Term) (z : Sizes) (J J1 J2 : List ℕ) (k d n : ℕ) → J1 ≡ J ++ n ∷ [] → J2 ≡ J1 → k < z.nodes
    → n < z.nodes → length (term_code e z J2 (d + n) Value) + 0
    ≤ length (sorted_code k d z.nodes (λ j. term_code e z (J ++ j ∷ []) (d + j) Value))
item_part e z J J1 J2 k d n e1 e2 there lt =
    let item = λ (j : ℕ). term_code e z (J ++ j ∷ []) (d + j) Value in
    let l1 = sorted_long k d z.nodes item there in
    let l2 = item_in d item z.nodes n lt in
    rw (e2, e1) (omega (arith, l1, l2))

pub items_part : (e : Term) (z : Sizes) (J : List ℕ) (k d n : ℕ) (new : List Insn) → k < z.nodes → n + 1 ≤ z.nodes
    → new ≡ items_code d (λ j. term_code e z (J ++ j ∷ []) (d + j) Value) (n + 1)
    → length new ≤ length (sorted_code k d z.nodes (λ j. term_code e z (J ++ j ∷ []) (d + j) Value))
items_part e z J k d n new there le e1 =
    let item = λ (j : ℕ). term_code e z (J ++ j ∷ []) (d + j) Value in
    let l1 = sorted_long k d z.nodes item there in
    let l2 = items_long d item z.nodes (n + 1) le in
    rw e1 (omega (arith, l1, l2))

-- ---- the parts of assignments and statements

local_changed : (a : Term) (k : ℕ) (op : Operation) (p q : _) (b : Term) (z : Sizes) (J : List ℕ) (d : ℕ)
    → is_local a k ≡ true → is_constant b ≡ true → length (term_code (Binary' (Compute op) p a q b) z J d Value) ≡ 2
local_changed (Local j) k op p q b z J d e f =
    let right = term_code b z J (depth_behind true d) Value in
    ap (λ (y : Source). length (binary_code y (FromLocal j) (Compute op) d Value (fetch_code R0 (number_place j) ∷ []) right))
    (cond-true (is_constant b) (Constant (constant_number b z J)) (fetched_source b) f)
local_changed a k op p q b z J d e f = absurd (let no : false ≡ true = e in cc)

-- a change in place has one instruction less than the number alone
changed_long : (target : Target) (e : Term) (z : Sizes) (J : List ℕ) (d : ℕ) (insn : Insn)
    → changing_insn target e z J ≡ Some insn → length (term_code e z J d Value) ≡ 2
changed_long (ToLocal k) (Binary' (Compute op) p a q b) z J d insn is =
    let test = is_local a k && is_constant b in
    let act = change_place (number_place k) op (constant_number b z J) in
    elim (cases_Bool test) [
      | inl so ↦
          let parts = and_parts (is_local a k) (is_constant b) so in
          local_changed a k op p q b z J d parts.0 parts.1
      | inr other ↦ absurd (none-some insn (sym (cond-false test act None other) ∙ is))
    ]
changed_long (ToWord k) (Binary' o p a q b) z J d insn is = absurd (none-some insn is)
changed_long target e z J d insn is = absurd (none-some insn is)

pub one_part : (whole : Assignment) (target : Target) (e : Term) (z : Sizes) (J : List ℕ) (d : ℕ)
    → whole ≡ One target e → length (term_code e z J d Value) + 0 ≤ length (assignment_code whole z J d) + 1
one_part whole target e z J d is = rw is (by (changing_insn target e z J) refl)
  where
    by : (found : Option Insn) → changing_insn target e z J ≡ found → length (term_code e z J d Value) + 0
        ≤ length (one_code found (given_code (term_source e z J) target (term_code e z J d Value))) + 1
    by None same = omega (arith, given_long (term_source e z J) target (term_code e z J d Value) (found_short e z J d))
    by (Some insn) same = omega (arith, changed_long target e z J d insn same)

pub also_part : (whole front : Assignment) (p : _) (target : Target) (e : Term) (z : Sizes) (J : List ℕ) (d : ℕ)
    → whole ≡ Also' p front target e → length (term_code e z J d Value) + 0 ≤ length (assignment_code whole z J d) + 1
also_part whole front p target e z J d is =
    let l = also_long (is_steady e) d (term_source e z J) target (term_code e z J d Value)
    (assignment_code front z J (depth_behind (is_steady e) d)) (found_short e z J d) in
    rw is (omega (arith, l.0))

pub one_within : (whole : Assignment) (target : Target) (e : Term) (x : Source) (z : Sizes) (J : List ℕ) (lets d : ℕ)
    → whole ≡ One target e → x ≡ term_source e z J → z.memory ≤ 256 → AssignmentFits whole z (length J) lets d
    → IsSourceWithin x 256
one_within whole target e x z J lets d is same few fits =
    let parts : AssignmentFits (One target e) z (length J) lets d =
    subst (λ (y : Assignment). AssignmentFits y z (length J) lets d) is fits in
    subst (λ (y : Source). IsSourceWithin y 256) (sym same) (source_within e z J (length J) lets d few parts.1)

pub also_within : (whole front : Assignment) (p : _) (target : Target) (e : Term) (x : Source) (z : Sizes) (J : List ℕ)
    (lets d : ℕ) → whole ≡ Also' p front target e → x ≡ term_source e z J → z.memory ≤ 256
    → AssignmentFits whole z (length J) lets d → IsSourceWithin x 256
also_within whole front p target e x z J lets d is same few fits =
    let parts : AssignmentFits (Also' p front target e) z (length J) lets d =
    subst (λ (y : Assignment). AssignmentFits y z (length J) lets d) is fits in
    subst (λ (y : Source). IsSourceWithin y 256) (sym same) (source_within e z J (length J) lets d few parts.1)

stored_long : (x : Source) (d : ℕ) (code rest : List Insn) → (is_found x ≡ true → length code ≡ 1)
    → (length code ≤ length (stored_code x d code rest) + 1) × (length rest ≤ length (stored_code x d code rest))
stored_long (Constant c) d code rest f =
    let one = f refl in
    let l = length-append (place_code (number_place d) (Constant c)) rest in
    (omega arith, omega arith)
stored_long (FromLocal k) d code rest f =
    let one = f refl in
    let l = length-append (place_code (number_place d) (FromLocal k)) rest in
    (omega arith, omega arith)
stored_long (FromWord k) d code rest f =
    let one = f refl in
    let l = length-append (place_code (number_place d) (FromWord k)) rest in
    (omega arith, omega arith)
stored_long Computed d code rest f =
    let l = length-append code (keep_code (number_place d) ∷ rest) in
    (omega arith, omega arith)

tallied_long : (tally : Tally) (d : ℕ) (tests rest : List Insn)
    → (length (tally_code tally d tests) ≤ length (tallied_code tally d tests ++ rest) + 1)
    × (length rest ≤ length (tallied_code tally d tests ++ rest))
tallied_long tally d tests rest =
    let l1 = length-append (tallied_code tally d tests) (fetch_code R0 (number_place d) ∷ []) in
    let l2 = length-append (tallied_code tally d tests) rest in
    (omega arith, omega arith)

let_long : (e : Term) (z : Sizes) (J : List ℕ) (d : ℕ) (rest : List Insn)
    → (length (term_code e z J d Value) ≤ length (let_code e z J d rest) + 1)
    × (length rest ≤ length (let_code e z J d rest))
let_long (Count' p t) z J d rest =
    let l = tallied_long HowMany d (over_code HowMany t z J d) rest in
    let e = ap length (count_code t p z J d Value) in
    (omega (arith, l.0), l.1)
let_long (Least' p t) z J d rest =
    let l = tallied_long LeastMessage d (over_code LeastMessage t z J d) rest in
    let e = ap length (least_code t p z J d Value) in
    (omega (arith, l.0), l.1)
let_long e z J d rest = stored_long (term_source e z J) d (term_code e z J d Value) rest (found_short e z J d)

pub let_within : (whole rest : Statement) (e : Term) (p : _) (x : Source) (z : Sizes) (J : List ℕ) (d : ℕ)
    → whole ≡ Let' e p rest → x ≡ term_source e z J → z.memory ≤ 256 → BlockFits whole z (length J) d → IsSourceWithin x 256
let_within whole rest e p x z J d is same few fits =
    let parts : BlockFits (Let' e p rest) z (length J) d =
    subst (λ (b : Statement). BlockFits b z (length J) d) is fits in
    subst (λ (y : Source). IsSourceWithin y 256) (sym same) (source_within e z J (length J) d d few parts.1)

passed_long : (x : Source) (j : ℕ) (code : List Insn) → (is_found x ≡ true → length code ≡ 1)
    → length code ≤ length (passed_code x j code)
passed_long (Constant c) j code f = omega (arith, f refl)
passed_long (FromLocal k) j code f = omega (arith, f refl)
passed_long (FromWord k) j code f = omega (arith, f refl)
passed_long Computed j code f = omega (arith, length-append code (send_code Computed j))

pub passed_part : (e : Term) (z : Sizes) (J : List ℕ) (d j : ℕ) → j < z.nodes
    → length (term_code e z J d Value) + 0
    ≤ length (send_to_constant_code (term_source e z J) j z.nodes (term_code e z J d Value)) + 1
passed_part e z J d j lt =
    let code = passed_code (term_source e z J) j (term_code e z J d Value) in
    let l = passed_long (term_source e z J) j (term_code e z J d Value) (found_short e z J d) in
    let there : (if nat_lt j z.nodes then code else idle_code) ≡ code =
    cond-true (nat_lt j z.nodes) code idle_code (lt-ltb j z.nodes lt) in
    omega (arith, l, ap length there)

pub passed_within : (e : Term) (x : Source) (z : Sizes) (J : List ℕ) (d : ℕ) → x ≡ term_source e z J → z.memory ≤ 256
    → Fits e z (length J) d d → IsSourceWithin x 256
passed_within e x z J d same few fits =
    subst (λ (y : Source). IsSourceWithin y 256) (sym same) (source_within e z J (length J) d d few fits)

pub let_value_part : (whole rest : Statement) (e : Term) (p : _) (z : Sizes) (J : List ℕ) (d : ℕ)
    → whole ≡ Let' e p rest → length (term_code e z J d Value) + 0 ≤ length (block_code whole z J d) + 1
let_value_part whole rest e p z J d is =
    let l = let_long e z J d (block_code rest z J (d + 1)) in
    rw is (omega (arith, l.0))

pub let_rest_part : (whole rest rest1 : Statement) (e : Term) (p : _) (z : Sizes) (J : List ℕ) (d : ℕ)
    → whole ≡ Let' e p rest → rest1 ≡ rest
    → length (block_code rest1 z J (d + 1)) + 1 ≤ length (block_code whole z J d) + 1
let_rest_part whole rest rest1 e p z J d is same =
    let l = let_long e z J d (block_code rest z J (d + 1)) in
    rw (is, same) (omega (arith, l.1))

pub sent_part : (e : Term) (z : Sizes) (J : List ℕ) (d : ℕ) → 1 ≤ z.nodes
    → length (term_code e z J d Value) + 0 ≤ length (block_code (SendAll e) z J d) + 1
sent_part e z J d some =
    let l = send_all_long (term_source e z J) d z.nodes (term_code e z J d Value) some (found_short e z J d) in
    omega (arith, l)

pub sent_within : (e : Term) (x : Source) (z : Sizes) (J : List ℕ) (d : ℕ) → x ≡ term_source e z J → z.memory ≤ 256
    → BlockFits (SendAll e) z (length J) d → IsSourceWithin x 256
sent_within e x z J d same few fits =
    subst (λ (y : Source). IsSourceWithin y 256) (sym same) (source_within e z J (length J) d d few fits.1)

pub body_part : (whole b b1 : Statement) (p : _) (z : Sizes) (J J1 J2 : List ℕ) (d n : ℕ) → whole ≡ For' p b → b1 ≡ b
    → J1 ≡ J ++ n ∷ [] → J2 ≡ J1 → n < z.nodes → length (block_code b1 z J2 d) + 1 ≤ length (block_code whole z J d) + 1
body_part whole b b1 p z J J1 J2 d n e e1 e2 e3 lt =
    let l = body_in_each z.nodes n (λ j. block_code b z (J ++ j ∷ []) d) lt in
    rw (e, e1, e3, e2) (omega (arith, l))

pub bodies_part : (whole b : Statement) (p : _) (z : Sizes) (J : List ℕ) (d n : ℕ) (new : List Insn) → whole ≡ For' p b
    → n + 1 ≤ z.nodes → new ≡ each_code (λ j. block_code b z (J ++ j ∷ []) d) (n + 1)
    → length new ≤ length (block_code whole z J d) + 1
bodies_part whole b p z J d n new e le e1 =
    let l = eachs_long z.nodes (n + 1) (λ j. block_code b z (J ++ j ∷ []) d) le in
    rw (e, e1) (omega (arith, l))

-- ---- a number to a node that is no constant

send_to_long : (x : Source) (d n : ℕ) (code receiver : List Insn) → (is_found x ≡ true → length code ≡ 1)
    → (length code ≤ length (send_to_code x d n code receiver))
    × (length receiver ≤ length (send_to_code x d n code receiver))
send_to_long (Constant c) d n code receiver f =
    let one = f refl in
    let l = length-append receiver (receiver_code (Constant c) n) in
    (omega arith, omega arith)
send_to_long (FromLocal k) d n code receiver f =
    let one = f refl in
    let l = length-append receiver (receiver_code (FromLocal k) n) in
    (omega arith, omega arith)
send_to_long (FromWord k) d n code receiver f =
    let one = f refl in
    let l = length-append receiver (receiver_code (FromWord k) n) in
    (omega arith, omega arith)
send_to_long Computed d n code receiver f =
    let back = receiver ++ receiver_code (FromLocal d) n in
    let l1 = length-append code (keep_code (number_place d) ∷ back) in
    let l2 = length-append receiver (receiver_code (FromLocal d) n) in
    (omega arith, omega arith)

send_to_made : (e k : Term) (z : Sizes) (J : List ℕ) (d : ℕ) → is_constant k ≡ false → block_code (SendTo e k) z J d
    ≡ send_to_code (term_source e z J) d z.nodes (term_code e z J d Value)
    (term_code k z J (depth_behind (is_operand e) d) Value)
send_to_made e k z J d other = cond-false (is_constant k)
    (send_to_constant_code (term_source e z J) (constant_number k z J) z.nodes (term_code e z J d Value))
    (send_to_code (term_source e z J) d z.nodes (term_code e z J d Value)
    (term_code k z J (depth_behind (is_operand e) d) Value)) other

pub send_to_value : (e k : Term) (z : Sizes) (J : List ℕ) (d : ℕ) → is_constant k ≡ false
    → length (term_code e z J d Value) + 0 ≤ length (block_code (SendTo e k) z J d) + 1
send_to_value e k z J d other =
    let l = send_to_long (term_source e z J) d z.nodes (term_code e z J d Value)
    (term_code k z J (depth_behind (is_operand e) d) Value) (found_short e z J d) in
    omega (arith, l.0, ap length (send_to_made e k z J d other))

pub send_to_receiver : (e k : Term) (z : Sizes) (J : List ℕ) (d deep : ℕ) → is_constant k ≡ false → {simple : Bool}
    → deep ≡ depth_behind simple d → simple ≡ is_operand e
    → length (term_code k z J deep Value) + 0 ≤ length (block_code (SendTo e k) z J d) + 1
send_to_receiver e k z J d deep other is found =
    let l = send_to_long (term_source e z J) d z.nodes (term_code e z J d Value)
    (term_code k z J (depth_behind (is_operand e) d) Value) (found_short e z J d) in
    let same : length (term_code k z J deep Value) ≡ length (term_code k z J (depth_behind (is_operand e) d) Value) =
    ap (λ (n : ℕ). length (term_code k z J n Value)) (is ∙ ap (λ (x : Bool). depth_behind x d) found) in
    omega (arith, l.1, same, ap length (send_to_made e k z J d other))
