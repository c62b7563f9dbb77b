-- The run of a whole rule.
use Rattle.std.proofs.Common.{◌≡◌, ℕ, zero, suc, ◌+◌, ◌-◌, ◌<◌, ◌≤◌, Bool, true, false, not, ◌&&◌, ◌||◌, if◌then◌else◌, nat_lt, List, [], ◌∷◌, ◌++◌, length, Option, None, Some, Ok, subst, inl, inr, pos, slice_index_or, refl, sym, ap, ◌∙◌, arith, length-append}
use Rattle.std.proofs.lemmas.List.Elements.{All-nil}
use Rattle.std.proofs.lemmas.Option.{slice_get-get_or, same_Some, none-some}
use Rattle.std.proofs.lemmas.Bool.{cases_Bool, cond-true, cond-false}
use Rattle.std.specs.Int.{w32, cast_signed}
use Rattle.bpf_insn.specs.declared.forms.Width.TheVariants.{W32}
use Rattle.std.specs.Ordering.{nat_cmp}
use Rattle.std.specs.FinMap.{get, get-empty}
use Rattle.node_env.specs.declared.region.Region.TheVariants.{Mem, Stack}
use Rattle.node_env.specs.Env.{Extent, Setting}
use Rattle.bpf_insn.specs.declared.forms.Reg.TheVariants.{R0, R1, R2, R6}
use Rattle.bpf_insn.specs.declared.forms.Reg.{Reg}
use Rattle.bpf_insn.specs.declared.forms.Operand.{Operand}
use Rattle.bpf_insn.specs.declared.forms.Operand.TheVariants as operand
use Rattle.bpf_insn.specs.declared.forms.Insn.{Insn}
use Rattle.bpf_insn.specs.declared.forms.Insn.TheVariants as i
use Rattle.bpf_insn.specs.Edges.{BeginsAt}
use Rattle.bpf_insn.specs.Encoding.{slots_taken}
use Rattle.bpf_machine.specs.declared.word.Word.TheVariants.{Num, Ptr}
use Rattle.bpf_machine.specs.Machine.{Running, Ended, entry}
use Rattle.bpf_machine.specs.Step.{step}
use Rattle.clock_nodes.specs.Ends.{IsNodeStart, HasRuns, EndsBy}
use Rattle.clock_nodes.proofs.Places.{begins, Ones, ones_append, found, stands_whole}
use Rattle.clock_nodes.proofs.Forms.{put_same, put_other, put, moves, exits}
use Rattle.clock_nodes.proofs.Runs.{HasEnd, one_end}
use Rattle.rule_syntax.specs.declared.syntax.Sizes.{Sizes}
use Rattle.rule_syntax.specs.declared.syntax.Operator.{Operator}
use Rattle.rule_syntax.specs.declared.syntax.Operator.TheVariants.{Compute, Compare}
use Rattle.rule_nodes.specs.declared.numbers.Place.{Place}
use Rattle.rule_nodes.specs.declared.numbers.Place.TheVariants.{InRegister, OnStack}
use Rattle.rule_syntax.specs.declared.syntax.Operation.{Operation}
use Rattle.rule_syntax.specs.declared.syntax.Comparison.{Comparison}
use Rattle.rule_nodes.specs.declared.numbers.Purpose.{Purpose}
use Rattle.rule_nodes.specs.declared.numbers.Purpose.TheVariants.{Value, Jump}
use Rattle.rule_syntax.specs.declared.syntax.Target.{Target}
use Rattle.rule_syntax.specs.declared.syntax.Target.TheVariants.{ToLocal, ToWord}
use Rattle.rule_syntax.specs.declared.syntax.Assignment.{Assignment}
use Rattle.rule_syntax.specs.declared.syntax.Assignment.TheVariants.{One, Also'}
use Rattle.rule_nodes.specs.declared.numbers.Tally.{Tally}
use Rattle.rule_nodes.specs.declared.numbers.Tally.TheVariants.{HowMany, LeastMessage}
use Rattle.rule_nodes.specs.declared.numbers.Source.{Source}
use Rattle.rule_nodes.specs.declared.numbers.Source.TheVariants.{Constant, FromLocal, FromWord, Computed}
use Rattle.rule_syntax.specs.declared.syntax.Term.{Term}
use Rattle.rule_syntax.specs.declared.syntax.Term.TheVariants.{Number, Nodes, Faults, Modulus, Me, Coin, LoopNode, Local, Word, Message', Binary', Logical', Not', Choice', Count', Least', Sorted'}
use Rattle.rule_syntax.specs.declared.syntax.Statement.{Statement}
use Rattle.rule_syntax.specs.declared.syntax.Statement.TheVariants.{Nothing, Then', Let', Assign, If', For', SendAll, SendTo}
use Rattle.rule_meaning.specs.Meaning.{initial_state}
use Rattle.rule_nodes.specs.Operands.{is_constant, constant_number, is_local, is_operand, is_steady, is_shared, depth_behind, term_source}
use Rattle.rule_nodes.specs.Fits.{BlockFits}
use Rattle.rule_nodes.specs.Code.{number_place, fetch_code, keep_code, start_code, increment_code, load_place, set_number, set_node, get_code, operand_code, load_code, left_code, right_code, beside_code, binary_code, mirror, message_by, copy, truth_code, by_value, by_test, by_operator, choice_code, if_code, is_nothing, decides, both_far, both_code, jump_on, jump_by, jump_register, message_code, tally_start, tally_step, tally_codes, tests_code, tallied_code, tally_test, shared_code, sides_code, items_code, exchange_code, exchange_codes, pass_code, pass_codes, nearer_end, passes_before, sorted_code, term_code, over_code, assign_code, place_code, word_code, set_code, change_place, given_code, alu_op_of, changing_insn, one_code, also_code, assignment_code, stored_code, let_code, send_code, send_codes, send_all_code, passed_code, idle_code, receiver_code, send_to_code, each_code, block_code, tail_code, rule_code}
use Rattle.rule_nodes.specs.Ends.{AreSizes, IsRuleEnd}
use Rattle.rule_nodes.proofs.Forms.{leads_add, once, chain, further}
use Rattle.rule_nodes.proofs.States.{stands_front, stands_back, Holds, IsSized}
use Rattle.rule_nodes.proofs.TermRuns.{here_is}
use Rattle.rule_nodes.proofs.Blocks.{block_runs}

-- ---- each instruction takes one slot

ones_value : (purpose : Purpose) (code : List Insn) → Ones code → Ones (by_value purpose code)
ones_value Value code h = h
ones_value (Jump when far) code h = ones_append code _ h (refl, tt)

ones_test : (purpose : Purpose) (test : Bool → ℕ → List Insn) → ((when : Bool) (far : ℕ) → Ones (test when far))
    → Ones (by_test purpose test)
ones_test Value test h = ones_append (test false 2) truth_code (h false 2) (refl, (refl, (refl, tt)))
ones_test (Jump when far) test h = h when far

one_fetch : (dst : Reg) (p : Place) → slots_taken (fetch_code dst p) ≡ 1
one_fetch dst (InRegister register) = refl
one_fetch dst (OnStack off) = refl

one_keep : (p : Place) → slots_taken (keep_code p) ≡ 1
one_keep (InRegister register) = refl
one_keep (OnStack off) = refl

one_start : (p : Place) (v : ℕ) → slots_taken (start_code p v) ≡ 1
one_start (InRegister register) v = refl
one_start (OnStack off) v = refl

ones_increment : (p : Place) → Ones (increment_code p)
ones_increment (InRegister register) = (refl, tt)
ones_increment (OnStack off) = (refl, (refl, (refl, tt)))

ones_place : (p : Place) → Ones (load_place p)
ones_place (InRegister register) = tt
ones_place (OnStack off) = (refl, tt)

ones_operator : (o : Operator) (src : Operand) (purpose : Purpose) (code : List Insn) → Ones code
    → Ones (by_operator o src purpose code)
ones_operator (Compute op) src purpose code h = ones_value purpose _ (ones_append code _ h (refl, tt))
ones_operator (Compare r) src purpose code h = ones_test purpose (λ when far. code ++ jump_by
    (jump_on when r) src far ∷ []) (λ when far. ones_append code (jump_by (jump_on when r) src far ∷ []) h (refl, tt))

ones_load : (y : Source) → Ones (load_code y)
ones_load (Constant c) = tt
ones_load (FromLocal k) = ones_place (number_place k)
ones_load (FromWord k) = (refl, tt)
ones_load Computed = tt

takes_one : (dst : Reg) (x : Source) → slots_taken (get_code dst x) ≡ 1
takes_one dst (Constant c) = refl
takes_one dst (FromLocal k) = one_fetch dst (number_place k)
takes_one dst (FromWord k) = refl
takes_one dst Computed = refl

ones_left : (o : Operator) (x : Source) (purpose : Purpose) (right : List Insn) → Ones right
    → Ones (left_code o x purpose right)
ones_left (Compute op) x purpose right h =
    ones_operator (Compute op) (operand.Reg R1) purpose (right ++ (copy R1 R0 ∷ get_code R0 x ∷ []))
    (ones_append right _ h (refl, (takes_one R0 x, tt)))
ones_left (Compare r) x purpose right h =
    ones_operator (Compare (mirror r)) (operand_code x) purpose (right ++ load_code x)
    (ones_append right _ h (ones_load x))

ones_right : (o : Operator) (y : Source) (purpose : Purpose) (left : List Insn) → Ones left
    → Ones (right_code o y purpose left)
ones_right o y purpose left h =
    ones_operator o (operand_code y) purpose (left ++ load_code y) (ones_append left _ h (ones_load y))

ones_beside : (p : Place) (r : Comparison) (c : ℕ) (purpose : Purpose) (left : List Insn) → Ones left
    → Ones (beside_code p r c purpose left)
ones_beside (InRegister register) r c purpose left h =
    ones_test purpose (λ when far. jump_register register (jump_on when r) c far ∷ []) (λ when far. (refl, tt))
ones_beside (OnStack off) r c purpose left h = ones_right (Compare r) (Constant c) purpose left h

ones_binary : (y x : Source) (o : Operator) (d : ℕ) (purpose : Purpose) (left right : List Insn)
    → Ones left → Ones right → Ones (binary_code y x o d purpose left right)
ones_binary (Constant c) (FromLocal k) (Compare r) d purpose left right h g =
    ones_beside (number_place k) r c purpose left h
ones_binary (Constant c) (FromLocal k) (Compute op) d purpose left right h g =
    ones_right (Compute op) (Constant c) purpose left h
ones_binary (Constant c) (Constant b) o d purpose left right h g = ones_value purpose _ (refl, tt)
ones_binary (Constant c) (FromWord k) o d purpose left right h g = ones_right o (Constant c) purpose left h
ones_binary (Constant c) Computed o d purpose left right h g = ones_right o (Constant c) purpose left h
ones_binary (FromLocal k) x o d purpose left right h g = ones_right o (FromLocal k) purpose left h
ones_binary (FromWord k) x o d purpose left right h g = ones_right o (FromWord k) purpose left h
ones_binary Computed (Constant c) o d purpose left right h g = ones_left o (Constant c) purpose right g
ones_binary Computed (FromLocal k) o d purpose left right h g = ones_left o (FromLocal k) purpose right g
ones_binary Computed (FromWord k) o d purpose left right h g = ones_left o (FromWord k) purpose right g
ones_binary Computed Computed o d purpose left right h g =
    ones_append left _ h (one_keep (number_place d), ones_left o (FromLocal d) purpose right g)

ones_message : (y : Source) (n : ℕ) (code : List Insn) → Ones code → Ones (message_by y n code)
ones_message (Constant j) n code h = by (nat_lt j n)
  where
    by : (known : Bool)
        → Ones (if known then set_node R1 j ∷ i.Call (pos 2) ∷ [] else set_number R0 4294967295 ∷ [])
    by true = (refl, (refl, tt))
    by false = (refl, tt)
ones_message (FromLocal k) n code h = ones_append code (message_code n) h (refl, (refl, (refl, (refl, (refl, tt)))))
ones_message (FromWord k) n code h = ones_append code (message_code n) h (refl, (refl, (refl, (refl, (refl, tt)))))
ones_message Computed n code h = ones_append code (message_code n) h (refl, (refl, (refl, (refl, (refl, tt)))))

ones_choice : (test : ℕ → List Insn) (a b : List Insn) → ((far : ℕ) → Ones (test far)) → Ones a → Ones b
    → Ones (choice_code test a b)
ones_choice test a b k h g = ones_append (test (length a + 1)) _ (k (length a + 1)) (ones_append a _ h (refl, g))

ones_if : (alone : Bool) (test : ℕ → List Insn) (a b : List Insn) → ((far : ℕ) → Ones (test far)) → Ones a → Ones b
    → Ones (if_code alone test a b)
ones_if true test a b k h g = ones_append (test (length a)) a (k (length a)) h
ones_if false test a b k h g = ones_choice test a b k h g

ones_step : (tally : Tally) (p : Place) (j : ℕ) → Ones (tally_step tally p j)
ones_step HowMany p j = ones_increment p
ones_step LeastMessage p j =
    (refl, (refl, ones_append (load_place p) _ (ones_place p) (refl, (one_keep p, tt))))

ones_tallies : (step test : ℕ → List Insn) (n : ℕ) → ((j : ℕ) → Ones (step j)) → ((j : ℕ) → Ones (test j))
    → Ones (tally_codes step test n)
ones_tallies step test zero h g = tt
ones_tallies step test (suc n) h g =
    ones_append (tally_codes step test n) _ (ones_tallies step test n h g) (ones_append (test n) _ (g n) (h n))

-- a tally, and what follows
ones_tallied : (tally : Tally) (d : ℕ) (tests rest : List Insn) → Ones tests → Ones rest
    → Ones (tallied_code tally d tests ++ rest)
ones_tallied tally d tests rest h g = (one_start (number_place d) (tally_start tally), ones_append tests rest h g)

ones_tests : (tally : Tally) (d n : ℕ) (test : ℕ → List Insn) → ((j : ℕ) → Ones (test j)) → Ones (tests_code tally d n test)
ones_tests tally d n test h =
    ones_tallies (tally_step tally (number_place d)) test n (ones_step tally (number_place d)) h

ones_shared : (tally : Tally) (d n : ℕ) (o : Operator) (right : List Insn) (left : ℕ → List Insn) → Ones right
    → ((j : ℕ) → Ones (left j)) → Ones (shared_code tally d n o right left)
ones_shared tally d n o right left h g = ones_append right _ h (
  one_keep (number_place (d + 1)),
  ones_tests tally d n (λ j. right_code o (FromLocal (d + 1)) (tally_test tally d) (left j))
      (λ j. ones_right o (FromLocal (d + 1)) (tally_test tally d) (left j) (g j)),
)

ones_sides : (tally : Tally) (o : Operator) (a b : Term) (z : Sizes) (J : List ℕ) (d : ℕ)
    (left right : List ℕ → ℕ → List Insn) → ((I : List ℕ) (e : ℕ) → Ones (left I e))
    → ((I : List ℕ) (e : ℕ) → Ones (right I e)) → Ones (sides_code tally o a b z J d left right)
ones_sides tally o a b z J d left right h g = by (is_shared o a b (length J))
  where
    by : (shared : Bool) → Ones (if shared
        then shared_code tally d z.nodes o (right (J ++ 0 ∷ []) (d + 1)) (λ j. left (J ++ j ∷ []) (d + 2))
        else tests_code tally d z.nodes (λ j. binary_code (term_source b z (J ++ j ∷ [])) (term_source a z (J ++ j ∷ [])) o
        (d + 1) (tally_test tally d) (left (J ++ j ∷ []) (d + 1))
        (right (J ++ j ∷ []) (depth_behind (is_operand a || is_operand b) (d + 1)))))
    by true = ones_shared tally d z.nodes o (right (J ++ 0 ∷ []) (d + 1)) (λ j. left (J ++ j ∷ []) (d + 2))
        (g (J ++ 0 ∷ []) (d + 1)) (λ j. h (J ++ j ∷ []) (d + 2))
    by false = ones_tests tally d z.nodes _ (λ j. ones_binary (term_source b z (J ++ j ∷ []))
        (term_source a z (J ++ j ∷ [])) o (d + 1) (tally_test tally d) (left (J ++ j ∷ []) (d + 1))
        (right (J ++ j ∷ []) (depth_behind (is_operand a || is_operand b) (d + 1))) (h (J ++ j ∷ []) (d + 1))
        (g (J ++ j ∷ []) (depth_behind (is_operand a || is_operand b) (d + 1))))

ones_items : (d n : ℕ) (item : ℕ → List Insn) → ((j : ℕ) → Ones (item j)) → Ones (items_code d item n)
ones_items d zero item h = tt
ones_items d (suc n) item h = ones_append (items_code d item n) _ (ones_items d n item h)
    (ones_append (item n) _ (h n) (one_keep (number_place (d + n)), tt))

ones_exchange : (r : Comparison) (p : Place) → Ones (exchange_code r p)
ones_exchange r p = (one_fetch R1 p, (refl, (one_keep p, (refl, tt))))

ones_exchanges : (r : Comparison) (b m : ℕ) → Ones (exchange_codes r b m)
ones_exchanges r b zero = tt
ones_exchanges r b (suc m) =
    ones_append (exchange_code r (number_place b)) _ (ones_exchange r (number_place b)) (ones_exchanges r (b + 1) m)

ones_passes : (r : Comparison) (d n i : ℕ) → Ones (pass_codes r d n i)
ones_passes r d n zero = tt
ones_passes r d n (suc i) = ones_append (pass_codes r d n i) (pass_code r (d + i) (n - 1 - i)) (ones_passes r d n i)
    (one_fetch R0 (number_place (d + i)), ones_exchanges r (d + i + 1) (n - 1 - i))

ones_sorted : (k d n : ℕ) (item : ℕ → List Insn) → ((j : ℕ) → Ones (item j)) → Ones (sorted_code k d n item)
ones_sorted k d n item h = by (nat_lt k n)
  where
    by : (found : Bool) → Ones (if found
        then items_code d item n ++ pass_codes (nearer_end k n) d n (suc (passes_before k n))
        else set_number R0 4294967295 ∷ [])
    by true = ones_append (items_code d item n) _ (ones_items d n item h)
        (ones_passes (nearer_end k n) d n (suc (passes_before k n)))
    by false = (refl, tt)

ones_term : (t : Term) (z : Sizes) (J : List ℕ) (d : ℕ) (purpose : Purpose) → Ones (term_code t z J d purpose)
ones_term (Number v) z J d purpose = ones_value purpose _ (refl, tt)
ones_term Nodes z J d purpose = ones_value purpose _ (refl, tt)
ones_term Faults z J d purpose = ones_value purpose _ (refl, tt)
ones_term Modulus z J d purpose = ones_value purpose _ (refl, tt)
ones_term Me z J d purpose = ones_value purpose _ (refl, tt)
ones_term Coin z J d purpose = ones_value purpose _ (refl, tt)
ones_term (LoopNode k) z J d purpose = ones_value purpose _ (refl, tt)
ones_term (Local k) z J d purpose = ones_value purpose _ (one_fetch R0 (number_place k), tt)
ones_term (Word k) z J d purpose = ones_value purpose _ (refl, tt)
ones_term (Message' p a) z J d purpose = ones_value purpose _
    (ones_message (term_source a z J) z.nodes (term_code a z J d Value) (ones_term a z J d Value))
ones_term (Binary' o p a q b) z J d purpose =
    ones_binary (term_source b z J) (term_source a z J) o d purpose (term_code a z J d Value)
    (term_code b z J (depth_behind (is_operand a || is_operand b) d) Value) (ones_term a z J d Value)
    (ones_term b z J (depth_behind (is_operand a || is_operand b) d) Value)
ones_term (Logical' c p a q b) z J d purpose =
    let left = λ (w : Bool) (g : ℕ). term_code a z J d (Jump w g) in
    ones_test purpose (λ when far. both_code (decides c) when far left (term_code b z J d (Jump when far))) (λ when far.
    ones_append (left (decides c) (both_far (decides c) when (length (term_code b z J d (Jump when far))) far))
    (term_code b z J d (Jump when far)) (ones_term a z J d (Jump (decides c) _)) (ones_term b z J d (Jump when far)))
ones_term (Not' p a) z J d purpose = ones_test purpose (λ when far. term_code a z J d (Jump (not when) far))
    (λ when far. ones_term a z J d (Jump (not when) far))
ones_term (Choice' p t q a r b) z J d purpose = ones_value purpose _
    (ones_choice (λ far. term_code t z J d (Jump false far)) _ _ (λ far. ones_term t z J d (Jump false far))
    (ones_term a z J d Value) (ones_term b z J d Value))
ones_term (Count' p (Binary' o q a r b)) z J d purpose = ones_value purpose _ (ones_tallied HowMany d _ _
    (ones_sides HowMany o a b z J d (λ I e. term_code a z I e Value) (λ I e. term_code b z I e Value)
    (λ I e. ones_term a z I e Value) (λ I e. ones_term b z I e Value)) (one_fetch R0 (number_place d), tt))
ones_term (Count' p t) z J d purpose = ones_value purpose _ (ones_tallied HowMany d _ _
    (ones_tests HowMany d z.nodes (λ j. term_code t z (J ++ j ∷ []) (d + 1) (tally_test HowMany d))
    (λ j. ones_term t z (J ++ j ∷ []) (d + 1) (tally_test HowMany d))) (one_fetch R0 (number_place d), tt))
ones_term (Least' p (Binary' o q a r b)) z J d purpose = ones_value purpose _ (ones_tallied LeastMessage d _ _
    (ones_sides LeastMessage o a b z J d (λ I e. term_code a z I e Value) (λ I e. term_code b z I e Value)
    (λ I e. ones_term a z I e Value) (λ I e. ones_term b z I e Value)) (one_fetch R0 (number_place d), tt))
ones_term (Least' p t) z J d purpose = ones_value purpose _ (ones_tallied LeastMessage d _ _
    (ones_tests LeastMessage d z.nodes (λ j. term_code t z (J ++ j ∷ []) (d + 1) (tally_test LeastMessage d))
    (λ j. ones_term t z (J ++ j ∷ []) (d + 1) (tally_test LeastMessage d))) (one_fetch R0 (number_place d), tt))
ones_term (Sorted' p k q e) z J d purpose = ones_value purpose _
    (ones_sorted (constant_number k z J) d z.nodes (λ j. term_code e z (J ++ j ∷ []) (d + j) Value)
    (λ j. ones_term e z (J ++ j ∷ []) (d + j) Value))

ones_assign : (target : Target) → Ones (assign_code target ∷ [])
ones_assign (ToLocal k) = (one_keep (number_place k), tt)
ones_assign (ToWord k) = (refl, tt)

ones_placed : (p : Place) (x : Source) → Ones (place_code p x)
ones_placed (InRegister register) x = (takes_one register x, tt)
ones_placed (OnStack off) x = (takes_one R0 x, (refl, tt))

ones_word : (k : ℕ) (p : Place) → Ones (word_code k p)
ones_word k (InRegister register) = (refl, tt)
ones_word k (OnStack off) = (refl, (refl, tt))

ones_set : (target : Target) (x : Source) → Ones (set_code target x)
ones_set (ToLocal k) x = ones_placed (number_place k) x
ones_set (ToWord k) (Constant c) = (refl, tt)
ones_set (ToWord k) (FromLocal j) = ones_word k (number_place j)
ones_set (ToWord k) (FromWord j) = (refl, (refl, tt))
ones_set (ToWord k) Computed = (refl, (refl, tt))

ones_given : (x : Source) (target : Target) (code : List Insn) → Ones code → Ones (given_code x target code)
ones_given (Constant c) target code h = ones_set target (Constant c)
ones_given (FromLocal k) target code h = ones_set target (FromLocal k)
ones_given (FromWord k) target code h = ones_set target (FromWord k)
ones_given Computed target code h = ones_append code _ h (ones_assign target)

ones_also : (steady : Bool) (d : ℕ) (x : Source) (target : Target) (code first : List Insn) → Ones code → Ones first
    → Ones (also_code steady d x target code first)
ones_also true d x target code first h g = ones_append first _ g (ones_given x target code h)
ones_also false d x target code first h g = ones_append code _ h (
  one_keep (number_place d),
  ones_append first _ g
      (one_fetch R0 (number_place d), ones_assign target),
)

one_change : (p : Place) (op : Operation) (c : ℕ) (insn : Insn) → change_place p op c ≡ Some insn → slots_taken insn ≡ 1
one_change (InRegister register) op c insn is =
    let act = i.Alu (alu_op_of op) W32 register (operand.Imm (cast_signed w32 c)) in
    subst (λ (x : Insn). slots_taken x ≡ 1) (same_Some act insn is) refl
one_change (OnStack off) op c insn is = absurd (none-some insn is)

one_slot : (target : Target) (e : Term) (insn : Insn) (z : Sizes) (J : List ℕ) → changing_insn target e z J ≡ Some insn
    → slots_taken insn ≡ 1
one_slot (ToLocal k) (Binary' (Compute op) p a q b) insn z J is =
    let act = change_place (number_place k) op (constant_number b z J) in
    let test = is_local a k && is_constant b in
    elim (cases_Bool test) [
      | inl so ↦ one_change (number_place k) op (constant_number b z J) insn (sym (cond-true test act None so) ∙ is)
      | inr other ↦ absurd (none-some insn (sym (cond-false test act None other) ∙ is))
    ]
one_slot (ToWord k) (Binary' o p a q b) insn z J is = absurd (none-some insn is)
one_slot target e insn z J is = absurd (none-some insn is)

ones_one : (found : Option Insn) (target : Target) (e : Term) (z : Sizes) (J : List ℕ) (code : List Insn)
    → changing_insn target e z J ≡ found → Ones code → Ones (one_code found code)
ones_one None target e z J code is h = h
ones_one (Some insn) target e z J code is h = (one_slot target e insn z J is, tt)

ones_assignment : (a : Assignment) (z : Sizes) (J : List ℕ) (d : ℕ) → Ones (assignment_code a z J d)
ones_assignment (One target e) z J d =
    ones_one (changing_insn target e z J) target e z J (given_code (term_source e z J) target (term_code e z J d Value)) refl
    (ones_given (term_source e z J) target (term_code e z J d Value) (ones_term e z J d Value))
ones_assignment (Also' p front target e) z J d = ones_also (is_steady e) d (term_source e z J) target
    (term_code e z J d Value) (assignment_code front z J (depth_behind (is_steady e) d)) (ones_term e z J d Value)
    (ones_assignment front z J (depth_behind (is_steady e) d))

ones_sends : (x : Source) (n : ℕ) → Ones (send_codes x n)
ones_sends x zero = tt
ones_sends x (suc n) = ones_append (send_codes x n) _ (ones_sends x n) (refl, (takes_one R2 x, (refl, tt)))

ones_send_all : (x : Source) (d n : ℕ) (code : List Insn) → Ones code → Ones (send_all_code x d n code)
ones_send_all (Constant c) d n code h = ones_sends (Constant c) n
ones_send_all (FromLocal k) d n code h = ones_sends (FromLocal k) n
ones_send_all (FromWord k) d n code h = ones_sends (FromWord k) n
ones_send_all Computed d n code h = ones_append code _ h (one_keep (number_place d), ones_sends (FromLocal d) n)

ones_each : (body : ℕ → List Insn) (n : ℕ) → ((j : ℕ) → Ones (body j)) → Ones (each_code body n)
ones_each body zero h = tt
ones_each body (suc n) h = ones_append (each_code body n) (body n) (ones_each body n h) (h n)

ones_stored : (x : Source) (d : ℕ) (code rest : List Insn) → Ones code → Ones rest → Ones (stored_code x d code rest)
ones_stored (Constant c) d code rest h g = ones_append (place_code (number_place d) (Constant c)) rest
    (ones_placed (number_place d) (Constant c)) g
ones_stored (FromLocal k) d code rest h g = ones_append (place_code (number_place d) (FromLocal k)) rest
    (ones_placed (number_place d) (FromLocal k)) g
ones_stored (FromWord k) d code rest h g = ones_append (place_code (number_place d) (FromWord k)) rest
    (ones_placed (number_place d) (FromWord k)) g
ones_stored Computed d code rest h g = ones_append code (keep_code (number_place d) ∷ rest) h (one_keep (number_place d), g)

ones_over : (tally : Tally) (t : Term) (z : Sizes) (J : List ℕ) (d : ℕ) → Ones (over_code tally t z J d)
ones_over tally (Binary' o q a r b) z J d =
    ones_sides tally o a b z J d (λ I e. term_code a z I e Value) (λ I e. term_code b z I e Value)
    (λ I e. ones_term a z I e Value) (λ I e. ones_term b z I e Value)
ones_over tally t z J d = ones_tests tally d z.nodes (λ j. term_code t z (J ++ j ∷ []) (d + 1) (tally_test tally d))
    (λ j. ones_term t z (J ++ j ∷ []) (d + 1) (tally_test tally d))

ones_let : (e : Term) (z : Sizes) (J : List ℕ) (d : ℕ) (rest : List Insn) → Ones rest → Ones (let_code e z J d rest)
ones_let (Count' p t) z J d rest h = ones_tallied HowMany d _ rest (ones_over HowMany t z J d) h
ones_let (Least' p t) z J d rest h = ones_tallied LeastMessage d _ rest (ones_over LeastMessage t z J d) h
ones_let e z J d rest h =
    ones_stored (term_source e z J) d (term_code e z J d Value) rest (ones_term e z J d Value) h

ones_send : (x : Source) (j : ℕ) → Ones (send_code x j)
ones_send x j = (refl, (takes_one R2 x, (refl, tt)))

ones_passed : (x : Source) (j : ℕ) (code : List Insn) → Ones code → Ones (passed_code x j code)
ones_passed (Constant c) j code h = ones_send (Constant c) j
ones_passed (FromLocal k) j code h = ones_send (FromLocal k) j
ones_passed (FromWord k) j code h = ones_send (FromWord k) j
ones_passed Computed j code h = ones_append code _ h (ones_send Computed j)

ones_receiver : (x : Source) (n : ℕ) → Ones (receiver_code x n)
ones_receiver x n = (refl, (refl, (takes_one R2 x, (refl, tt))))

ones_send_to : (x : Source) (d n : ℕ) (code receiver : List Insn) → Ones code → Ones receiver
    → Ones (send_to_code x d n code receiver)
ones_send_to (Constant c) d n code receiver h g = ones_append receiver _ g (ones_receiver (Constant c) n)
ones_send_to (FromLocal k) d n code receiver h g = ones_append receiver _ g (ones_receiver (FromLocal k) n)
ones_send_to (FromWord k) d n code receiver h g = ones_append receiver _ g (ones_receiver (FromWord k) n)
ones_send_to Computed d n code receiver h g = ones_append code _ h (
  one_keep (number_place d),
  ones_append receiver _ g (ones_receiver (FromLocal d) n),
)

ones_cond : (b : Bool) (x y : List Insn) → Ones x → Ones y → Ones (if b then x else y)
ones_cond true x y h g = h
ones_cond false x y h g = g

ones_block : (b : Statement) (z : Sizes) (J : List ℕ) (d : ℕ) → Ones (block_code b z J d)
ones_block Nothing z J d = tt
ones_block (Then' p a q b) z J d = ones_append (block_code a z J d) (block_code b z J d) (ones_block a z J d)
    (ones_block b z J d)
ones_block (Let' e p rest) z J d = ones_let e z J d (block_code rest z J (d + 1)) (ones_block rest z J (d + 1))
ones_block (Assign a) z J d = ones_assignment a z J d
ones_block (If' t p a q b) z J d = ones_if (is_nothing b) (λ far. term_code t z J d (Jump false far)) _ _
    (λ far. ones_term t z J d (Jump false far)) (ones_block a z J d) (ones_block b z J d)
ones_block (For' p body) z J d = ones_each (λ j. block_code body z (J ++ j ∷ []) d) z.nodes
    (λ j. ones_block body z (J ++ j ∷ []) d)
ones_block (SendAll e) z J d = ones_send_all (term_source e z J) d z.nodes (term_code e z J d Value)
    (ones_term e z J d Value)
ones_block (SendTo e k) z J d =
    let code = passed_code (term_source e z J) (constant_number k z J) (term_code e z J d Value) in
    ones_cond (is_constant k) (if nat_lt (constant_number k z J) z.nodes then code else idle_code) _
    (ones_cond (nat_lt (constant_number k z J) z.nodes) code idle_code
    (ones_passed (term_source e z J) (constant_number k z J) (term_code e z J d Value) (ones_term e z J d Value))
    (refl, tt))
    (ones_send_to (term_source e z J) d z.nodes (term_code e z J d Value)
    (term_code k z J (depth_behind (is_operand e) d) Value) (ones_term e z J d Value)
    (ones_term k z J (depth_behind (is_operand e) d) Value))

pub ones_rule : (rule : Statement) (z : Sizes) → Ones (rule_code rule z)
ones_rule rule z = (refl, ones_append (block_code rule z [] 0) tail_code (ones_block rule z [] 0) (refl, (refl, tt)))

-- ---- the run

pub rule_length : (rule : Statement) (z : Sizes) → length (rule_code rule z) ≡ 3 + length (block_code rule z [] 0)
rule_length rule z = omega (arith, length-append (block_code rule z [] 0) tail_code)

pub all_begin : (p : List Insn) → Ones p → (k : ℕ) → k < length p → BeginsAt p k
all_begin p ones k lt = begins p k (slice_index_or p k i.Exit) (found p k ones ∙ slice_get-get_or p k i.Exit lt)

rule_has_end : (rule : Statement) (z : Sizes) (shape : Extent) (env : Setting) (memory : List ℕ) → AreSizes z shape
    → BlockFits rule z 0 0 → IsNodeStart shape env memory
    → HasEnd (rule_code rule z) env memory (IsRuleEnd z rule env memory)
rule_has_end rule z shape env memory sizes fits start =
    let p = rule_code rule z in
    let code = block_code rule z [] 0 in
    let ones = ones_rule rule z in
    let long = rule_length rule z in
    let last = length code + 2 in
    let solid : (k : ℕ) → k ≤ last → BeginsAt p k = λ k le. all_begin p ones k (omega (arith, long)) in
    let stands = stands_whole p ones in
    let s = entry env memory in
    let m = s.frame.registers in
    let s1 = put s 1 R6 (Ptr Mem 0) in
    let u = initial_state memory in
    let r1 : get m 1 ≡ Some (Ptr Mem 0) = put_same _ 1 (Ptr Mem 0) in
    let e1 : step p env s ≡ Ok (Running s1) = moves p env s 1 R6 (operand.Reg R1) (Ptr Mem 0) stands.0 refl
    (solid 1 (omega arith)) (rw r1 refl) refl in
    let sized : IsSized z env = record {
      nodes = sizes.nodes ∙ ap (λ (x : Extent). x.nodes) (sym start.extent);
      memory = sizes.memory ∙ ap (λ (x : Extent). x.memory) (sym start.extent);
      faults = sizes.faults;
      modulus = sizes.modulus;
      setting = start.setting;
    } in
    let r10 : get m 10 ≡ Some (Ptr Stack 512) = put_other _ 1 (Ptr Mem 0) 10 (λ e. omega arith)
    ∙ put_other _ 2 (Num env.id) 10 (λ e. omega arith) ∙ put_same _ 10 (Ptr Stack 512) in
    let h : Holds env 0 u s1 = record {
      r6 = put_same m 6 (Ptr Mem 0);
      locals = λ k lt. absurd (omega arith);
      framed = record { r10 = put_other m 6 (Ptr Mem 0) 10 (λ e. omega arith) ∙ r10; free = λ j. get-empty nat_cmp j };
      small = λ k lt. absurd (omega arith);
      memory = refl;
      sent = refl;
      room = start.length;
      bytes = start.bytes;
    } in
    let c = block_runs p env last solid rule z [] 0 u s1 sized (All-nil (λ j. j < z.nodes)) (omega arith) fits h
    (stands_front p 1 code tail_code stands.1) (omega arith) in
    let t = c.new in
    let there = here_is p env last solid t _ tail_code c.slot (stands_back p 1 code tail_code stands.1) in
    let t1 = put t (t.frame.slot + 1) R0 (Num 0) in
    let e2 : step p env t ≡ Ok (Running t1) = moves p env t (t.frame.slot + 1) R0 (operand.Imm (pos 0))
    (Num 0) there.0 refl (solid (t.frame.slot + 1) (omega (arith, c.slot))) refl refl in
    let e3 : step p env t1 ≡ Ok (Ended t.memory t.sent 0) = exits p env t1 0 there.1.0
    (put_same t.frame.registers 0 (Num 0)) in
    let run1 = chain p env s s1 t 1 (length code) (1 + length code) (once p env s s1 e1) c.run (omega arith) in
    let run2 = further p env s t t1 (1 + length code) (2 + length code) run1 e2 (omega arith) in
    record {
      end = record { steps = run2.count + 1; memory = t.memory; sent = t.sent; r0 = 0 };
      run = leads_add p env run2.count 1 (Running s) (Running t1) (Ended t.memory t.sent 0) run2.leads (_, e3, refl);
      is = record {
        memory = c.fact.memory;
        sent = c.fact.sent;
        r0 = refl;
        steps = omega (arith, run2.few, long);
      };
    }

pub rule_has_runs : (rule : Statement) (z : Sizes) (shape : Extent) → AreSizes z shape → BlockFits rule z 0 0
    → HasRuns (rule_code rule z) shape
rule_has_runs rule z shape sizes fits env memory start =
    let has = rule_has_end rule z shape env memory sizes fits start in
    (has.end, has.run)

pub rule_ends_so : (rule : Statement) (z : Sizes) (shape : Extent) → AreSizes z shape → BlockFits rule z 0 0
    → EndsBy (rule_code rule z) shape (IsRuleEnd z rule)
rule_ends_so rule z shape sizes fits env memory end start run =
    one_end (rule_code rule z) env memory (IsRuleEnd z rule env memory)
    (rule_has_end rule z shape env memory sizes fits start) end run
