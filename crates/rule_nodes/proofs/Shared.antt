-- A right side that is computed once for all nodes of a tally.
use Rattle.std.proofs.Common.{◌≡◌, ℕ, zero, suc, ◌+◌, ◌<◌, ◌==◌, Bool, true, false, not, if◌then◌else◌, ◌&&◌, ◌||◌, List, [], ◌∷◌, ◌++◌, ◌-◌, take, length, slice_index, Result, Ok, Err, IfOk, IfErr, refl, sym, ap, ◌∙◌, arith, subst, append_assoc, length-append, Box, Global}
use Rattle.std.proofs.lemmas.Bool.{eq-eqb, cond-true, cond-false, and_parts}
use Rattle.node_env.specs.Env.{Setting}
use Rattle.rule_syntax.specs.declared.syntax.Sizes.{Sizes}
use Rattle.rule_syntax.specs.declared.syntax.Operator.{Operator}
use Rattle.rule_syntax.specs.declared.syntax.Operator.TheVariants.{Compute, Compare}
use Rattle.rule_syntax.specs.declared.syntax.Term.{Term, Binary}
use Rattle.rule_syntax.specs.declared.syntax.Term.TheVariants.{Number, Nodes, Faults, Modulus, Me, Coin, LoopNode, Local, Word, Message', Binary', Logical', Not', Choice', Count', Least', Sorted'}
use Rattle.bpf_insn.specs.declared.forms.Insn.{Insn}
use Rattle.bpf_insn.specs.declared.forms.Reg.TheVariants.{R0}
use Rattle.rule_nodes.specs.declared.errors.CompileError.{CompileError}
use Rattle.rule_nodes.specs.declared.errors.CompileError.TheVariants.{NoRoom, TooLong, Memory}
use Rattle.rule_nodes.specs.Refusals.{IsUnfit}
use Rattle.rule_nodes.specs.declared.numbers.TheConstants.{PLACES}
use Rattle.rule_nodes.specs.declared.numbers.Purpose.{Purpose}
use Rattle.rule_nodes.specs.declared.numbers.Purpose.TheVariants.{Value}
use Rattle.rule_nodes.specs.declared.numbers.Tally.{Tally}
use Rattle.rule_nodes.specs.declared.numbers.Tally.TheVariants.{HowMany, LeastMessage}
use Rattle.rule_meaning.specs.Meaning.{NodeState, value, bit_of, truth, apply_operator, combine, message_from, count_below, least_below, numbers_of_nodes, in_order, number_at_place}
use Rattle.rule_nodes.specs.Operands.{is_operand, is_free, is_shared, shares_side, depth_behind, term_source}
use Rattle.rule_nodes.specs.Fits.{SidesFit, Fits, TallyFits}
use Rattle.rule_nodes.specs.Code.{number_place, fetch_code, by_value, binary_code, tally_test, tests_code, shared_code, tallied_code, tally_code, term_code, over_code, let_code}

-- ---- the number of a free term

not_same : (k n : ℕ) → not (k == n) ≡ true → k ≡ n → ⊥
not_same k n e is =
    let hit : (k == n) ≡ true = eq-eqb k n is in
    let no : not true ≡ true = subst (λ (x : Bool). not x ≡ true) hit e in
    absurd (let clash : false ≡ true = no in cc)

-- a place other than the one behind J
elsewhere : (J I : List ℕ) (j k i : ℕ) → (i ≡ length J → ⊥) → slice_index (J ++ j ∷ I) i ≡ slice_index (J ++ k ∷ I) i
elsewhere [] I j k zero apart = absurd (apart refl)
elsewhere [] I j k (suc i) apart = refl
elsewhere (x ∷ J) I j k zero apart = refl
elsewhere (x ∷ J) I j k (suc i) apart = elsewhere J I j k i (λ e. apart (ap suc e))

-- one more loop within
within_loop : (f : List ℕ → ℕ) (J I : List ℕ) (j k i : ℕ) → f (J ++ j ∷ (I ++ i ∷ [])) ≡ f (J ++ k ∷ (I ++ i ∷ []))
    → f ((J ++ j ∷ I) ++ i ∷ []) ≡ f ((J ++ k ∷ I) ++ i ∷ [])
within_loop f J I j k i e =
    ap f (append_assoc J (j ∷ I) (i ∷ [])) ∙ e ∙ sym (ap f (append_assoc J (k ∷ I) (i ∷ [])))

pub free_value : (t : Term) (z : Sizes) (env : Setting) (J I : List ℕ) (j k : ℕ) (u : NodeState)
    → is_free t (length J) ≡ true → value t z env (J ++ j ∷ I) u ≡ value t z env (J ++ k ∷ I) u
free_value (Number v) z env J I j k u e = refl
free_value Nodes z env J I j k u e = refl
free_value Faults z env J I j k u e = refl
free_value Modulus z env J I j k u e = refl
free_value Me z env J I j k u e = refl
free_value Coin z env J I j k u e = refl
free_value (LoopNode n) z env J I j k u e = elsewhere J I j k n (not_same n (length J) e)
free_value (Local n) z env J I j k u e = refl
free_value (Word n) z env J I j k u e = refl
free_value (Message' p a) z env J I j k u e = ap (message_from z env) (free_value a z env J I j k u e)
free_value (Binary' o p a q b) z env J I j k u e =
    let parts = and_parts (is_free a (length J)) (is_free b (length J)) e in
    let left = free_value a z env J I j k u parts.0 in
    let right = free_value b z env J I j k u parts.1 in
    λ x. apply_operator o (left x) (right x)
free_value (Logical' c p a q b) z env J I j k u e =
    let parts = and_parts (is_free a (length J)) (is_free b (length J)) e in
    let left = free_value a z env J I j k u parts.0 in
    let right = free_value b z env J I j k u parts.1 in
    λ x. bit_of (combine c (truth (left x)) (truth (right x)))
free_value (Not' p a) z env J I j k u e =
    ap (λ (v : ℕ). bit_of (not (truth v))) (free_value a z env J I j k u e)
free_value (Choice' p t q a r b) z env J I j k u e =
    let parts = and_parts (is_free t (length J)) (is_free a (length J) && is_free b (length J)) e in
    let sides = and_parts (is_free a (length J)) (is_free b (length J)) parts.1 in
    let test = free_value t z env J I j k u parts.0 in
    let left = free_value a z env J I j k u sides.0 in
    let right = free_value b z env J I j k u sides.1 in
    λ x. if truth (test x) then left x else right x
free_value (Count' p t) z env J I j k u e =
    let inner : (i : ℕ) → value t z env ((J ++ j ∷ I) ++ i ∷ []) u ≡ value t z env ((J ++ k ∷ I) ++ i ∷ []) u =
    λ i. within_loop (λ L. value t z env L u) J I j k i (free_value t z env J (I ++ i ∷ []) j k u e) in
    λ x. count_below z.nodes (λ i. inner i x)
free_value (Least' p t) z env J I j k u e =
    let inner : (i : ℕ) → value t z env ((J ++ j ∷ I) ++ i ∷ []) u ≡ value t z env ((J ++ k ∷ I) ++ i ∷ []) u =
    λ i. within_loop (λ L. value t z env L u) J I j k i (free_value t z env J (I ++ i ∷ []) j k u e) in
    λ x. least_below z.nodes (λ i. inner i x) (λ i. message_from z env i)
free_value (Sorted' p n q t) z env J I j k u e =
    let parts = and_parts (is_free n (length J)) (is_free t (length J)) e in
    let place = free_value n z env J I j k u parts.0 in
    let inner : (i : ℕ) → value t z env ((J ++ j ∷ I) ++ i ∷ []) u ≡ value t z env ((J ++ k ∷ I) ++ i ∷ []) u =
    λ i. within_loop (λ L. value t z env L u) J I j k i (free_value t z env J (I ++ i ∷ []) j k u parts.1) in
    λ x. number_at_place (place x) (in_order (numbers_of_nodes z.nodes (λ i. inner i x)))

shared_free : (o : Operator) (a b : Term) (i : ℕ) → is_shared o a b i ≡ true → is_free b i ≡ true
shared_free (Compute op) a b i e = absurd (let no : false ≡ true = e in cc)
shared_free (Compare r) a b i e = (and_parts (not (is_operand a || is_operand b)) (is_free b i) e).1

-- the right number at each node is that at node 0
pub shared_value : (o : Operator) (a b : Term) (z : Sizes) (env : Setting) (J : List ℕ) (j : ℕ) (u : NodeState)
    → is_shared o a b (length J) ≡ true → value b z env (J ++ 0 ∷ []) u ≡ value b z env (J ++ j ∷ []) u
shared_value o a b z env J j u e = free_value b z env J [] 0 j u (shared_free o a b (length J) e)

-- ---- the tests of a tally

pub plain_fits : (t : Term) (z : Sizes) (loops lets d : ℕ) → shares_side t loops ≡ false → TallyFits t z loops lets d
    → (d < PLACES) × Fits t z (loops + 1) lets (d + 1)
plain_fits (Binary' o q a r b) z loops lets d e h = (
  h.0,
  subst (λ (shared : Bool). SidesFit shared (is_operand a || is_operand b) d (λ n. Fits a z (loops + 1) lets n)
      (λ n. Fits b z (loops + 1) lets n)) e h.1,
)
plain_fits t z loops lets d e h = h

pub count_fits : (t : Term) (p : _) (z : Sizes) (loops lets d : ℕ) → Fits (Count' p t) z loops lets d
    → TallyFits t z loops lets d
count_fits (Binary' o q a r b) p z loops lets d h = h
count_fits t p z loops lets d h = h

pub least_fits : (t : Term) (p : _) (z : Sizes) (loops lets d : ℕ) → Fits (Least' p t) z loops lets d
    → TallyFits t z loops lets d
least_fits (Binary' o q a r b) p z loops lets d h = h
least_fits t p z loops lets d h = h

count_holds : (t : Term) (p : _) (z : Sizes) (loops lets d : ℕ) → TallyFits t z loops lets d
    → Fits (Count' p t) z loops lets d
count_holds (Binary' o q a r b) p z loops lets d h = h
count_holds t p z loops lets d h = h

-- as the compiler's variables have it
pub count_needs : (whole t t1 : Term) (p : _) (z : Sizes) (loops lets d : ℕ) → whole ≡ Count' p t → t1 ≡ t
    → Fits whole z loops lets d → TallyFits t1 z loops lets d
count_needs whole t t1 p z loops lets d e e1 h =
    subst (λ (x : Term). TallyFits x z loops lets d) (sym e1)
    (count_fits t p z loops lets d (subst (λ (x : Term). Fits x z loops lets d) e h))

count_gives : (whole t t1 : Term) (p : _) (z : Sizes) (loops lets d : ℕ) → whole ≡ Count' p t → t1 ≡ t
    → TallyFits t1 z loops lets d → Fits whole z loops lets d
count_gives whole t t1 p z loops lets d e e1 h =
    subst (λ (x : Term). Fits x z loops lets d) (sym e)
    (count_holds t p z loops lets d (subst (λ (x : Term). TallyFits x z loops lets d) e1 h))

-- how many parts a term has
abbrev pub term_size : Term → ℕ
term_size (Number v) = 1
term_size Nodes = 1
term_size Faults = 1
term_size Modulus = 1
term_size Me = 1
term_size Coin = 1
term_size (LoopNode i) = 1
term_size (Local k) = 1
term_size (Word k) = 1
term_size (Message' p a) = term_size a + 1
term_size (Binary' o p a q b) = term_size a + term_size b + 1
term_size (Logical' c p a q b) = term_size a + term_size b + 1
term_size (Not' p a) = term_size a + 1
term_size (Choice' p t q a r b) = term_size t + term_size a + term_size b + 1
term_size (Count' p t) = term_size t + 1
term_size (Least' p t) = term_size t + 1
term_size (Sorted' p k q e) = term_size k + term_size e + 1

-- the test of a tally is a part of it
pub count_smaller : (whole t t1 : Term) (p : _) → whole ≡ Count' p t → t1 ≡ t → term_size t1 < term_size whole
count_smaller whole t t1 p e e1 =
    subst (λ (x : Term). term_size x < term_size whole) (sym e1)
    (subst (λ (x : Term). term_size t < term_size x) (sym e) (omega arith))

pub least_smaller : (whole t t1 : Term) (p : _) → whole ≡ Least' p t → t1 ≡ t → term_size t1 < term_size whole
least_smaller whole t t1 p e e1 =
    subst (λ (x : Term). term_size x < term_size whole) (sym e1)
    (subst (λ (x : Term). term_size t < term_size x) (sym e) (omega arith))

-- a test that is no operator between two terms
unparted_tally : (t : Term) (z : Sizes) (loops lets d : ℕ)
    → ((o : Operator) (p q : Box Term Global) → t ≡ Binary o p q → ⊥)
    → TallyFits t z loops lets d ≡ ((d < PLACES) × Fits t z (loops + 1) lets (d + 1))
unparted_tally (Binary' o p a q b) z loops lets d apart =
    absurd (apart o (record { ptr = p.ptr; alloc = p.alloc; value = a })
    (record { ptr = q.ptr; alloc = q.alloc; value = b }) refl)
unparted_tally t z loops lets d apart = refl

pub unparted_ok : {A : Type 0} (r : Result A CompileError) (t : Term) (z : Sizes) (loops lets d inner : ℕ)
    → inner ≡ loops + 1 → ((o : Operator) (p q : Box Term Global) → t ≡ Binary o p q → ⊥) → d < PLACES
    → IfOk r (λ _. Fits t z inner lets (d + 1)) → IfOk r (λ _. TallyFits t z loops lets d)
unparted_ok (Ok x) t z loops lets d inner e apart small h =
    subst (λ (P : Type 0). P) (sym (unparted_tally t z loops lets d apart))
    (small, subst (λ (n : ℕ). Fits t z n lets (d + 1)) e h)
unparted_ok (Err x) t z loops lets d inner e apart small h = tt

pub unparted_unfit : {A : Type 0} (r : Result A CompileError) (t : Term) (z : Sizes) (loops lets d inner : ℕ)
    → inner ≡ loops + 1 → ((o : Operator) (p q : Box Term Global) → t ≡ Binary o p q → ⊥)
    → IfErr r (IsUnfit (Fits t z inner lets (d + 1))) → IfErr r (IsUnfit (TallyFits t z loops lets d))
unparted_unfit (Ok x) t z loops lets d inner e apart h = tt
unparted_unfit (Err NoRoom) t z loops lets d inner e apart h =
    λ f. h (subst (λ (n : ℕ). Fits t z n lets (d + 1)) (sym e)
    (subst (λ (P : Type 0). P) (unparted_tally t z loops lets d apart) f).1)
unparted_unfit (Err TooLong) t z loops lets d inner e apart h = h
unparted_unfit (Err Memory) t z loops lets d inner e apart h = tt

pub count_ok : {A : Type 0} (r : Result A CompileError) (whole t t1 : Term) (p : _) (z : Sizes) (loops lets d : ℕ)
    → whole ≡ Count' p t → t1 ≡ t → IfOk r (λ _. TallyFits t1 z loops lets d) → IfOk r (λ _. Fits whole z loops lets d)
count_ok (Ok x) whole t t1 p z loops lets d e e1 h = count_gives whole t t1 p z loops lets d e e1 h
count_ok (Err x) whole t t1 p z loops lets d e e1 h = tt

pub count_unfit : {A : Type 0} (r : Result A CompileError) (whole t t1 : Term) (p : _) (z : Sizes) (loops lets d : ℕ)
    → whole ≡ Count' p t → t1 ≡ t → IfErr r (IsUnfit (TallyFits t1 z loops lets d))
    → IfErr r (IsUnfit (Fits whole z loops lets d))
count_unfit (Ok x) whole t t1 p z loops lets d e e1 h = tt
count_unfit (Err NoRoom) whole t t1 p z loops lets d e e1 h =
    λ f. h (count_needs whole t t1 p z loops lets d e e1 f)
count_unfit (Err TooLong) whole t t1 p z loops lets d e e1 h = h
count_unfit (Err Memory) whole t t1 p z loops lets d e e1 h = tt

least_holds : (t : Term) (p : _) (z : Sizes) (loops lets d : ℕ) → TallyFits t z loops lets d
    → Fits (Least' p t) z loops lets d
least_holds (Binary' o q a r b) p z loops lets d h = h
least_holds t p z loops lets d h = h

-- as the compiler's variables have it
pub least_needs : (whole t t1 : Term) (p : _) (z : Sizes) (loops lets d : ℕ) → whole ≡ Least' p t → t1 ≡ t
    → Fits whole z loops lets d → TallyFits t1 z loops lets d
least_needs whole t t1 p z loops lets d e e1 h =
    subst (λ (x : Term). TallyFits x z loops lets d) (sym e1)
    (least_fits t p z loops lets d (subst (λ (x : Term). Fits x z loops lets d) e h))

least_gives : (whole t t1 : Term) (p : _) (z : Sizes) (loops lets d : ℕ) → whole ≡ Least' p t → t1 ≡ t
    → TallyFits t1 z loops lets d → Fits whole z loops lets d
least_gives whole t t1 p z loops lets d e e1 h =
    subst (λ (x : Term). Fits x z loops lets d) (sym e)
    (least_holds t p z loops lets d (subst (λ (x : Term). TallyFits x z loops lets d) e1 h))

pub least_ok : {A : Type 0} (r : Result A CompileError) (whole t t1 : Term) (p : _) (z : Sizes) (loops lets d : ℕ)
    → whole ≡ Least' p t → t1 ≡ t → IfOk r (λ _. TallyFits t1 z loops lets d) → IfOk r (λ _. Fits whole z loops lets d)
least_ok (Ok x) whole t t1 p z loops lets d e e1 h = least_gives whole t t1 p z loops lets d e e1 h
least_ok (Err x) whole t t1 p z loops lets d e e1 h = tt

pub least_unfit : {A : Type 0} (r : Result A CompileError) (whole t t1 : Term) (p : _) (z : Sizes) (loops lets d : ℕ)
    → whole ≡ Least' p t → t1 ≡ t → IfErr r (IsUnfit (TallyFits t1 z loops lets d))
    → IfErr r (IsUnfit (Fits whole z loops lets d))
least_unfit (Ok x) whole t t1 p z loops lets d e e1 h = tt
least_unfit (Err NoRoom) whole t t1 p z loops lets d e e1 h =
    λ f. h (least_needs whole t t1 p z loops lets d e e1 f)
least_unfit (Err TooLong) whole t t1 p z loops lets d e e1 h = h
least_unfit (Err Memory) whole t t1 p z loops lets d e e1 h = tt

pub tally_has_place : (t : Term) (z : Sizes) (loops lets d : ℕ) → TallyFits t z loops lets d → d < PLACES
tally_has_place (Binary' o q a r b) z loops lets d h = h.0
tally_has_place t z loops lets d h = h.0

pub plain_code : (tally : Tally) (t : Term) (z : Sizes) (J : List ℕ) (d : ℕ) → shares_side t (length J) ≡ false
    → over_code tally t z J d
    ≡ tests_code tally d z.nodes (λ j. term_code t z (J ++ j ∷ []) (d + 1) (tally_test tally d))
plain_code tally (Binary' o q a r b) z J d e =
    let found = is_operand a || is_operand b in
    cond-false (is_shared o a b (length J))
    (shared_code tally d z.nodes o (term_code b z (J ++ 0 ∷ []) (d + 1) Value)
    (λ j. term_code a z (J ++ j ∷ []) (d + 2) Value))
    (tests_code tally d z.nodes (λ j. binary_code (term_source b z (J ++ j ∷ [])) (term_source a z (J ++ j ∷ [])) o
    (d + 1) (tally_test tally d) (term_code a z (J ++ j ∷ []) (d + 1) Value)
    (term_code b z (J ++ j ∷ []) (depth_behind found (d + 1)) Value))) e
plain_code tally t z J d e = refl

-- the code of a comparison whose right side is shared
pub sides_shared : (tally : Tally) (o : Operator) (a b : Term) (q r : _) (z : Sizes) (J : List ℕ) (d : ℕ)
    → is_shared o a b (length J) ≡ true → over_code tally (Binary' o q a r b) z J d
    ≡ shared_code tally d z.nodes o (term_code b z (J ++ 0 ∷ []) (d + 1) Value)
    (λ j. term_code a z (J ++ j ∷ []) (d + 2) Value)
sides_shared tally o a b q r z J d e =
    let found = is_operand a || is_operand b in
    cond-true (is_shared o a b (length J))
    (shared_code tally d z.nodes o (term_code b z (J ++ 0 ∷ []) (d + 1) Value)
    (λ j. term_code a z (J ++ j ∷ []) (d + 2) Value))
    (tests_code tally d z.nodes (λ j. binary_code (term_source b z (J ++ j ∷ [])) (term_source a z (J ++ j ∷ [])) o
    (d + 1) (tally_test tally d) (term_code a z (J ++ j ∷ []) (d + 1) Value)
    (term_code b z (J ++ j ∷ []) (depth_behind found (d + 1)) Value))) e

pub count_code : (t : Term) (p : _) (z : Sizes) (J : List ℕ) (d : ℕ) (purpose : Purpose)
    → term_code (Count' p t) z J d purpose ≡ by_value purpose (tally_code HowMany d (over_code HowMany t z J d))
count_code (Binary' o q a r b) p z J d purpose = refl
count_code t p z J d purpose = refl

pub least_code : (t : Term) (p : _) (z : Sizes) (J : List ℕ) (d : ℕ) (purpose : Purpose)
    → term_code (Least' p t) z J d purpose ≡ by_value purpose (tally_code LeastMessage d (over_code LeastMessage t z J d))
least_code (Binary' o q a r b) p z J d purpose = refl
least_code t p z J d purpose = refl

-- a let of a tally has its code without the last instruction
taken : (xs ys : List Insn) (n : ℕ) → n ≡ length xs → take n (xs ++ ys) ≡ xs
taken [] ys n e = subst (λ (m : ℕ). take m ys ≡ []) (sym e) refl
taken (x ∷ xs) ys zero e = absurd (omega (arith, e))
taken (x ∷ xs) ys (suc n) e = ap (λ (zs : List Insn). x ∷ zs) (taken xs ys n (omega (arith, e)))

front_of : (code front : List Insn) (last : Insn) → code ≡ front ++ last ∷ [] → take (length code - 1) code ≡ front
front_of code front last e =
    ap (λ (c : List Insn). take (length c - 1) c) e
    ∙ taken front (last ∷ []) (length (front ++ last ∷ []) - 1) (omega (arith, length-append front (last ∷ [])))

pub count_let : (e t : Term) (p : _) (z : Sizes) (J : List ℕ) (d : ℕ) (code first rest : List Insn) → e ≡ Count' p t
    → code ≡ term_code e z J d Value → first ≡ take (length code - 1) code → first ++ rest ≡ let_code e z J d rest
count_let e t p z J d code first rest is here cut =
    let T = tallied_code HowMany d (over_code HowMany t z J d) in
    let whole : code ≡ T ++ fetch_code R0 (number_place d) ∷ [] =
    here ∙ (ap (λ (x : Term). term_code x z J d Value) is ∙ count_code t p z J d Value) in
    let front : first ≡ T = cut ∙ front_of code T (fetch_code R0 (number_place d)) whole in
    let all : let_code e z J d rest ≡ T ++ rest = ap (λ (x : Term). let_code x z J d rest) is in
    ap (λ (f : List Insn). f ++ rest) front ∙ sym all

pub least_let : (e t : Term) (p : _) (z : Sizes) (J : List ℕ) (d : ℕ) (code first rest : List Insn) → e ≡ Least' p t
    → code ≡ term_code e z J d Value → first ≡ take (length code - 1) code → first ++ rest ≡ let_code e z J d rest
least_let e t p z J d code first rest is here cut =
    let T = tallied_code LeastMessage d (over_code LeastMessage t z J d) in
    let whole : code ≡ T ++ fetch_code R0 (number_place d) ∷ [] =
    here ∙ (ap (λ (x : Term). term_code x z J d Value) is ∙ least_code t p z J d Value) in
    let front : first ≡ T = cut ∙ front_of code T (fetch_code R0 (number_place d)) whole in
    let all : let_code e z J d rest ≡ T ++ rest = ap (λ (x : Term). let_code x z J d rest) is in
    ap (λ (f : List Insn). f ++ rest) front ∙ sym all
