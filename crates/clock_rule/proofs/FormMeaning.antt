-- What forms mean. A rule means what its form does, wherever its boxes lie.
use Rattle.std.proofs.Common.{◌≡◌, ℕ, zero, suc, ◌+◌, min, not, nat_lt, if◌then◌else◌, List, [], ◌∷◌, ◌++◌, slice_index, refl, ap, ap₂, ◌∙◌}
use Rattle.node_env.specs.Env.{Setting}
use Rattle.rule_syntax.specs.declared.syntax.Sizes.{Sizes}
use Rattle.rule_syntax.specs.declared.syntax.Assignment.{Assignment}
use Rattle.rule_syntax.specs.declared.syntax.Assignment.TheVariants.{One, Also'}
use Rattle.rule_syntax.specs.declared.syntax.Term.{Term}
use Rattle.rule_syntax.specs.declared.syntax.Term.TheVariants.{Number, Nodes, Faults, Modulus, Me, Coin, LoopNode, Local, Word, Message', Binary', Logical', Not', Choice', Count', Least', Sorted'}
use Rattle.rule_syntax.specs.declared.syntax.Statement.{Statement}
use Rattle.rule_syntax.specs.declared.syntax.Statement.TheVariants.{Nothing, Then', Let', Assign, If', For', SendAll, SendTo}
use Rattle.rule_meaning.specs.Meaning.{NodeState, apply_operator, combine, bit_of, truth, count_below, least_below, numbers_of_nodes, in_order, number_at_place, word_at, message_from, value, with_local, assigned, all_assigned, with_sent, sent_below, each_below, after, initial_state, pulse}
use Rattle.rule_text.specs.Forms.{TermForm, number, nodes, faults, modulus, me, coin, loop_node, local, word, message, binary, logical, inverse, choice, count, least, sorted, AssignmentForm, one, also, StatementForm, nothing, sequence, let_in, assign, branch, each, send_all, send_to, term_form, assignment_form, statement_form}

-- ---- terms

abbrev pub form_value : TermForm → Sizes → Setting → List ℕ → NodeState → ℕ
form_value (number v) z env J u = v
form_value nodes z env J u = z.nodes
form_value faults z env J u = z.faults
form_value modulus z env J u = z.modulus
form_value me z env J u = env.id
form_value coin z env J u = env.coin
form_value (loop_node i) z env J u = slice_index J i
form_value (local k) z env J u = u.locals k
form_value (word k) z env J u = word_at k u.memory
form_value (message a) z env J u = message_from z env (form_value a z env J u)
form_value (binary o a b) z env J u = apply_operator o (form_value a z env J u) (form_value b z env J u)
form_value (logical c a b) z env J u =
    bit_of (combine c (truth (form_value a z env J u)) (truth (form_value b z env J u)))
form_value (inverse a) z env J u = bit_of (not (truth (form_value a z env J u)))
form_value (choice t a b) z env J u =
    if truth (form_value t z env J u) then form_value a z env J u else form_value b z env J u
form_value (count t) z env J u = count_below z.nodes (λ j. form_value t z env (J ++ j ∷ []) u)
form_value (least t) z env J u =
    least_below z.nodes (λ j. form_value t z env (J ++ j ∷ []) u) (λ j. message_from z env j)
form_value (sorted k e) z env J u =
    number_at_place (form_value k z env J u) (in_order (numbers_of_nodes z.nodes (λ j. form_value e z env (J ++ j ∷ []) u)))

count_same : (n : ℕ) (f g : ℕ → ℕ) → ((j : ℕ) → f j ≡ g j) → count_below n f ≡ count_below n g
count_same zero f g h = refl
count_same (suc n) f g h = ap₂ (λ (x y : ℕ). x + bit_of (truth y)) (count_same n f g h) (h n)

least_same : (n : ℕ) (f g heard : ℕ → ℕ) → ((j : ℕ) → f j ≡ g j) → least_below n f heard ≡ least_below n g heard
least_same zero f g heard h = refl
least_same (suc n) f g heard h =
    ap₂ (λ (x y : ℕ). if truth y then min (heard n) x else x) (least_same n f g heard h) (h n)

numbers_same : (n : ℕ) (f g : ℕ → ℕ) → ((j : ℕ) → f j ≡ g j) → numbers_of_nodes n f ≡ numbers_of_nodes n g
numbers_same zero f g h = refl
numbers_same (suc n) f g h = ap₂ (λ (xs : List ℕ) (y : ℕ). xs ++ y ∷ []) (numbers_same n f g h) (h n)

chosen_same : (t s a b c d : ℕ) → t ≡ s → a ≡ b → c ≡ d
    → (if truth t then a else c) ≡ (if truth s then b else d)
chosen_same t s a b c d e f g =
    ap (λ (x : ℕ). if truth x then a else c) e ∙ ap₂ (λ (x y : ℕ). if truth s then x else y) f g

value_same : (t : Term) (z : Sizes) (env : Setting) (J : List ℕ) (u : NodeState)
    → value t z env J u ≡ form_value (term_form t) z env J u
value_same (Number v) z env J u = refl
value_same Nodes z env J u = refl
value_same Faults z env J u = refl
value_same Modulus z env J u = refl
value_same Me z env J u = refl
value_same Coin z env J u = refl
value_same (LoopNode i) z env J u = refl
value_same (Local k) z env J u = refl
value_same (Word k) z env J u = refl
value_same (Message' p a) z env J u = ap (message_from z env) (value_same a z env J u)
value_same (Binary' o p a q b) z env J u = ap₂ (apply_operator o) (value_same a z env J u) (value_same b z env J u)
value_same (Logical' c p a q b) z env J u =
    ap₂ (λ (x y : ℕ). bit_of (combine c (truth x) (truth y))) (value_same a z env J u) (value_same b z env J u)
value_same (Not' p a) z env J u = ap (λ (x : ℕ). bit_of (not (truth x))) (value_same a z env J u)
value_same (Choice' p t q a r b) z env J u =
    chosen_same _ _ _ _ _ _ (value_same t z env J u) (value_same a z env J u) (value_same b z env J u)
value_same (Count' p t) z env J u = count_same z.nodes (λ j. value t z env (J ++ j ∷ []) u)
    (λ j. form_value (term_form t) z env (J ++ j ∷ []) u) (λ j. value_same t z env (J ++ j ∷ []) u)
value_same (Least' p t) z env J u = least_same z.nodes (λ j. value t z env (J ++ j ∷ []) u)
    (λ j. form_value (term_form t) z env (J ++ j ∷ []) u) (λ j. message_from z env j)
    (λ j. value_same t z env (J ++ j ∷ []) u)
value_same (Sorted' p k q e) z env J u =
    ap₂ (λ (x : ℕ) (ys : List ℕ). number_at_place x (in_order ys)) (value_same k z env J u)
    (numbers_same z.nodes (λ j. value e z env (J ++ j ∷ []) u)
    (λ j. form_value (term_form e) z env (J ++ j ∷ []) u) (λ j. value_same e z env (J ++ j ∷ []) u))

-- ---- statements

abbrev pub form_assigned : AssignmentForm → Sizes → Setting → List ℕ → NodeState → NodeState
form_assigned (one target e) z env J u = assigned target (form_value e z env J u) u
form_assigned (also front target e) z env J u =
    assigned target (form_value e z env J u) (form_assigned front z env J u)

abbrev pub form_after : StatementForm → Sizes → Setting → ℕ → List ℕ → NodeState → NodeState
form_after nothing z env d J u = u
form_after (sequence a b) z env d J u = form_after b z env d J (form_after a z env d J u)
form_after (let_in e rest) z env d J u = form_after rest z env (d + 1) J (with_local d (form_value e z env J u) u)
form_after (assign a) z env d J u = form_assigned a z env J u
form_after (branch t a b) z env d J u =
    if truth (form_value t z env J u) then form_after a z env d J u else form_after b z env d J u
form_after (each body) z env d J u = each_below z.nodes (λ j w. form_after body z env d (J ++ j ∷ []) w) u
form_after (send_all e) z env d J u = sent_below z.nodes (form_value e z env J u) u
form_after (send_to e k) z env d J u =
    if nat_lt (form_value k z env J u) z.nodes then with_sent (form_value k z env J u) (form_value e z env J u) u
    else u

assigned_same : (a : Assignment) (z : Sizes) (env : Setting) (J : List ℕ) (u : NodeState)
    → all_assigned a z env J u ≡ form_assigned (assignment_form a) z env J u
assigned_same (One target e) z env J u = ap (λ (x : ℕ). assigned target x u) (value_same e z env J u)
assigned_same (Also' p front target e) z env J u =
    ap₂ (λ (x : ℕ) (w : NodeState). assigned target x w) (value_same e z env J u) (assigned_same front z env J u)

each_same : (n : ℕ) (f g : ℕ → NodeState → NodeState) (u : NodeState) → ((j : ℕ) (w : NodeState) → f j w ≡ g j w)
    → each_below n f u ≡ each_below n g u
each_same zero f g u h = refl
each_same (suc n) f g u h = ap (f n) (each_same n f g u h) ∙ h n (each_below n g u)

done_same : (t s : ℕ) (a b c d : NodeState) → t ≡ s → a ≡ b → c ≡ d
    → (if truth t then a else c) ≡ (if truth s then b else d)
done_same t s a b c d e f g =
    ap (λ (x : ℕ). if truth x then a else c) e ∙ ap₂ (λ (x y : NodeState). if truth s then x else y) f g

after_same : (b : Statement) (z : Sizes) (env : Setting) (d : ℕ) (J : List ℕ) (u : NodeState)
    → after b z env d J u ≡ form_after (statement_form b) z env d J u
after_same Nothing z env d J u = refl
after_same (Then' p a q b) z env d J u =
    ap (λ (w : NodeState). after b z env d J w) (after_same a z env d J u)
    ∙ after_same b z env d J (form_after (statement_form a) z env d J u)
after_same (Let' e p rest) z env d J u =
    ap (λ (x : ℕ). after rest z env (d + 1) J (with_local d x u)) (value_same e z env J u)
    ∙ after_same rest z env (d + 1) J (with_local d (form_value (term_form e) z env J u) u)
after_same (Assign a) z env d J u = assigned_same a z env J u
after_same (If' t p a q b) z env d J u =
    done_same _ _ _ _ _ _ (value_same t z env J u) (after_same a z env d J u) (after_same b z env d J u)
after_same (For' p body) z env d J u = each_same z.nodes (λ j w. after body z env d (J ++ j ∷ []) w)
    (λ j w. form_after (statement_form body) z env d (J ++ j ∷ []) w) u
    (λ j w. after_same body z env d (J ++ j ∷ []) w)
after_same (SendAll e) z env d J u = ap (λ (x : ℕ). sent_below z.nodes x u) (value_same e z env J u)
after_same (SendTo e k) z env d J u =
    ap₂ (λ (x y : ℕ). if nat_lt y z.nodes then with_sent y x u else u) (value_same e z env J u) (value_same k z env J u)

-- a rule of a form
pub pulse_by_form : (rule : Statement) (form : StatementForm) (z : Sizes) (env : Setting) (memory : List ℕ)
    → statement_form rule ≡ form → pulse rule z env memory ≡ form_after form z env 0 [] (initial_state memory)
pulse_by_form rule form z env memory e =
    after_same rule z env 0 [] (initial_state memory)
    ∙ ap (λ (f : StatementForm). form_after f z env 0 [] (initial_state memory)) e
