-- Symmetric terms: their numbers by messages instead of nodes.
use Rattle.std.proofs.Common.{◌≡◌, ℕ, ◌+◌, ◌<◌, nat_lt, not, true, false, if◌then◌else◌, ◌&&◌, List, [], ◌∷◌, ◌++◌, length, slice_index, inl, inr, refl, sym, ap, ap₂, ◌∙◌, arith, length-append}
use Rattle.std.proofs.Math.ListN.{get_or-append}
use Rattle.std.proofs.lemmas.List.{get_or_push}
use Rattle.std.proofs.lemmas.Bool.{cases_eq, and_parts, ltb-true, both_ways}
use Rattle.node_env.specs.Env.{Setting}
use Rattle.rule_syntax.specs.declared.syntax.Sizes.{Sizes}
use Rattle.rule_syntax.specs.declared.syntax.Term.{Term}
use Rattle.rule_syntax.specs.declared.syntax.Term.TheVariants.{Number, Nodes, Faults, Modulus, Me, Coin, LoopNode, Local, Word, Message', Binary', Logical', Not', Choice', Count', Least', Sorted'}
use Rattle.rule_meaning.specs.Meaning.{NodeState, apply_operator, combine, bit_of, truth, count_below, least_below, in_order, number_at_place, numbers_of_nodes, word_at, message_from, value}
use Rattle.rule_symmetry.specs.Symmetry.{is_counted, is_symmetric_term}
use Rattle.rule_symmetry.specs.Inboxes.{SeeAlike}
use Rattle.rule_symmetry.proofs.Counts.{count_same, same_counts}
use Rattle.rule_symmetry.proofs.Least.{least_alike, same_least}
use Rattle.rule_symmetry.proofs.Ordered.{numbers_alike, same_place}

abbrev said_by : Term → List ℕ → ℕ
said_by (LoopNode i) M = slice_index M i
said_by other M = 0

-- the number of a symmetric term, where M has the messages from the nodes of the counts around it
abbrev by_mail : Term → Sizes → Setting → List ℕ → NodeState → ℕ
by_mail (Number v) z env M u = v
by_mail Nodes z env M u = z.nodes
by_mail Faults z env M u = z.faults
by_mail Modulus z env M u = z.modulus
by_mail Me z env M u = 0
by_mail Coin z env M u = env.coin
by_mail (LoopNode i) z env M u = 0
by_mail (Local k) z env M u = u.locals k
by_mail (Word k) z env M u = word_at k u.memory
by_mail (Message' p a) z env M u = said_by a M
by_mail (Binary' o p a q b) z env M u = apply_operator o (by_mail a z env M u) (by_mail b z env M u)
by_mail (Logical' c p a q b) z env M u = bit_of (combine c (truth (by_mail a z env M u)) (truth (by_mail b z env M u)))
by_mail (Not' p a) z env M u = bit_of (not (truth (by_mail a z env M u)))
by_mail (Choice' p t q a r b) z env M u = if truth (by_mail t z env M u) then by_mail a z env M u else by_mail b z env M u
by_mail (Count' p t) z env M u = count_below z.nodes (λ j. by_mail t z env (M ++ message_from z env j ∷ []) u)
by_mail (Least' p t) z env M u =
    least_below z.nodes (λ j. by_mail t z env (M ++ message_from z env j ∷ []) u) (message_from z env)
by_mail (Sorted' p k q e) z env M u = number_at_place (by_mail k z env M u)
    (in_order (numbers_of_nodes z.nodes (λ j. by_mail e z env (M ++ message_from z env j ∷ []) u)))

-- M has the messages from the nodes of J
record AreFrom (z : Sizes) (env : Setting) (counts : ℕ) (J M : List ℕ) : Type 0 where
  nodes : length J ≡ counts
  mail : length M ≡ counts
  same : (i : ℕ) → i < counts → message_from z env (slice_index J i) ≡ slice_index M i

one_more : (z : Sizes) (env : Setting) (counts j : ℕ) (J M : List ℕ) → AreFrom z env counts J M
    → AreFrom z env (counts + 1) (J ++ j ∷ []) (M ++ message_from z env j ∷ [])
one_more z env counts j J M are = record {
  nodes = omega (arith, are.nodes, length-append J (j ∷ []));
  mail = omega (arith, are.mail, length-append M (message_from z env j ∷ []));
  same = λ i less. elim (cases_eq i counts) [
    | inl last ↦
        ap (message_from z env) (get_or_push J j 0 i (are.nodes ∙ sym last))
        ∙ sym (get_or_push M (message_from z env j) 0 i (are.mail ∙ sym last))
    | inr other ↦
        ap (message_from z env) (get_or-append J (j ∷ []) 0 i (omega (arith, are.nodes)))
        ∙ are.same i (omega arith)
        ∙ sym (get_or-append M (message_from z env j ∷ []) 0 i (omega (arith, are.mail)))
  ];
}

chosen_same : (t s a b c d : ℕ) → t ≡ s → a ≡ b → c ≡ d
    → (if truth t then a else c) ≡ (if truth s then b else d)
chosen_same t s a b c d e f g =
    ap (λ (x : ℕ). if truth x then a else c) e ∙ ap₂ (λ (x y : ℕ). if truth s then x else y) f g

no : {A : Type 0} → false ≡ true → A
no e = absurd (both_ways false refl e)

message_is : (a : Term) (z : Sizes) (env : Setting) (counts : ℕ) (J M : List ℕ) (u : NodeState) → is_counted a counts ≡ true
    → AreFrom z env counts J M → message_from z env (value a z env J u) ≡ said_by a M
message_is (LoopNode i) z env counts J M u ok are = are.same i (ltb-true i counts ok)
message_is other z env counts J M u ok are = no ok

value_is : (t : Term) (z : Sizes) (env : Setting) (counts : ℕ) (J M : List ℕ) (u : NodeState)
    → is_symmetric_term t counts ≡ true → AreFrom z env counts J M → value t z env J u ≡ by_mail t z env M u
value_is (Number v) z env counts J M u ok are = refl
value_is Nodes z env counts J M u ok are = refl
value_is Faults z env counts J M u ok are = refl
value_is Modulus z env counts J M u ok are = refl
value_is Me z env counts J M u ok are = no ok
value_is Coin z env counts J M u ok are = refl
value_is (LoopNode i) z env counts J M u ok are = no ok
value_is (Local k) z env counts J M u ok are = refl
value_is (Word k) z env counts J M u ok are = refl
value_is (Message' p a) z env counts J M u ok are = message_is a z env counts J M u ok are
value_is (Binary' o p a q b) z env counts J M u ok are =
    let both = and_parts (is_symmetric_term a counts) (is_symmetric_term b counts) ok in
    ap₂ (apply_operator o) (value_is a z env counts J M u both.0 are) (value_is b z env counts J M u both.1 are)
value_is (Logical' c p a q b) z env counts J M u ok are =
    let both = and_parts (is_symmetric_term a counts) (is_symmetric_term b counts) ok in
    ap₂ (λ (x y : ℕ). bit_of (combine c (truth x) (truth y))) (value_is a z env counts J M u both.0 are)
    (value_is b z env counts J M u both.1 are)
value_is (Not' p a) z env counts J M u ok are =
    ap (λ (x : ℕ). bit_of (not (truth x))) (value_is a z env counts J M u ok are)
value_is (Choice' p t q a r b) z env counts J M u ok are =
    let both = and_parts (is_symmetric_term t counts && is_symmetric_term a counts) (is_symmetric_term b counts) ok in
    let front = and_parts (is_symmetric_term t counts) (is_symmetric_term a counts) both.0 in
    chosen_same _ _ _ _ _ _ (value_is t z env counts J M u front.0 are) (value_is a z env counts J M u front.1 are)
    (value_is b z env counts J M u both.1 are)
value_is (Count' p t) z env counts J M u ok are =
    let both = and_parts (nat_lt counts 3) (is_symmetric_term t (counts + 1)) ok in
    count_same z.nodes (λ j. value t z env (J ++ j ∷ []) u) (λ j. by_mail t z env (M ++ message_from z env j ∷ []) u)
    (λ j less. value_is t z env (counts + 1) (J ++ j ∷ []) (M ++ message_from z env j ∷ []) u both.1
    (one_more z env counts j J M are))
value_is (Least' p t) z env counts J M u ok are =
    let both = and_parts (nat_lt counts 3) (is_symmetric_term t (counts + 1)) ok in
    least_alike z.nodes (λ j. value t z env (J ++ j ∷ []) u) (λ j. by_mail t z env (M ++ message_from z env j ∷ []) u)
    (message_from z env)
    (λ j less. value_is t z env (counts + 1) (J ++ j ∷ []) (M ++ message_from z env j ∷ []) u both.1
    (one_more z env counts j J M are))
value_is (Sorted' p k q e) z env counts J M u ok are =
    let both = and_parts (nat_lt counts 3 && is_symmetric_term k counts) (is_symmetric_term e (counts + 1)) ok in
    let front = and_parts (nat_lt counts 3) (is_symmetric_term k counts) both.0 in
    ap₂ (λ (x : ℕ) (xs : List ℕ). number_at_place x (in_order xs)) (value_is k z env counts J M u front.1 are)
    (numbers_alike z.nodes (λ j. value e z env (J ++ j ∷ []) u) (λ j. by_mail e z env (M ++ message_from z env j ∷ []) u)
    (λ j less. value_is e z env (counts + 1) (J ++ j ∷ []) (M ++ message_from z env j ∷ []) u both.1
    (one_more z env counts j J M are)))

by_mail_same : (t : Term) (z : Sizes) (env other : Setting) (M : List ℕ) (u : NodeState) → SeeAlike z env other
    → by_mail t z env M u ≡ by_mail t z other M u
by_mail_same (Number v) z env other M u alike = refl
by_mail_same Nodes z env other M u alike = refl
by_mail_same Faults z env other M u alike = refl
by_mail_same Modulus z env other M u alike = refl
by_mail_same Me z env other M u alike = refl
by_mail_same Coin z env other M u alike = alike.coin
by_mail_same (LoopNode i) z env other M u alike = refl
by_mail_same (Local k) z env other M u alike = refl
by_mail_same (Word k) z env other M u alike = refl
by_mail_same (Message' p a) z env other M u alike = refl
by_mail_same (Binary' o p a q b) z env other M u alike =
    ap₂ (apply_operator o) (by_mail_same a z env other M u alike) (by_mail_same b z env other M u alike)
by_mail_same (Logical' c p a q b) z env other M u alike =
    ap₂ (λ (x y : ℕ). bit_of (combine c (truth x) (truth y))) (by_mail_same a z env other M u alike)
    (by_mail_same b z env other M u alike)
by_mail_same (Not' p a) z env other M u alike =
    ap (λ (x : ℕ). bit_of (not (truth x))) (by_mail_same a z env other M u alike)
by_mail_same (Choice' p t q a r b) z env other M u alike =
    chosen_same _ _ _ _ _ _ (by_mail_same t z env other M u alike) (by_mail_same a z env other M u alike)
    (by_mail_same b z env other M u alike)
by_mail_same (Count' p t) z env other M u alike =
    count_same z.nodes (λ j. by_mail t z env (M ++ message_from z env j ∷ []) u)
    (λ j. by_mail t z other (M ++ message_from z env j ∷ []) u)
    (λ j less. by_mail_same t z env other (M ++ message_from z env j ∷ []) u alike)
    ∙ same_counts z.nodes (message_from z env) (message_from z other) (λ m. by_mail t z other (M ++ m ∷ []) u) alike.mail
by_mail_same (Least' p t) z env other M u alike =
    least_alike z.nodes (λ j. by_mail t z env (M ++ message_from z env j ∷ []) u)
    (λ j. by_mail t z other (M ++ message_from z env j ∷ []) u) (message_from z env)
    (λ j less. by_mail_same t z env other (M ++ message_from z env j ∷ []) u alike)
    ∙ same_least z.nodes (message_from z env) (message_from z other) (λ m. by_mail t z other (M ++ m ∷ []) u) alike.mail
by_mail_same (Sorted' p k q e) z env other M u alike =
    ap₂ (λ (x : ℕ) (xs : List ℕ). number_at_place x (in_order xs)) (by_mail_same k z env other M u alike)
    (numbers_alike z.nodes (λ j. by_mail e z env (M ++ message_from z env j ∷ []) u)
    (λ j. by_mail e z other (M ++ message_from z env j ∷ []) u)
    (λ j less. by_mail_same e z env other (M ++ message_from z env j ∷ []) u alike))
    ∙ same_place z.nodes (message_from z env) (message_from z other) (λ m. by_mail e z other (M ++ m ∷ []) u) alike.mail
    (by_mail k z other M u)

pub value_alike : (t : Term) (z : Sizes) (env other : Setting) (u : NodeState) → is_symmetric_term t 0 ≡ true
    → SeeAlike z env other → value t z env [] u ≡ value t z other [] u
value_alike t z env other u ok alike =
    value_is t z env 0 [] [] u ok (record { nodes = refl; mail = refl; same = λ i less. absurd (omega (arith, less)) })
    ∙ by_mail_same t z env other [] u alike
    ∙ sym (value_is t z other 0 [] [] u ok
    (record { nodes = refl; mail = refl; same = λ i less. absurd (omega (arith, less)) }))
