-- What the terms of a rule are on a path.
use Rattle.std.proofs.Common.{◌≡◌, ℕ, zero, suc, ◌+◌, ◌-◌, ◌%◌, ◌^◌, ◌<◌, ◌≤◌, nat_lt, not, ◌&&◌, ◌||◌, Bool, true, false, if◌then◌else◌, Option, Some, None, List, [], ◌∷◌, ◌++◌, length, slice_index, refl, sym, ap, ◌∙◌, arith, inl, inr, subst, ap₂}
use Rattle.std.specs.Prelude.{◌⊎◌, unwrap_or}
use Rattle.std.specs.FinMap.{get}
use Rattle.std.proofs.lemmas.Bool.{cases_lt, cases_eq, eq-eqb, ne_eqb, eqb-true, eqb-false, ltb-true, leb-true, not-true, not-false, and_parts, and_cases}
use Rattle.std.proofs.Math.Nat.{mod-eq_of_lt, mod-eq-sub-mod}
use Rattle.node_env.specs.declared.env.TheConstants.{NO_MAIL}
use Rattle.node_env.specs.Env.{Setting, AreNumbers, received}
use Rattle.rule_syntax.specs.declared.syntax.Sizes.{Sizes}
use Rattle.rule_syntax.specs.declared.syntax.Operation.{Operation}
use Rattle.rule_syntax.specs.declared.syntax.Operation.TheVariants.{Sum, Difference, Product, Quotient, Remainder}
use Rattle.rule_syntax.specs.declared.syntax.Comparison.{Comparison}
use Rattle.rule_syntax.specs.declared.syntax.Comparison.TheVariants.{Equal, NotEqual, Less, AtMost, Greater, AtLeast}
use Rattle.rule_syntax.specs.declared.syntax.Operator.{Operator}
use Rattle.rule_syntax.specs.declared.syntax.Operator.TheVariants.{Compute, Compare}
use Rattle.rule_syntax.specs.declared.syntax.Connective.{Connective}
use Rattle.rule_syntax.specs.declared.syntax.Connective.TheVariants.{And, Or}
use Rattle.rule_syntax.specs.declared.syntax.Term.{Term}
use Rattle.rule_syntax.specs.declared.syntax.Term.TheVariants.{Number, Nodes, Faults, Modulus, Me, Coin, LoopNode, Local, Word, Message', Binary', Logical', Not', Choice', Count', Least', Sorted'}
use Rattle.rule_meaning.specs.Meaning.{NodeState, apply, compare, bit_of, truth, apply_operator, combine, count_below, word_at, message_from, value}
use Rattle.rule_nodes.specs.Code.{opposite}
use Rattle.rule_nodes.proofs.Small.{apply_small, number_small, opposed, truth_of}
use Rattle.rule_nodes.proofs.Words.{word_small}
use Rattle.rule_paths.specs.Relations.{Expression, Constant, Variable, Numbers, expression_number, Relation, Always, IsAtMost, AllOf, AnyOf, AgreeBelow, IsSettled, Settles, RelationHolds, IsEqual}
use Rattle.rule_paths.specs.Covered.{TermIsCovered}
use Rattle.rule_paths.specs.Stores.{NodeCount, Store, CanSee, StoreSays}
use Rattle.rule_paths.specs.Paths.{compared, computed, succeeds, fails, What, Value, Truth, Sender, Found, Numbered, Around, numbered_as, numbered, holds_of, fails_of, as_is, with_fresh, loop_node, message_as, operated, combined_as, combined, negated, found_term}
use Rattle.rule_paths.proofs.Fresh.{agree_self, agree_less, agree_then, settled_more, is_settled_more, state_more, IsWhat, IsFound, IsNumbered, numbered_is, fresh_found}

-- ---- comparisons and operations

remainder_low : (a b : ℕ) → b ≤ a → a < b + b → a % b + b ≡ a
remainder_low a b le lt =
    let less : a - b < b = omega (arith, le, lt) in
    let e : a % b ≡ a - b = mod-eq-sub-mod le ∙ mod-eq_of_lt less in
    omega (arith, e, le)

remainder_small : (a b : ℕ) → 1 ≤ b → a % b < b
remainder_small a zero h = absurd (omega (arith, h))
remainder_small a (suc b) h = grind arith

quotient_few : (a b : ℕ) → apply Quotient a b ≤ a
quotient_few a zero = omega arith
quotient_few a (suc b) = rw (ne_eqb (suc b) 0 (λ e. omega arith)) (grind arith)

or_cases : (x y : Bool) → (x || y) ≡ true → (x ≡ true) ⊎ (y ≡ true)
or_cases true y e = inl refl
or_cases false y e = inr e

or_parts : (x y : Bool) → (x || y) ≡ false → (x ≡ false) × (y ≡ false)
or_parts true y e = absurd (let never : true ≡ false = e in cc)
or_parts false y e = (refl, e)

compares : (c : Comparison) (w : Numbers) (a b : Expression) → compare c (expression_number w a) (expression_number w b) ≡ true
    → RelationHolds w (compared c a b)
compares Equal w a b h = let e = eqb-true _ _ h in (omega (arith, e), omega (arith, e))
compares NotEqual w a b h =
    let ne = eqb-false (expression_number w a) (expression_number w b) (not-true _ h) in
    elim (cases_lt (expression_number w a) (expression_number w b)) [
      | inl less ↦ inl (omega (arith, less))
      | inr more ↦ inr (omega (arith, more, ne))
    ]
compares Less w a b h = let e = ltb-true _ _ h in omega (arith, e)
compares AtMost w a b h = leb-true _ _ h
compares Greater w a b h = let e = ltb-true _ _ h in omega (arith, e)
compares AtLeast w a b h = leb-true _ _ h

compares_at : (c : Comparison) (w : Numbers) (a b : Expression) (x y : ℕ) → expression_number w a ≡ x → expression_number w b ≡ y
    → compare c x y ≡ true → RelationHolds w (compared c a b)
compares_at c w a b x y ea eb h = compares c w a b (ap₂ (compare c) ea eb ∙ h)

computes : (op : Operation) (w : Numbers) (a b r : Expression) → expression_number w a < 2 ^ 32 → expression_number w b < 2 ^ 32
    → expression_number w r ≡ apply op (expression_number w a) (expression_number w b) → RelationHolds w (computed op a b r)
computes Sum w a b r x y h =
    elim (cases_lt (expression_number w a + expression_number w b) (2 ^ 32)) [
      | inl less ↦ inl (omega (arith, h, less), omega (arith, h, less))
      | inr more ↦ inr (omega (arith, h, more, x, y), omega (arith, h, more, x, y))
    ]
computes Difference w a b r x y h =
    elim (cases_lt (expression_number w a) (expression_number w b)) [
      | inl less ↦ inr (omega (arith, h, less, x, y), omega (arith, h, less, x, y))
      | inr more ↦ inl (omega (arith, h, more, x, y), omega (arith, h, more, x, y))
    ]
computes Product w a b r x y h = tt
computes Quotient w a b r x y h = omega (arith, h, quotient_few (expression_number w a) (expression_number w b))
computes Remainder w a b r x y h =
    let A = expression_number w a in
    let B = expression_number w b in
    elim (cases_eq B 0) [
      | inl none ↦
          let e : expression_number w r ≡ A = h ∙ rw (eq-eqb B 0 none) refl in
          inl (omega (arith, none), (omega (arith, e), omega (arith, e)))
      | inr some ↦
          let e : expression_number w r ≡ A % B = h ∙ rw (ne_eqb B 0 some) refl in
          inr (elim (cases_lt A B) [
            | inl less ↦ let low : A % B ≡ A = mod-eq_of_lt less in
                inl (omega (arith, less), (omega (arith, e, low), omega (arith, e, low)))
            | inr more ↦ inr (elim (cases_lt A (B + B)) [
              | inl few ↦ let low = remainder_low A B more few in
                  inl (omega (arith, few), (omega (arith, e, low), omega (arith, e, low)))
              | inr many ↦ let low = remainder_small A B (omega (arith, some)) in
                  inr (omega (arith, many), omega (arith, e, low))
            ])
          ])
    ]

computes_at : (op : Operation) (w : Numbers) (a b r : Expression) (x y : ℕ) → expression_number w a ≡ x → expression_number w b ≡ y
    → x < 2 ^ 32 → y < 2 ^ 32 → expression_number w r ≡ apply op x y → RelationHolds w (computed op a b r)
computes_at op w a b r x y ea eb less few h =
    computes op w a b r (omega (arith, ea, less)) (omega (arith, eb, few)) (h ∙ ap₂ (apply op) (sym ea) (sym eb))

-- ---- truth

succeeds_at : (w : Numbers) (a : Expression) → truth (expression_number w a) ≡ true → RelationHolds w (succeeds a)
succeeds_at w a h = let ne = eqb-false (expression_number w a) 0 (not-true _ h) in omega (arith, ne)

fails_at : (w : Numbers) (a : Expression) → truth (expression_number w a) ≡ false → RelationHolds w (fails a)
fails_at w a h = let e = eqb-true (expression_number w a) 0 (not-false _ h) in omega (arith, e)

pub either_way : (b : Bool) → (b ≡ true) ⊎ (b ≡ false)
either_way true = inl refl
either_way false = inr refl

count_few : (n : ℕ) (holds : ℕ → ℕ) → count_below n holds ≤ n
count_few zero holds = omega arith
count_few (suc n) holds = by (truth (holds n)) (count_few n holds)
  where
    by : (b : Bool) → count_below n holds ≤ n → count_below n holds + bit_of b ≤ suc n
    by true few = omega (arith, few)
    by false few = omega (arith, few)

pub message_small : (z : Sizes) (env : Setting) (j : ℕ) → AreNumbers z.nodes env.inbox → message_from z env j < 2 ^ 32
message_small z env j are = by (nat_lt j z.nodes) (some (get env.inbox j) (λ v e. (are j v e).1))
  where
    some : (mail : Option ℕ) → ((v : ℕ) → mail ≡ Some v → v < 2 ^ 32) → unwrap_or mail NO_MAIL < 2 ^ 32
    some None h = omega arith
    some (Some v) h = h v refl

    by : (b : Bool) → received env j < 2 ^ 32 → (if b then received env j else NO_MAIL) < 2 ^ 32
    by true few = few
    by false few = omega arith

-- ---- which variables terms take

number_grows : (what : What) (facts : Relation) (k : ℕ) → k ≤ (numbered_as what facts k).next
number_grows (Value e) facts k = omega arith
number_grows (Truth so not_so) facts k = omega arith
number_grows (Sender e message) facts k = omega arith

message_grows : (what : What) (f : Found) → f.next ≤ (message_as what f).next
message_grows (Value e) f = omega arith
message_grows (Truth so not_so) f = omega arith
message_grows (Sender e message) f = omega arith

operator_grows : (o : Operator) (x y : Numbered) → y.next ≤ (operated o x y).next
operator_grows (Compute op) x y = omega arith
operator_grows (Compare c) x y = omega arith

pub found_grows : (around : Option Around) (t : Term) (s : Store) (k : ℕ) → k ≤ (found_term around t s k).next
found_grows around (Number n) s k = omega arith
found_grows around Nodes s k = omega arith
found_grows around Faults s k = omega arith
found_grows around Modulus s k = omega arith
found_grows around Me s k = omega arith
found_grows around Coin s k = omega arith
found_grows around (LoopNode i) s k = omega arith
found_grows around (Local i) s k = omega arith
found_grows around (Word i) s k = omega arith
found_grows around (Message' p a) s k =
    omega (arith, found_grows around a s k, message_grows (found_term around a s k).what (found_term around a s k))
found_grows around (Binary' o p a q b) s k =
    let f = found_term around a s k in
    let x = numbered f in
    let g = found_term around b s x.next in
    let y = numbered g in
    omega (
      arith,
      found_grows around a s k,
      number_grows f.what f.facts f.next,
      found_grows around b s x.next,
      number_grows g.what g.facts g.next,
      operator_grows o x y,
    )
found_grows around (Logical' c p a q b) s k =
    omega (arith, found_grows around a s k, found_grows around b s (found_term around a s k).next)
found_grows around (Not' p a) s k = omega (arith, found_grows around a s k)
found_grows around (Choice' p t q a r b) s k =
    let x = found_term around t s k in
    let f = found_term around a s x.next in
    let y = numbered f in
    let g = found_term around b s y.next in
    omega (
      arith,
      found_grows around t s k,
      found_grows around a s x.next,
      number_grows f.what f.facts f.next,
      found_grows around b s y.next,
      number_grows g.what g.facts g.next,
    )
found_grows around (Count' p t) s k = omega arith
found_grows around (Least' p t) s k = omega arith
found_grows around (Sorted' p i q t) s k = omega arith

value_grows : (around : Option Around) (t : Term) (s : Store) (k : ℕ) → k ≤ (numbered (found_term around t s k)).next
value_grows around t s k =
    let f = found_term around t s k in
    omega (arith, found_grows around t s k, number_grows f.what f.facts f.next)

module _ (W : ℕ) (z : Sizes) (env : Setting) where
  -- ---- tests

  pub holds_if : (what : What) (n : ℕ) (v : Numbers) (x : ℕ) → IsWhat z env n v x what → truth x ≡ true
      → Settles n v (holds_of what)
  holds_if (Value e) n v x is t = λ w same. succeeds_at w e (ap truth (is w same) ∙ t)
  holds_if (Truth so not_so) n v x is t = is.2 (sym (truth_of is.0) ∙ (ap truth (sym is.1) ∙ t))
  holds_if (Sender e message) n v x is t = λ w same. succeeds_at w e (ap truth (is.0 w same) ∙ t)

  pub fails_if : (what : What) (n : ℕ) (v : Numbers) (x : ℕ) → IsWhat z env n v x what → truth x ≡ false
      → Settles n v (fails_of what)
  fails_if (Value e) n v x is t = λ w same. fails_at w e (ap truth (is w same) ∙ t)
  fails_if (Truth so not_so) n v x is t = is.3 (sym (truth_of is.0) ∙ (ap truth (sym is.1) ∙ t))
  fails_if (Sender e message) n v x is t = λ w same. fails_at w e (ap truth (is.0 w same) ∙ t)

  pub numbered_found : (k : ℕ) (v : Numbers) (x : ℕ) (f : Found) → IsFound z env k v x f
      → IsNumbered k v x (numbered f)
  numbered_found k v x f is =
      numbered_is z env f.what f.facts k f.next v is.fresh x is.agree is.grows is.facts is.what is.small

  -- two parts of a term
  facts_both : (m n : ℕ) (v w : Numbers) (a b : Relation) → m ≤ n → AgreeBelow m w v → Settles m v a → Settles n w b
      → Settles n w (AllOf a b)
  facts_both m n v w a b le agree f g u same = (settled_more m n v w a le agree f u same, g u same)

  operated_is : (o : Operator) (k : ℕ) (v : Numbers) (X Y : ℕ) (a b : Numbered) (x : IsNumbered k v X a)
      → IsNumbered a.next x.fresh Y b → IsFound z env k v (apply_operator o X Y) (operated o a b)
  operated_is (Compute op) k v X Y a b x y =
      let result = apply op X Y in
      fresh_found z env k b.next v y.fresh result (AllOf a.facts b.facts)
      (computed op a.number b.number) (agree_then k a.next y.fresh x.fresh v x.grows y.agree x.agree)
      (omega (arith, x.grows, y.grows)) (apply_small op X Y x.small y.small)
      (facts_both a.next b.next x.fresh y.fresh a.facts b.facts y.grows y.agree x.facts y.facts)
      (λ w same here. computes_at op w a.number b.number (Variable b.next) X Y
      (is_settled_more a.next b.next x.fresh y.fresh a.number X y.grows y.agree x.number w same) (y.number w same)
      x.small y.small here)
  operated_is (Compare c) k v X Y a b x y =
      let number = is_settled_more a.next b.next x.fresh y.fresh a.number X y.grows y.agree x.number in
      record {
        fresh = y.fresh;
        agree = agree_then k a.next y.fresh x.fresh v x.grows y.agree x.agree;
        grows = omega (arith, x.grows, y.grows);
        facts = facts_both a.next b.next x.fresh y.fresh a.facts b.facts y.grows y.agree x.facts y.facts;
        what = (
          compare c X Y,
          refl,
          (λ e w same. compares_at c w a.number b.number X Y (number w same) (y.number w same) e),
          (λ e w same. compares_at (opposite c) w a.number b.number X Y (number w same) (y.number w same)
              (opposed c X Y ∙ ap not e)),
        );
        small = number_small (compare c X Y);
      }

  combined_what : (c : Connective) (n : ℕ) (w : Numbers) (X Y : ℕ) (a b : What) → IsWhat z env n w X a → IsWhat z env n w Y b
      → IsWhat z env n w (bit_of (combine c (truth X) (truth Y))) (combined_as c a b)
  combined_what And n w X Y a b x y = (
    truth X && truth Y,
    refl,
    (λ e u same. let parts = and_parts (truth X) (truth Y) e in
        (holds_if a n w X x parts.0 u same, holds_if b n w Y y parts.1 u same)),
    (λ e u same. elim (and_cases (truth X) (truth Y) e) [
      | inl f ↦ inl (fails_if a n w X x f u same)
      | inr f ↦ inr (fails_if b n w Y y f u same)
    ]),
  )
  combined_what Or n w X Y a b x y = (
    truth X || truth Y,
    refl,
    (λ e u same. elim (or_cases (truth X) (truth Y) e) [
      | inl f ↦ inl (holds_if a n w X x f u same)
      | inr f ↦ inr (holds_if b n w Y y f u same)
    ]),
    (λ e u same. let parts = or_parts (truth X) (truth Y) e in
        (fails_if a n w X x parts.0 u same, fails_if b n w Y y parts.1 u same)),
  )

  -- what is said at m is said later
  what_more : (m n : ℕ) (v w : Numbers) (x : ℕ) (what : What) → m ≤ n → AgreeBelow m w v → IsWhat z env m v x what
      → IsWhat z env n w x what
  what_more m n v w x (Value e) le same h = is_settled_more m n v w e x le same h
  what_more m n v w x (Truth so not_so) le same h = (
    h.0,
    h.1,
    (λ e. settled_more m n v w so le same (h.2 e)),
    (λ e. settled_more m n v w not_so le same (h.3 e)),
  )
  what_more m n v w x (Sender e message) le same h =
      (is_settled_more m n v w e x le same h.0, is_settled_more m n v w message (message_from z env x) le same h.1)

  combined_is : (c : Connective) (k : ℕ) (v : Numbers) (X Y : ℕ) (a b : Found) (x : IsFound z env k v X a)
      → IsFound z env a.next x.fresh Y b
      → IsFound z env k v (bit_of (combine c (truth X) (truth Y))) (combined c a b)
  combined_is c k v X Y a b x y = record {
    fresh = y.fresh;
    agree = agree_then k a.next y.fresh x.fresh v x.grows y.agree x.agree;
    grows = omega (arith, x.grows, y.grows);
    facts = facts_both a.next b.next x.fresh y.fresh a.facts b.facts y.grows y.agree x.facts y.facts;
    what = combined_what c b.next y.fresh X Y a.what b.what
        (what_more a.next b.next x.fresh y.fresh X a.what y.grows y.agree x.what) y.what;
    small = number_small (combine c (truth X) (truth Y));
  }

  negated_is : (k : ℕ) (v : Numbers) (X : ℕ) (a : Found) → IsFound z env k v X a
      → IsFound z env k v (bit_of (not (truth X))) (negated a)
  negated_is k v X a x = record {
    fresh = x.fresh;
    agree = x.agree;
    grows = x.grows;
    facts = x.facts;
    what = (
      not (truth X),
      refl,
      (λ e. fails_if a.what a.next x.fresh X x.what (not-true _ e)),
      (λ e. holds_if a.what a.next x.fresh X x.what (not-false _ e)),
    );
    small = number_small (not (truth X));
  }

  any_message : (k : ℕ) (v : Numbers) (X M : ℕ) (f : Found) → M < 2 ^ 32 → IsFound z env k v X f
      → IsFound z env k v M (with_fresh f.facts f.next (λ r. Always))
  any_message k v X M f small x =
      fresh_found z env k f.next v x.fresh M f.facts (λ r. Always) x.agree x.grows small x.facts
      (λ u same here. tt)

  message_is : (what : What) (k : ℕ) (v : Numbers) (X : ℕ) (f : Found) → message_from z env X < 2 ^ 32
      → (x : IsFound z env k v X f) → IsWhat z env f.next x.fresh X what
      → IsFound z env k v (message_from z env X) (message_as what f)
  message_is (Value e) k v X f small x is = any_message k v X (message_from z env X) f small x
  message_is (Truth so not_so) k v X f small x is = any_message k v X (message_from z env X) f small x
  message_is (Sender e message) k v X f small x is = record {
    fresh = x.fresh;
    agree = x.agree;
    grows = x.grows;
    facts = x.facts;
    what = is.1;
    small = small;
  }

  -- ---- the node of a count

  -- the node of the count around a term is j, where J has it
  abbrev pub IsLoop : ℕ → Numbers → Option Around → List ℕ → Type 0
  IsLoop n v None J = J ≡ []
  IsLoop n v (Some a) J =
      (j : ℕ) × (J ≡ j ∷ []) × (j < z.nodes) × IsSettled n v a.node j × IsSettled n v a.message (message_from z env j)

  loop_more : (m n : ℕ) (v w : Numbers) (around : Option Around) (J : List ℕ) → m ≤ n → AgreeBelow m w v
      → IsLoop m v around J → IsLoop n w around J
  loop_more m n v w None J le same h = h
  loop_more m n v w (Some a) J le same h = (
    h.0,
    h.1,
    h.2,
    is_settled_more m n v w a.node h.0 le same h.3,
    is_settled_more m n v w a.message (message_from z env h.0) le same h.4,
  )

  loop_small : (k : ℕ) (v : Numbers) (around : Option Around) (J : List ℕ) (i : ℕ) → i < length J → IsLoop k v around J
      → slice_index J i < z.nodes
  loop_small k v None J i lt h = absurd (let never : i < 0 = subst (λ (l : List ℕ). i < length l) h lt in omega (arith, never))
  loop_small k v (Some a) J i lt h =
      let one : i < 1 = subst (λ (l : List ℕ). i < length l) h.1 lt in
      let first : i ≡ 0 = omega (arith, one) in
      let is : slice_index J i ≡ h.0 = ap₂ slice_index h.1 first in
      omega (arith, is, h.2)

  loop_is : (k : ℕ) (v : Numbers) (around : Option Around) (J : List ℕ) (i : ℕ) → i < length J → IsLoop k v around J
      → IsWhat z env k v (slice_index J i) (loop_node around)
  loop_is k v None J i lt h = absurd (let never : i < 0 = subst (λ (l : List ℕ). i < length l) h lt in omega (arith, never))
  loop_is k v (Some a) J i lt h =
      let one : i < 1 = subst (λ (l : List ℕ). i < length l) h.1 lt in
      let first : i ≡ 0 = omega (arith, one) in
      let is : slice_index J i ≡ h.0 = ap₂ slice_index h.1 first in
      ((λ w same. h.3 w same ∙ sym is), (λ w same. h.4 w same ∙ ap (message_from z env) (sym is)))

-- ---- terms

module _ (W : ℕ) (z : Sizes) (env : Setting) (sees : CanSee z env) where
  plain : (what : What) (k : ℕ) (v : Numbers) (x : ℕ) → IsWhat z env k v x what → x < 2 ^ 32
      → IsFound z env k v x (as_is what k)
  plain what k v x is small = record {
    fresh = v;
    agree = agree_self k v;
    grows = omega arith;
    facts = λ w same. tt;
    what = is;
    small = small;
  }

  pub term_found : (around : Option Around) (J : List ℕ) (t : Term) (s : Store) (u : NodeState) (k : ℕ) (v : Numbers)
      → TermIsCovered W (length J) t → IsLoop W z env k v around J → StoreSays W z env k v s u
      → IsFound z env k v (value t z env J u) (found_term around t s k)
  term_found around J (Number n) s u k v fits loop st = plain (Value (Constant n)) k v n (λ w same. refl) fits
  term_found around J Nodes s u k v fits loop st = plain (Value NodeCount) k v z.nodes st.sizes.nodes sees.nodes
  term_found around J Faults s u k v fits loop st = plain (Value (Variable 1)) k v z.faults st.sizes.faults sees.faults
  term_found around J Modulus s u k v fits loop st = plain (Value (Variable 2)) k v z.modulus st.sizes.modulus sees.modulus
  term_found around J Me s u k v fits loop st =
      plain (Value s.me) k v env.id st.me (omega (arith, sees.id, sees.nodes))
  term_found around J Coin s u k v fits loop st = plain (Value s.coin) k v env.coin st.coin (omega (arith, sees.coin))
  term_found around J (LoopNode i) s u k v fits loop st =
      plain (loop_node around) k v (slice_index J i) (loop_is W z env k v around J i fits loop)
      (omega (arith, loop_small W z env k v around J i fits loop, sees.nodes))
  term_found around J (Local i) s u k v fits loop st =
      plain (Value (s.locals i)) k v (u.locals i) (st.locals i) (st.small i)
  term_found around J (Word i) s u k v fits loop st =
      plain (Value (s.words i)) k v (word_at i u.memory) (st.words i fits)
      (word_small i u.memory (omega (arith, fits, st.room)) st.bytes)
  term_found around J (Message' p a) s u k v fits loop st =
      let f = found_term around a s k in
      let X = value a z env J u in
      let x = term_found around J a s u k v fits loop st in
      message_is W z env f.what k v X f (message_small z env X sees.mail) x x.what
  term_found around J (Binary' o p a q b) s u k v fits loop st =
      let x = numbered_found W z env k v (value a z env J u) (found_term around a s k) (term_found around J a s u k v fits.0 loop st) in
      let next = (numbered (found_term around a s k)).next in
      let y = numbered_found W z env next x.fresh (value b z env J u) (found_term around b s next) (term_found around J b s u next x.fresh fits.1
      (loop_more W z env k next v x.fresh around J x.grows x.agree loop)
      (state_more W z env k next v x.fresh s u x.grows x.agree st)) in
      operated_is W z env o k v (value a z env J u) (value b z env J u) (numbered (found_term around a s k))
      (numbered (found_term around b s next)) x y
  term_found around J (Logical' c p a q b) s u k v fits loop st =
      let x = term_found around J a s u k v fits.0 loop st in
      let next = (found_term around a s k).next in
      let y = term_found around J b s u next x.fresh fits.1 (loop_more W z env k next v x.fresh around J x.grows x.agree loop)
      (state_more W z env k next v x.fresh s u x.grows x.agree st) in
      combined_is W z env c k v (value a z env J u) (value b z env J u) (found_term around a s k) (found_term around b s next) x y
  term_found around J (Not' p a) s u k v fits loop st =
      negated_is W z env k v (value a z env J u) (found_term around a s k) (term_found around J a s u k v fits loop st)
  term_found around J (Choice' p t q a r b) s u k v fits loop st =
      let ft = found_term around t s k in
      let x = term_found around J t s u k v fits.0 loop st in
      let fa = numbered (found_term around a s ft.next) in
      let fb = numbered (found_term around b s fa.next) in
      let A = value a z env J u in
      let B = value b z env J u in
      let T = value t z env J u in
      let grows_a = value_grows around a s ft.next in
      let grows_b = value_grows around b s fa.next in
      let loop1 = loop_more W z env k ft.next v x.fresh around J x.grows x.agree loop in
      let st1 = state_more W z env k ft.next v x.fresh s u x.grows x.agree st in
      let is : Expression → Relation = λ r.
      AnyOf (AllOf (holds_of ft.what) (AllOf fa.facts (IsEqual r fa.number)))
      (AllOf (fails_of ft.what) (AllOf fb.facts (IsEqual r fb.number))) in
      elim (either_way (truth T)) [
        | inl e ↦
            let y = numbered_found W z env ft.next x.fresh A (found_term around a s ft.next) (term_found around J a s u ft.next x.fresh fits.1 loop1 st1) in
            let le : ft.next ≤ fb.next = omega (arith, grows_a, grows_b) in
            let whole : IsFound z env k v A (with_fresh ft.facts fb.next is) =
            fresh_found z env k fb.next v y.fresh A ft.facts is
            (agree_then k ft.next y.fresh x.fresh v x.grows y.agree x.agree) (omega (arith, x.grows, grows_a, grows_b)) y.small
            (settled_more ft.next fb.next x.fresh y.fresh ft.facts le y.agree x.facts)
            (λ w same here.
            let low : AgreeBelow fa.next w y.fresh = agree_less fa.next fb.next w y.fresh grows_b same in
            let number : expression_number w fa.number ≡ A = y.number w low in
            let first : AgreeBelow ft.next w x.fresh = agree_then ft.next fa.next w y.fresh x.fresh grows_a low y.agree in
            inl (
              holds_if W z env ft.what ft.next x.fresh T x.what e w first,
              (y.facts w low, (omega (arith, number, here), omega (arith, number, here))),
            )) in
            subst (λ n. IsFound z env k v n (with_fresh ft.facts fb.next is)) (sym (ap (λ (c : Bool). if c then A else B) e)) whole
        | inr e ↦
            let y = numbered_found W z env fa.next x.fresh B (found_term around b s fa.next) (term_found around J b s u fa.next x.fresh fits.2
            (loop_more W z env ft.next fa.next x.fresh x.fresh around J grows_a (agree_self ft.next x.fresh) loop1)
            (state_more W z env ft.next fa.next x.fresh x.fresh s u grows_a (agree_self ft.next x.fresh) st1)) in
            let same1 : AgreeBelow ft.next y.fresh x.fresh = agree_less ft.next fa.next y.fresh x.fresh grows_a y.agree in
            let le : ft.next ≤ fb.next = omega (arith, grows_a, grows_b) in
            let whole : IsFound z env k v B (with_fresh ft.facts fb.next is) =
            fresh_found z env k fb.next v y.fresh B ft.facts is
            (agree_then k ft.next y.fresh x.fresh v x.grows same1 x.agree) (omega (arith, x.grows, grows_a, grows_b)) y.small
            (settled_more ft.next fb.next x.fresh y.fresh ft.facts le same1 x.facts)
            (λ w same here.
            let number : expression_number w fb.number ≡ B = y.number w same in
            let first : AgreeBelow ft.next w x.fresh = agree_then ft.next fb.next w y.fresh x.fresh le same same1 in
            inr (
              fails_if W z env ft.what ft.next x.fresh T x.what e w first,
              (y.facts w same, (omega (arith, number, here), omega (arith, number, here))),
            )) in
            subst (λ n. IsFound z env k v n (with_fresh ft.facts fb.next is)) (sym (ap (λ (c : Bool). if c then A else B) e)) whole
      ]
  term_found around J (Count' p t) s u k v fits loop st =
      let holds : ℕ → ℕ = λ j. value t z env (J ++ j ∷ []) u in
      let few = count_few z.nodes holds in
      let X = count_below z.nodes holds in
      fresh_found z env k k v v X Always (λ r. IsAtMost r NodeCount)
      (agree_self k v) (omega arith) (omega (arith, few, sees.nodes)) (λ w same. tt)
      (λ w same here. omega (arith, few, here, st.sizes.nodes w same))
  term_found around J (Least' p t) s u k v fits loop st = absurd fits
  term_found around J (Sorted' p i q t) s u k v fits loop st = absurd fits

  pub term_value : (around : Option Around) (J : List ℕ) (t : Term) (s : Store) (u : NodeState) (k : ℕ) (v : Numbers)
      → TermIsCovered W (length J) t → IsLoop W z env k v around J → StoreSays W z env k v s u
      → IsNumbered k v (value t z env J u) (numbered (found_term around t s k))
  term_value around J t s u k v fits loop st =
      numbered_found W z env k v (value t z env J u) (found_term around t s k) (term_found around J t s u k v fits loop st)
