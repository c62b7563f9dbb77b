-- Symmetric rules: what they leave depends on messages as a multiset, and they send to all alike.
use Rattle.std.proofs.Common.{◌≡◌, ℕ, zero, suc, ◌+◌, ◌<◌, ◌≤◌, ◌==◌, Bool, true, false, if◌then◌else◌, ◌&&◌, List, [], Some, None, inl, inr, refl, ap, ap₂, ◌∙◌, arith}
use Rattle.std.specs.Ordering.{nat_cmp}
use Rattle.std.specs.FinMap.{FinMap, get, get-empty}
use Rattle.std.proofs.lemmas.Bool.{cases_eq, and_parts, both_ways}
use Rattle.node_env.specs.Env.{Setting}
use Rattle.bpf_machine.proofs.KeptLaws.{put_same, put_other}
use Rattle.rule_syntax.specs.declared.syntax.Sizes.{Sizes}
use Rattle.rule_syntax.specs.declared.syntax.Assignment.{Assignment}
use Rattle.rule_syntax.specs.declared.syntax.Assignment.TheVariants.{One, Also'}
use Rattle.rule_syntax.specs.declared.syntax.Target.{Target}
use Rattle.rule_syntax.specs.declared.syntax.Target.TheVariants.{ToLocal, ToWord}
use Rattle.rule_syntax.specs.declared.syntax.Statement.{Statement}
use Rattle.rule_syntax.specs.declared.syntax.Statement.TheVariants.{Nothing, Then', Let', Assign, If', For', SendAll, SendTo}
use Rattle.rule_meaning.specs.Meaning.{NodeState, bit_of, truth, message_from, value, with_local, assigned, all_assigned, sent_below, after, initial_state, pulse}
use Rattle.rule_symmetry.specs.Symmetry.{is_symmetric_term, are_symmetric, is_symmetric}
use Rattle.rule_symmetry.specs.Inboxes.{SeeAlike, IsRenaming, IsToAll}
use Rattle.rule_symmetry.proofs.Counts.{count_same, count_renamed}
use Rattle.rule_symmetry.proofs.Terms.{value_alike}

no : {A : Type 0} → false ≡ true → A
no e = absurd (both_ways false refl e)

-- ---- what is left

done_same : (t s : ℕ) (a b c d : NodeState) → t ≡ s → a ≡ b → c ≡ d
    → (if truth t then a else c) ≡ (if truth s then b else d)
done_same t s a b c d e f g =
    ap (λ (x : ℕ). if truth x then a else c) e ∙ ap₂ (λ (x y : NodeState). if truth s then x else y) f g

assigned_alike : (a : Assignment) (z : Sizes) (env other : Setting) (u : NodeState) → are_symmetric a ≡ true
    → SeeAlike z env other → all_assigned a z env [] u ≡ all_assigned a z other [] u
assigned_alike (One target e) z env other u ok alike =
    ap (λ (x : ℕ). assigned target x u) (value_alike e z env other u ok alike)
assigned_alike (Also' p front target e) z env other u ok alike =
    let both = and_parts (are_symmetric front) (is_symmetric_term e 0) ok in
    ap₂ (λ (x : ℕ) (w : NodeState). assigned target x w) (value_alike e z env other u both.1 alike)
    (assigned_alike front z env other u both.0 alike)

after_alike : (b : Statement) (z : Sizes) (env other : Setting) (d : ℕ) (u : NodeState) → is_symmetric b ≡ true
    → SeeAlike z env other → after b z env d [] u ≡ after b z other d [] u
after_alike Nothing z env other d u ok alike = refl
after_alike (Then' p a q b) z env other d u ok alike =
    let both = and_parts (is_symmetric a) (is_symmetric b) ok in
    ap (λ (w : NodeState). after b z env d [] w) (after_alike a z env other d u both.0 alike)
    ∙ after_alike b z env other d (after a z other d [] u) both.1 alike
after_alike (Let' e p rest) z env other d u ok alike =
    let both = and_parts (is_symmetric_term e 0) (is_symmetric rest) ok in
    ap (λ (x : ℕ). after rest z env (d + 1) [] (with_local d x u)) (value_alike e z env other u both.0 alike)
    ∙ after_alike rest z env other (d + 1) (with_local d (value e z other [] u) u) both.1 alike
after_alike (Assign a) z env other d u ok alike = assigned_alike a z env other u ok alike
after_alike (If' t p a q b) z env other d u ok alike =
    let both = and_parts (is_symmetric_term t 0 && is_symmetric a) (is_symmetric b) ok in
    let front = and_parts (is_symmetric_term t 0) (is_symmetric a) both.0 in
    done_same _ _ _ _ _ _ (value_alike t z env other u front.0 alike) (after_alike a z env other d u front.1 alike)
    (after_alike b z env other d u both.1 alike)
after_alike (For' p body) z env other d u ok alike = no ok
after_alike (SendAll e) z env other d u ok alike =
    ap (λ (x : ℕ). sent_below z.nodes x u) (value_alike e z env other u ok alike)
after_alike (SendTo e k) z env other d u ok alike = no ok

pub pulse_alike : (rule : Statement) (z : Sizes) (env other : Setting) (memory : List ℕ) → is_symmetric rule ≡ true
    → SeeAlike z env other → pulse rule z env memory ≡ pulse rule z other memory
pulse_alike rule z env other memory ok alike = after_alike rule z env other 0 (initial_state memory) ok alike

pub renamed_alike : (z : Sizes) (env other : Setting) (name back : ℕ → ℕ) → IsRenaming z.nodes name back
    → env.coin ≡ other.coin → ((j : ℕ) → j < z.nodes → message_from z env j ≡ message_from z other (name j))
    → SeeAlike z env other
renamed_alike z env other name back is coin mail = record {
  coin = coin;
  mail = λ v.
      count_same z.nodes (λ j. bit_of (message_from z env j == v)) (λ j. bit_of (message_from z other (name j) == v))
      (λ j less. ap (λ (m : ℕ). bit_of (m == v)) (mail j less))
      ∙ count_renamed z.nodes name back is (λ k. bit_of (message_from z other k == v));
}

pub pulse_renamed : (rule : Statement) (z : Sizes) (env other : Setting) (memory : List ℕ) (name back : ℕ → ℕ)
    → is_symmetric rule ≡ true → IsRenaming z.nodes name back → env.coin ≡ other.coin
    → ((j : ℕ) → j < z.nodes → message_from z env j ≡ message_from z other (name j))
    → pulse rule z env memory ≡ pulse rule z other memory
pulse_renamed rule z env other memory name back ok is coin mail =
    pulse_alike rule z env other memory ok (renamed_alike z env other name back is coin mail)

-- ---- what is sent

assigned_sent : (target : Target) (v : ℕ) (u : NodeState) → (assigned target v u).sent ≡ u.sent
assigned_sent (ToLocal k) v u = refl
assigned_sent (ToWord k) v u = refl

all_assigned_sent : (a : Assignment) (z : Sizes) (env : Setting) (J : List ℕ) (u : NodeState)
    → (all_assigned a z env J u).sent ≡ u.sent
all_assigned_sent (One target e) z env J u = assigned_sent target (value e z env J u) u
all_assigned_sent (Also' p front target e) z env J u =
    assigned_sent target (value e z env J u) (all_assigned front z env J u) ∙ all_assigned_sent front z env J u

sent_within : (n v j : ℕ) (u : NodeState) → j < n → get (sent_below n v u).sent j ≡ Some v
sent_within zero v j u less = absurd (omega (arith, less))
sent_within (suc n) v j u less = elim (cases_eq j n) [
  | inl same ↦ ap (get (sent_below (suc n) v u).sent) same ∙ put_same (sent_below n v u).sent n v
  | inr other ↦ put_other (sent_below n v u).sent n v j other ∙ sent_within n v j u (omega arith)
]

sent_past : (n v j : ℕ) (u : NodeState) → n ≤ j → get (sent_below n v u).sent j ≡ get u.sent j
sent_past zero v j u le = refl
sent_past (suc n) v j u le =
    put_other (sent_below n v u).sent n v j (λ same. omega (arith, same)) ∙ sent_past n v j u (omega arith)

same_to_all : (n : ℕ) (a b : FinMap nat_cmp ℕ) → a ≡ b → IsToAll n b → IsToAll n a
same_to_all n a b e (number, is) = (
  number,
  record {
    each = λ j less. ap (λ (m : FinMap nat_cmp ℕ). get m j) e ∙ is.each j less;
    no_other = λ j le. ap (λ (m : FinMap nat_cmp ℕ). get m j) e ∙ is.no_other j le;
  },
)

chosen_to_all : (n : ℕ) (t : Bool) (a b : NodeState) → IsToAll n a.sent → IsToAll n b.sent
    → IsToAll n (if t then a else b).sent
chosen_to_all n true a b f g = f
chosen_to_all n false a b f g = g

after_to_all : (b : Statement) (z : Sizes) (env : Setting) (d : ℕ) (u : NodeState) → is_symmetric b ≡ true
    → IsToAll z.nodes u.sent → IsToAll z.nodes (after b z env d [] u).sent
after_to_all Nothing z env d u ok all = all
after_to_all (Then' p a q b) z env d u ok all =
    let both = and_parts (is_symmetric a) (is_symmetric b) ok in
    after_to_all b z env d (after a z env d [] u) both.1 (after_to_all a z env d u both.0 all)
after_to_all (Let' e p rest) z env d u ok all =
    let both = and_parts (is_symmetric_term e 0) (is_symmetric rest) ok in
    after_to_all rest z env (d + 1) (with_local d (value e z env [] u) u) both.1 all
after_to_all (Assign a) z env d u ok all =
    same_to_all z.nodes (all_assigned a z env [] u).sent u.sent (all_assigned_sent a z env [] u) all
after_to_all (If' t p a q b) z env d u ok all =
    let both = and_parts (is_symmetric_term t 0 && is_symmetric a) (is_symmetric b) ok in
    let front = and_parts (is_symmetric_term t 0) (is_symmetric a) both.0 in
    chosen_to_all z.nodes (truth (value t z env [] u)) (after a z env d [] u) (after b z env d [] u)
    (after_to_all a z env d u front.1 all) (after_to_all b z env d u both.1 all)
after_to_all (For' p body) z env d u ok all = no ok
after_to_all (SendAll e) z env d u ok all = (
  Some (value e z env [] u),
  record {
    each = λ j less. sent_within z.nodes (value e z env [] u) j u less;
    no_other = λ j le. sent_past z.nodes (value e z env [] u) j u le ∙ all.1.no_other j le;
  },
)
after_to_all (SendTo e k) z env d u ok all = no ok

pub pulse_to_all : (rule : Statement) (z : Sizes) (env : Setting) (memory : List ℕ) → is_symmetric rule ≡ true
    → IsToAll z.nodes (pulse rule z env memory).sent
pulse_to_all rule z env memory ok =
    after_to_all rule z env 0 (initial_state memory) ok
    (None, record { each = λ j less. get-empty nat_cmp j; no_other = λ j le. get-empty nat_cmp j })
