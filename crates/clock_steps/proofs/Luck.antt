-- The clock may stabilise: after a pulse all marked clocks are one, with coins 0 they advance until all are 0, and then
-- coins 1 make all of them 1.
use Rattle.std.proofs.Common.{◌≡◌, ◌⊎◌, inl, inr, ℕ, zero, suc, ◌+◌, ◌-◌, ◌%◌, ◌<◌, ◌≤◌, ◌==◌, nat_lt, not, ◌&&◌, Bool, true, false, cond, refl, sym, ap, ap₂, ◌∙◌, subst, arith}
use Rattle.std.specs.Prelude.{IsTrue}
use Rattle.std.proofs.Math.Nat.{mod-eq_of_lt, mod-lt, mod_self}
use Rattle.std.proofs.lemmas.Bool.{and_parts, and_from, eqb-true, eq-eqb, ne_eqb, both_ways, cases_eq}
use Rattle.node_env.specs.Env.{Setting}
use Rattle.clock_nodes.specs.Rule.{pair_from}
use Rattle.rule_syntax.specs.declared.syntax.Sizes.{Sizes}
use Rattle.rule_syntax.specs.declared.syntax.Statement.{Statement}
use Rattle.rule_meaning.specs.Meaning.{word_at}
use Rattle.rule_text.specs.Forms.{statement_form}
use Rattle.clock_rule.specs.Clock.{clock_statement}
use Rattle.quorums.specs.Counts.{SomeNode, HasFewFaults}
use Rattle.rule_steps.specs.Steps.{Between, EachCorrect, EachTwo, AreSmall, IsRuleRun}
use Rattle.rule_steps.proofs.Runs.{becomes_one, between_at}
use Rattle.clock_steps.specs.Claims.{is_clock_size, node_clock, mark_in, common}
use Rattle.clock_steps.proofs.Pulse.{first_let, second_let, pair_of, node_after, pair_fits, becomes, clock_after, mark_after}
use Rattle.clock_steps.proofs.Steps.{Bounds, bounds_of, same_clock, quorum_heard, let_is, advanced, common_from, next_of_mod}

-- ---- the pair of a node

advanced_cases : (modulus v k c : ℕ) → 2 ≤ modulus → c < 2
    → (advanced modulus v k c ≡ (0, 0)) ⊎ (advanced modulus v k c ≡ ((v + 1) % modulus, 1))
advanced_cases modulus (suc v) k c least bit =
    inr (ap (λ (b : Bool). cond {A = ℕ × ℕ} (not b) ((suc v + 1) % modulus, 1) (cond (not (k == 0)) (1, 1) (c, c)))
    (ne_eqb (suc v) 0 (λ e. omega (arith, e))))
advanced_cases modulus zero (suc k) c least bit =
    inr (ap (λ (b : Bool). cond {A = ℕ × ℕ} (not b) (1, 1) (c, c)) (ne_eqb (suc k) 0 (λ e. omega (arith, e)))
    ∙ ap (λ (y : ℕ). (y, 1)) (sym (mod-eq_of_lt (omega (arith, least)))))
advanced_cases modulus zero zero zero least bit = inl refl
advanced_cases modulus zero zero (suc zero) least bit =
    inr (ap (λ (y : ℕ). (y, 1)) (sym (mod-eq_of_lt (omega (arith, least)))))
advanced_cases modulus zero zero (suc (suc c)) least bit = absurd (omega (arith, bit))

-- no quorum and (0, 0), coin 0 and (0, 0), or a quorum and the next clock with the mark
pub pair_cases : (quorum modulus s v k c : ℕ) → 2 ≤ modulus → c < 2
    → (pair_from quorum modulus s v k c ≡ (0, 0))
    ⊎ ((nat_lt s quorum ≡ false) × (pair_from quorum modulus s v k c ≡ ((v + 1) % modulus, 1)))
pair_cases quorum modulus s v k c least bit = by (nat_lt s quorum) refl (advanced_cases modulus v k c least bit)
  where
    by : (a : Bool) → nat_lt s quorum ≡ a
        → (advanced modulus v k c ≡ (0, 0)) ⊎ (advanced modulus v k c ≡ ((v + 1) % modulus, 1))
        → (cond {A = ℕ × ℕ} a (0, 0) (advanced modulus v k c) ≡ (0, 0))
        ⊎ ((nat_lt s quorum ≡ false) × (cond {A = ℕ × ℕ} a (0, 0) (advanced modulus v k c) ≡ ((v + 1) % modulus, 1)))
    by true e h = inl refl
    by false e (inl h) = inl h
    by false e (inr h) = inr (e, h)

pub nothing_advances : (quorum modulus s : ℕ) → pair_from quorum modulus s 0 0 0 ≡ (0, 0)
nothing_advances quorum modulus s = by (nat_lt s quorum)
  where
    by : (a : Bool) → cond {A = ℕ × ℕ} a (0, 0) (0, 0) ≡ (0, 0)
    by true = refl
    by false = refl

pub tossed : (quorum modulus s k : ℕ) → nat_lt s quorum ≡ false → pair_from quorum modulus s 0 k 1 ≡ (1, 1)
tossed quorum modulus s k many =
    ap (λ (b : Bool). cond {A = ℕ × ℕ} b (0, 0) (advanced modulus 0 k 1)) many ∙ by (not (k == 0))
  where
    by : (b : Bool) → cond {A = ℕ × ℕ} b (1, 1) (1, 1) ≡ (1, 1)
    by true = refl
    by false = refl

-- a node that has and sent this pair
pub record Has (pair : ℕ × ℕ) (p : Between) : Type 0 where
  pub clock : node_clock p ≡ pair.0
  pub mark : mark_in p ≡ pair.1
  pub sent : p.sent ≡ pair.0

-- unmarked 0, or the marked clock c
abbrev pub Low : ℕ → Between → Type 0
Low c p = Has (0, 0) p ⊎ Has (c, 1) p

pub from_pair : (z : Sizes) (env : Setting) (p : Between) (v k c : ℕ) → Has (v, k) p → v < z.modulus → env.coin ≡ c
    → pair_of z env p.memory ≡ pair_from (z.nodes - z.faults) z.modulus (second_let z env v) v k c
from_pair z env p v k c has below coin =
    let q = z.nodes - z.faults in
    let m = p.memory in
    ap (λ (x : ℕ). pair_from q z.modulus (second_let z env x) x (word_at 1 m) env.coin)
    (let_is z.modulus v m has.clock below)
    ∙ ap₂ (λ (x y : ℕ). pair_from q z.modulus (second_let z env v) v x y) has.mark coin

-- ---- a choice of the marked clock

pub decide : (n : ℕ) (a : ℕ → Bool) → SomeNode n (λ w. IsTrue (a w)) ⊎ ((j : ℕ) → j < n → a j ≡ false)
decide zero a = inr (λ j lt. absurd (omega (arith, lt)))
decide (suc n) a = by (a n) refl (decide n a)
  where
    by : (b : Bool) → a n ≡ b → SomeNode n (λ w. IsTrue (a w)) ⊎ ((j : ℕ) → j < n → a j ≡ false)
        → SomeNode (suc n) (λ w. IsTrue (a w)) ⊎ ((j : ℕ) → j < suc n → a j ≡ false)
    by true e h = inl (n, omega arith, e)
    by false e (inl w) = inl (w.0, omega (arith, w.1), w.2)
    by false e (inr h) = inr (λ j lt. elim (cases_eq j n) [
      | inl same ↦ ap a same ∙ e
      | inr other ↦ h j (omega (arith, lt, other))
    ])

abbrev pub marked : (ℕ → Bool) → (ℕ → Between) → ℕ → Bool
marked correct one j = correct j && (mark_in (one j) == 1)

abbrev pub Choice : ℕ → (ℕ → Bool) → (ℕ → Between) → Type 0
Choice n correct one =
    SomeNode n (λ w. IsTrue (marked correct one w)) ⊎ ((j : ℕ) → j < n → marked correct one j ≡ false)

abbrev pub picked : (n : ℕ) (correct : ℕ → Bool) (one : ℕ → Between) → Choice n correct one → ℕ
picked n correct one (inl w) = node_clock (one w.0)
picked n correct one (inr none) = 0

abbrev pub clock_picked : ℕ → (ℕ → Bool) → (ℕ → Between) → ℕ
clock_picked n correct one = picked n correct one (decide n (marked correct one))

-- ---- a run

module _ (rule : Statement) (e : statement_form rule ≡ clock_statement) (z : Sizes) (correct : ℕ → Bool)
    (bounds : Bounds z) (few : HasFewFaults z.nodes z.faults correct) (env : ℕ → ℕ → Setting)
    (nodes : ℕ → ℕ → Between) (run : IsRuleRun rule z correct env nodes) where
  has_pair : (k : ℕ) → EachCorrect z.nodes correct (λ i. Has (pair_of z (env k i) (nodes k i).memory) (nodes (suc k) i))
  has_pair k i lt is =
      let old = nodes k i in
      let at = env k i in
      let between = between_at rule z correct env nodes k run i lt is in
      let coin = (run.sees k i lt is).coin in
      let same : node_after z at old ≡ nodes (suc k) i =
      becomes_one rule z at old (node_after z at old) (nodes (suc k) i) i lt
      (becomes z at old bounds.serves between coin rule e) (run.becomes k i lt is) in
      subst (Has (pair_of z at old.memory)) same (record {
        clock = clock_after z at old bounds.serves between coin;
        mark = mark_after z at old bounds.serves between coin;
        sent = refl;
      })

  low_next : (k c : ℕ) → c < z.modulus → EachCorrect z.nodes correct (λ i. (env k i).coin ≡ 0)
      → EachCorrect z.nodes correct (λ i. Low c (nodes k i))
      → EachCorrect z.nodes correct (λ i. Low ((c + 1) % z.modulus) (nodes (suc k) i))
  low_next k c below coins low i lt is = by (low i lt is)
    where
      by : Low c (nodes k i) → Low ((c + 1) % z.modulus) (nodes (suc k) i)
      by (inl has) =
          let e0 = from_pair z (env k i) (nodes k i) 0 0 0 has (omega (arith, below)) (coins i lt is)
          ∙ nothing_advances (z.nodes - z.faults) z.modulus (second_let z (env k i) 0) in
          inl (subst (λ (x : ℕ × ℕ). Has x (nodes (suc k) i)) e0 (has_pair k i lt is))
      by (inr has) =
          let e1 = from_pair z (env k i) (nodes k i) c 1 0 has below (coins i lt is) in
          elim (pair_cases (z.nodes - z.faults) z.modulus (second_let z (env k i) c) c 1 0 bounds.serves.least
          (omega arith)) [
            | inl h ↦ inl (subst (λ (x : ℕ × ℕ). Has x (nodes (suc k) i)) (e1 ∙ h) (has_pair k i lt is))
            | inr h ↦ inr (subst (λ (x : ℕ × ℕ). Has x (nodes (suc k) i)) (e1 ∙ h.1) (has_pair k i lt is))
          ]

  pub lows : (c k : ℕ) → c < z.modulus
      → ((j : ℕ) → j < k → EachCorrect z.nodes correct (λ i. (env (suc j) i).coin ≡ 0))
      → EachCorrect z.nodes correct (λ i. Low c (nodes 1 i))
      → EachCorrect z.nodes correct (λ i. Low ((c + k) % z.modulus) (nodes (suc k) i))
  lows c zero below coins low =
      let same : c ≡ (c + 0) % z.modulus = sym (ap (λ (x : ℕ). x % z.modulus) (omega arith) ∙ mod-eq_of_lt below) in
      λ i lt is. subst (λ (x : ℕ). Low x (nodes 1 i)) same (low i lt is)
  lows c (suc k) below coins low =
      let before = lows c k below (λ j lt. coins j (omega (arith, lt))) low in
      let next = low_next (suc k) ((c + k) % z.modulus) (mod-lt (c + k) (omega (arith, below))) (coins k (omega arith))
      before in
      let same : ((c + k) % z.modulus + 1) % z.modulus ≡ (c + suc k) % z.modulus =
      next_of_mod (c + k) z.modulus ∙ ap (λ (x : ℕ). x % z.modulus) (omega arith) in
      λ i lt is. subst (λ (x : ℕ). Low x (nodes (suc (suc k)) i)) same (next i lt is)

  pub common_one : (k : ℕ) → EachCorrect z.nodes correct (λ i. (env k i).coin ≡ 1)
      → EachCorrect z.nodes correct (λ i. Low 0 (nodes k i)) → EachTwo z.nodes correct (common 1) (nodes (suc k))
  common_one k coins low p lt is q lt_q is_q =
      let has : Has (1, 1) (nodes (suc k) p) =
      subst (λ (x : ℕ × ℕ). Has x (nodes (suc k) p)) (pair_is (low p lt is)) (has_pair k p lt is) in
      common_from 1 (nodes (suc k) p) (nodes (suc k) q) has.clock has.mark has.sent
    where
      sent_zero : (b : Between) → Low 0 b → b.sent ≡ 0
      sent_zero b (inl has) = has.sent
      sent_zero b (inr has) = has.sent

      many : nat_lt (second_let z (env k p) 0) (z.nodes - z.faults) ≡ false
      many = quorum_heard z correct (nodes k) p 0 (env k p) bounds few (run.sees k p lt is)
          (λ j l s. sent_zero (nodes k j) (low j l s))

      pair_is : Low 0 (nodes k p) → pair_of z (env k p) (nodes k p).memory ≡ (1, 1)
      pair_is (inl has) =
          from_pair z (env k p) (nodes k p) 0 0 1 has (omega (arith, bounds.serves.least)) (coins p lt is)
          ∙ tossed (z.nodes - z.faults) z.modulus (second_let z (env k p) 0) 0 many
      pair_is (inr has) =
          from_pair z (env k p) (nodes k p) 0 1 1 has (omega (arith, bounds.serves.least)) (coins p lt is)
          ∙ tossed (z.nodes - z.faults) z.modulus (second_let z (env k p) 0) 1 many

  -- after the first pulse, by its quorum if it has one
  abbrev heard_first : ℕ → ℕ
  heard_first i = first_let z.modulus (nodes 0 i).memory

  outcome : EachCorrect z.nodes correct (λ i. Has (0, 0) (nodes 1 i)
      ⊎ ((nat_lt (second_let z (env 0 i) (heard_first i)) (z.nodes - z.faults) ≡ false)
      × Has ((heard_first i + 1) % z.modulus, 1) (nodes 1 i)))
  outcome i lt is =
      let has = has_pair 0 i lt is in
      elim (pair_cases (z.nodes - z.faults) z.modulus (second_let z (env 0 i) (heard_first i)) (heard_first i)
      (word_at 1 (nodes 0 i).memory) (env 0 i).coin bounds.serves.least (run.sees 0 i lt is).coin) [
        | inl h ↦ inl (subst (λ (x : ℕ × ℕ). Has x (nodes 1 i)) h has)
        | inr h ↦ inr (h.0, subst (λ (x : ℕ × ℕ). Has x (nodes 1 i)) h.1 has)
      ]

  picked_below : (d : Choice z.nodes correct (nodes 1)) → picked z.nodes correct (nodes 1) d < z.modulus
  picked_below (inl w) =
      let is = (and_parts _ _ w.2).0 in
      let fits = pair_fits z (env 0 w.0) (nodes 0 w.0) bounds.serves (run.start w.0 w.1 is)
      (run.sees 0 w.0 w.1 is).coin in
      omega (arith, fits.0, (has_pair 0 w.0 w.1 is).clock)
  picked_below (inr none) = omega (arith, bounds.serves.least)

  picked_low : (d : Choice z.nodes correct (nodes 1))
      → EachCorrect z.nodes correct (λ i. Low (picked z.nodes correct (nodes 1) d) (nodes 1 i))
  picked_low (inr none) i lt is = by (outcome i lt is)
    where
      by : Has (0, 0) (nodes 1 i)
          ⊎ ((nat_lt (second_let z (env 0 i) (heard_first i)) (z.nodes - z.faults) ≡ false)
          × Has ((heard_first i + 1) % z.modulus, 1) (nodes 1 i)) → Low 0 (nodes 1 i)
      by (inl has) = inl has
      by (inr has) = absurd (both_ways (marked correct (nodes 1) i) (none i lt)
          (and_from (correct i) (mark_in (nodes 1 i) == 1) is (eq-eqb (mark_in (nodes 1 i)) 1 has.1.mark)))
  picked_low (inl w) i lt is = by (outcome i lt is) (outcome w.0 w.1 w_is)
    where
      w_is : IsTrue (correct w.0)
      w_is = (and_parts (correct w.0) (mark_in (nodes 1 w.0) == 1) w.2).0

      w_marked : mark_in (nodes 1 w.0) ≡ 1
      w_marked = eqb-true (mark_in (nodes 1 w.0)) 1 (and_parts (correct w.0) (mark_in (nodes 1 w.0) == 1) w.2).1

      by : Has (0, 0) (nodes 1 i)
          ⊎ ((nat_lt (second_let z (env 0 i) (heard_first i)) (z.nodes - z.faults) ≡ false)
          × Has ((heard_first i + 1) % z.modulus, 1) (nodes 1 i))
          → Has (0, 0) (nodes 1 w.0)
          ⊎ ((nat_lt (second_let z (env 0 w.0) (heard_first w.0)) (z.nodes - z.faults) ≡ false)
          × Has ((heard_first w.0 + 1) % z.modulus, 1) (nodes 1 w.0)) → Low (node_clock (nodes 1 w.0)) (nodes 1 i)
      by (inl has) other = inl has
      by (inr has) (inl other) = absurd (omega (arith, other.mark, w_marked))
      by (inr has) (inr other) =
          let same : heard_first i ≡ heard_first w.0 =
          same_clock z correct (nodes 0) i w.0 (heard_first i) (heard_first w.0) (env 0 i) (env 0 w.0) bounds few
          (run.sees 0 i lt is) (run.sees 0 w.0 w.1 w_is) has.0 other.0 in
          let clock : (heard_first i + 1) % z.modulus ≡ node_clock (nodes 1 w.0) =
          ap (λ (x : ℕ). (x + 1) % z.modulus) same ∙ sym other.1.clock in
          inr (subst (λ (x : ℕ). Has (x, 1) (nodes 1 i)) clock has.1)

  pub stabilised : ((k : ℕ) → k < z.modulus - clock_picked z.nodes correct (nodes 1)
      → EachCorrect z.nodes correct (λ i. (env (suc k) i).coin ≡ 0))
      → EachCorrect z.nodes correct (λ i. (env (suc (z.modulus - clock_picked z.nodes correct (nodes 1))) i).coin ≡ 1)
      → EachTwo z.nodes correct (common 1) (nodes (suc (suc (z.modulus - clock_picked z.nodes correct (nodes 1)))))
  stabilised zeros ones =
      let d = decide z.nodes (marked correct (nodes 1)) in
      let c = clock_picked z.nodes correct (nodes 1) in
      let below : c < z.modulus = picked_below d in
      let low = lows c (z.modulus - c) below zeros (picked_low d) in
      let whole : (c + (z.modulus - c)) % z.modulus ≡ 0 =
      ap (λ (x : ℕ). x % z.modulus) (omega (arith, below)) ∙ mod_self z.modulus in
      common_one (suc (z.modulus - c)) ones
      (λ i lt is. subst (λ (x : ℕ). Low x (nodes (suc (z.modulus - c)) i)) whole (low i lt is))

pub may_stabilise : (rule : Statement) (z : Sizes) (correct : ℕ → Bool) → statement_form rule ≡ clock_statement
    → AreSmall z → IsTrue (is_clock_size z) → HasFewFaults z.nodes z.faults correct
    → (zeros : (ℕ → Between) → ℕ) × ((one : ℕ → Between) → zeros one ≤ z.modulus)
    × ((env : ℕ → ℕ → Setting) (nodes : ℕ → ℕ → Between) → IsRuleRun rule z correct env nodes
    → ((k : ℕ) → k < zeros (nodes 1) → EachCorrect z.nodes correct (λ i. (env (suc k) i).coin ≡ 0))
    → EachCorrect z.nodes correct (λ i. (env (suc (zeros (nodes 1))) i).coin ≡ 1)
    → EachTwo z.nodes correct (common 1) (nodes (suc (suc (zeros (nodes 1))))))
may_stabilise rule z correct e small size few = (
  λ one. z.modulus - clock_picked z.nodes correct one,
  λ one. omega arith,
  λ env nodes run zeros ones.
      stabilised rule e z correct (bounds_of z small size) few env nodes run zeros ones,
)
