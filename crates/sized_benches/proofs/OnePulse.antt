-- One pulse of the clock, from nodes of which each sent one number to all.
use Rattle.std.proofs.Common.{◌≡◌, ◌⊎◌, inl, inr, ℕ, ◌+◌, ◌-◌, ◌%◌, ◌<◌, ◌==◌, nat_lt, Bool, false, refl, sym, ap, ◌∙◌, subst, arith}
use Rattle.std.specs.Prelude.{IsTrue}
use Rattle.std.proofs.lemmas.Bool.{and_parts, and_from, eqb-true, eq-eqb, both_ways}
use Rattle.node_env.specs.Env.{Setting}
use Rattle.rule_syntax.specs.declared.syntax.Sizes.{Sizes}
use Rattle.rule_meaning.specs.Meaning.{word_at}
use Rattle.quorums.specs.Counts.{HasFewFaults}
use Rattle.rule_steps.specs.Steps.{Between, IsBetween, Sees, EachCorrect}
use Rattle.clock_steps.specs.Claims.{node_clock, mark_in}
use Rattle.clock_steps.proofs.Pulse.{first_let, second_let, pair_of, node_after, pair_fits, clock_after, mark_after}
use Rattle.clock_steps.proofs.Steps.{Bounds, same_clock, quorum_heard, alike, alike_pairs, pair_next}
use Rattle.clock_steps.proofs.Luck.{pair_cases, nothing_advances, tossed, from_pair, Has, Low, decide, marked, Choice, picked}

module _ (z : Sizes) (correct : ℕ → Bool) (bounds : Bounds z) (few : HasFewFaults z.nodes z.faults correct)
    (env : ℕ → Setting) (old new : ℕ → Between)
    (between : EachCorrect z.nodes correct (λ i. IsBetween z (old i)))
    (sees : EachCorrect z.nodes correct (λ i. Sees z correct old i (env i)))
    (after : EachCorrect z.nodes correct (λ i. node_after z (env i) (old i) ≡ new i)) where
  has_pair : EachCorrect z.nodes correct (λ i. Has (pair_of z (env i) (old i).memory) (new i))
  has_pair i lt is =
      let coin = (sees i lt is).coin in
      subst (Has (pair_of z (env i) (old i).memory)) (after i lt is) (record {
        clock = clock_after z (env i) (old i) bounds.serves (between i lt is) coin;
        mark = mark_after z (env i) (old i) bounds.serves (between i lt is) coin;
        sent = refl;
      })

  pub small : EachCorrect z.nodes correct (λ i. node_clock (new i) < z.modulus)
  small i lt is =
      let fits = pair_fits z (env i) (old i) bounds.serves (between i lt is) (sees i lt is).coin in
      omega (arith, fits.0, (has_pair i lt is).clock)

  -- ---- agreement

  abbrev heard : ℕ → ℕ
  heard i = first_let z.modulus (old i).memory

  pub agree : (p q : ℕ) → p < z.nodes → IsTrue (correct p) → q < z.nodes → IsTrue (correct q)
      → IsTrue (alike (node_clock (new p)) (node_clock (new q)))
  agree p q lt_p is_p lt_q is_q =
      let pairs = alike_pairs (z.nodes - z.faults) z.modulus (second_let z (env p) (heard p))
      (second_let z (env q) (heard q)) (heard p) (heard q) (word_at 1 (old p).memory) (word_at 1 (old q).memory)
      (env p).coin (env q).coin (sees p lt_p is_p).coin (sees q lt_q is_q).coin
      (λ many_p many_q. same_clock z correct old p q (heard p) (heard q) (env p) (env q) bounds few
      (sees p lt_p is_p) (sees q lt_q is_q) many_p many_q) in
      subst (λ (c : ℕ). IsTrue (alike c (node_clock (new q)))) (sym (has_pair p lt_p is_p).clock)
      (subst (λ (c : ℕ). IsTrue (alike (pair_of z (env p) (old p).memory).0 c)) (sym (has_pair q lt_q is_q).clock) pairs)

  -- ---- a common clock

  pub common_next : (c : ℕ) → c < z.modulus → EachCorrect z.nodes correct (λ i. Has (c, 1) (old i))
      → EachCorrect z.nodes correct (λ i. Has ((c + 1) % z.modulus, 1) (new i))
  common_next c below all i lt is =
      let many = quorum_heard z correct old i c (env i) bounds few (sees i lt is) (λ j l s. (all j l s).sent) in
      let pair = from_pair z (env i) (old i) c 1 (env i).coin (all i lt is) below refl
      ∙ pair_next (z.nodes - z.faults) z.modulus (second_let z (env i) c) c 1 (env i).coin bounds.serves.least many refl in
      subst (λ (x : ℕ × ℕ). Has x (new i)) pair (has_pair i lt is)

  -- ---- low clocks

  pub low_next : (c : ℕ) → c < z.modulus → EachCorrect z.nodes correct (λ i. (env i).coin ≡ 0)
      → EachCorrect z.nodes correct (λ i. Low c (old i))
      → EachCorrect z.nodes correct (λ i. Low ((c + 1) % z.modulus) (new i))
  low_next c below coins low i lt is = by (low i lt is)
    where
      by : Low c (old i) → Low ((c + 1) % z.modulus) (new i)
      by (inl has) =
          let e0 = from_pair z (env i) (old i) 0 0 0 has (omega (arith, below)) (coins i lt is)
          ∙ nothing_advances (z.nodes - z.faults) z.modulus (second_let z (env i) 0) in
          inl (subst (λ (x : ℕ × ℕ). Has x (new i)) e0 (has_pair i lt is))
      by (inr has) =
          let e1 = from_pair z (env i) (old i) c 1 0 has below (coins i lt is) in
          elim (pair_cases (z.nodes - z.faults) z.modulus (second_let z (env i) c) c 1 0 bounds.serves.least
          (omega arith)) [
            | inl h ↦ inl (subst (λ (x : ℕ × ℕ). Has x (new i)) (e1 ∙ h) (has_pair i lt is))
            | inr h ↦ inr (subst (λ (x : ℕ × ℕ). Has x (new i)) (e1 ∙ h.1) (has_pair i lt is))
          ]

  pub common_one : EachCorrect z.nodes correct (λ i. (env i).coin ≡ 1)
      → EachCorrect z.nodes correct (λ i. Low 0 (old i)) → EachCorrect z.nodes correct (λ i. Has (1, 1) (new i))
  common_one coins low p lt is = subst (λ (x : ℕ × ℕ). Has x (new p)) (pair_is (low p lt is)) (has_pair p lt is)
    where
      sent_zero : (b : Between) → Low 0 b → b.sent ≡ 0
      sent_zero b (inl has) = has.sent
      sent_zero b (inr has) = has.sent

      many : nat_lt (second_let z (env p) 0) (z.nodes - z.faults) ≡ false
      many = quorum_heard z correct old p 0 (env p) bounds few (sees p lt is)
          (λ j l s. sent_zero (old j) (low j l s))

      pair_is : Low 0 (old p) → pair_of z (env p) (old p).memory ≡ (1, 1)
      pair_is (inl has) =
          from_pair z (env p) (old p) 0 0 1 has (omega (arith, bounds.serves.least)) (coins p lt is)
          ∙ tossed (z.nodes - z.faults) z.modulus (second_let z (env p) 0) 0 many
      pair_is (inr has) =
          from_pair z (env p) (old p) 0 1 1 has (omega (arith, bounds.serves.least)) (coins p lt is)
          ∙ tossed (z.nodes - z.faults) z.modulus (second_let z (env p) 0) 1 many

  -- ---- the marked clocks are one

  abbrev Out : ℕ → Type 0
  Out i = Has (0, 0) (new i)
      ⊎ ((nat_lt (second_let z (env i) (heard i)) (z.nodes - z.faults) ≡ false)
      × Has ((heard i + 1) % z.modulus, 1) (new i))

  outcome : EachCorrect z.nodes correct (λ i. Out i)
  outcome i lt is =
      elim (pair_cases (z.nodes - z.faults) z.modulus (second_let z (env i) (heard i)) (heard i)
      (word_at 1 (old i).memory) (env i).coin bounds.serves.least (sees i lt is).coin) [
        | inl h ↦ inl (subst (λ (x : ℕ × ℕ). Has x (new i)) h (has_pair i lt is))
        | inr h ↦ inr (h.0, subst (λ (x : ℕ × ℕ). Has x (new i)) h.1 (has_pair i lt is))
      ]

  picked_below : (d : Choice z.nodes correct new) → picked z.nodes correct new d < z.modulus
  picked_below (inl w) =
      let is = (and_parts (correct w.0) (mark_in (new w.0) == 1) w.2).0 in
      let fits = pair_fits z (env w.0) (old w.0) bounds.serves (between w.0 w.1 is) (sees w.0 w.1 is).coin in
      omega (arith, fits.0, (has_pair w.0 w.1 is).clock)
  picked_below (inr none) = omega (arith, bounds.serves.least)

  picked_low : (d : Choice z.nodes correct new)
      → EachCorrect z.nodes correct (λ i. Low (picked z.nodes correct new d) (new i))
  picked_low (inr none) i lt is = by (outcome i lt is)
    where
      by : Out i → Low 0 (new i)
      by (inl has) = inl has
      by (inr has) = absurd (both_ways (marked correct new i) (none i lt)
          (and_from (correct i) (mark_in (new i) == 1) is (eq-eqb (mark_in (new i)) 1 has.1.mark)))
  picked_low (inl w) i lt is = by (outcome i lt is) (outcome w.0 w.1 w_is)
    where
      w_is : IsTrue (correct w.0)
      w_is = (and_parts (correct w.0) (mark_in (new w.0) == 1) w.2).0

      w_marked : mark_in (new w.0) ≡ 1
      w_marked = eqb-true (mark_in (new w.0)) 1 (and_parts (correct w.0) (mark_in (new w.0) == 1) w.2).1

      by : Out i → Out w.0 → Low (node_clock (new w.0)) (new i)
      by (inl has) other = inl has
      by (inr has) (inl other) = absurd (omega (arith, other.mark, w_marked))
      by (inr has) (inr other) =
          let same : heard i ≡ heard w.0 =
          same_clock z correct old i w.0 (heard i) (heard w.0) (env i) (env w.0) bounds few
          (sees i lt is) (sees w.0 w.1 w_is) has.0 other.0 in
          let clock : (heard i + 1) % z.modulus ≡ node_clock (new w.0) =
          ap (λ (x : ℕ). (x + 1) % z.modulus) same ∙ sym other.1.clock in
          inr (subst (λ (x : ℕ). Has (x, 1) (new i)) clock has.1)

  pub some_low : (c : ℕ) × (c < z.modulus) × EachCorrect z.nodes correct (λ i. Low c (new i))
  some_low =
      let d = decide z.nodes (marked correct new) in
      (picked z.nodes correct new d, picked_below d, picked_low d)
