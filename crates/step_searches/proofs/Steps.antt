-- A search that finds nothing proves a step.
use Rattle.std.proofs.Common.{◌≡◌, ℕ, zero, suc, ◌+◌, ◌*◌, ◌^◌, ◌<◌, ◌≤◌, Bool, true, false, Option, Some, None, List, refl, sym, ap, ◌∙◌, arith, inl, inr, subst}
use Rattle.std.specs.Prelude.{IsTrue, unwrap_or}
use Rattle.std.specs.FinMap.{get}
use Rattle.std.proofs.lemmas.Bool.{leb-true, eqb-true}
use Rattle.node_env.specs.Env.{Setting}
use Rattle.clock_nodes.specs.Ends.{IsSentTo}
use Rattle.rule_syntax.specs.declared.syntax.Sizes.{Sizes}
use Rattle.rule_syntax.specs.declared.syntax.Statement.{Statement}
use Rattle.rule_meaning.specs.Meaning.{word_at, pulse}
use Rattle.quorums.specs.Counts.{HasFewFaults}
use Rattle.rule_steps.specs.Steps as steps
use Rattle.rule_steps.specs.Steps.{Between, IsBetween, Sees, NodeBecomes, EachCorrect, EachTwo, Stepped, AreSmall}
use Rattle.rule_paths.specs.Relations.{Expression, Variable, Numbers, AgreeBelow, IsSettled, Settles, RelationHolds, CanHold}
use Rattle.rule_paths.specs.Covered.{RuleIsCovered, always_sends}
use Rattle.rule_paths.specs.Stores.{CanSee, IsNode, StoreSays, AllCounted, IsSent}
use Rattle.rule_paths.specs.Paths.{Place}
use Rattle.rule_paths.proofs.Fresh.{agree_self, agree_then, state_more, counted_more}
use Rattle.rule_paths.proofs.Terms.{either_way}
use Rattle.rule_paths.proofs.Blocks.{pulse_passes, sent_more}
use Rattle.rule_paths.proofs.Kept.{left}
use Rattle.step_searches.specs.declared.claims.Coins.{Coins}
use Rattle.step_searches.specs.declared.claims.Coins.TheVariants as coins
use Rattle.step_searches.specs.declared.claims.Step.{Step}
use Rattle.step_searches.specs.declared.uses.Use.{Use}
use Rattle.step_searches.specs.Claims.{meets, coins_meet, claim_of, StepIsCovered, CoinsAreCovered}
use Rattle.step_searches.specs.Views.{start_view, end_view}
use Rattle.step_searches.specs.Laws.{all_used}
use Rattle.step_searches.specs.Searches.{first_start, second_start, fresh_start, pair_of, names_are_numbers, coin_is, begun, ended_with, paths_end, second_paths, both_paths}
use Rattle.step_searches.proofs.Views.{Shows, Names, shows_more, names_more, stated_is, denied_is}
use Rattle.step_searches.proofs.Quorums.{with_node, node_below, IsPlaced, placed, placed_more, node_is, shown, Seen, seen_more, memory_small, correct_at, all_used_is}

-- ---- the variables at the beginning

abbrev base : Sizes → (ℕ → ℕ) → Numbers
base z free zero = z.nodes
base z free (suc zero) = z.faults
base z free (suc (suc zero)) = z.modulus
base z free (suc (suc (suc k))) = free k

base_names : (F : ℕ) (z : Sizes) (free : ℕ → ℕ) → Names F z free (3 + F) (base z free)
base_names F z free = record {
  sizes = record {
    nodes = λ w same. same 0 (omega arith);
    faults = λ w same. same 1 (omega arith);
    modulus = λ w same. same 2 (omega arith);
  };
  named = λ k lt w same.
      let e : 3 + k ≡ suc (suc (suc k)) = omega arith in
      same (3 + k) (omega (arith, lt)) ∙ ap (base z free) e;
}

numbers_hold : (n : ℕ) (w : Numbers) → RelationHolds w (names_are_numbers n)
numbers_hold zero w = tt
numbers_hold (suc n) w = (numbers_hold n w, omega arith)

coin_holds : (F : ℕ) (c : Coins) (z : Sizes) (free : ℕ → ℕ) (n k : ℕ) (v : Numbers) (env : Setting) → CoinsAreCovered F c
    → Names F z free n v → IsSettled n v (Variable (k + 1)) env.coin → coins_meet free c env ≡ true → Settles n v (coin_is c k)
coin_holds F coins.Any z free n k v env covered names coin e w same = tt
coin_holds F (coins.Fixed c) z free n k v env covered names coin e w same =
    let is = eqb-true env.coin c e in
    (omega (arith, is, coin w same), omega (arith, is, coin w same))
coin_holds F (coins.Named j) z free n k v env covered names coin e w same =
    let is = eqb-true env.coin (free j) e in
    (omega (arith, is, coin w same, names.named j covered w same), omega (arith, is, coin w same, names.named j covered w same))

-- ---- the end

-- a node after its pulse
abbrev after_pulse : Statement → Sizes → Setting → List ℕ → Between
after_pulse rule z env memory = record {
  memory = (pulse rule z env memory).memory;
  sent = unwrap_or (get (pulse rule z env memory).sent 0) 0;
}

some_sent : (o : Option ℕ) (x : ℕ) → o ≡ Some x → unwrap_or o 0 ≡ x
some_sent o x e = ap (λ (m : Option ℕ). unwrap_or m 0) e

ended_view : (W n : ℕ) (v : Numbers) (rule : Statement) (z : Sizes) (env : Setting) (memory : List ℕ) (to : Place) (e : Expression)
    → StoreSays W z env n v to.store (pulse rule z env memory) → IsSent n v (Some e) (pulse rule z env memory)
    → Shows W n v (end_view to.store e) (after_pulse rule z env memory)
ended_view W n v rule z env memory to e state sent = record {
  sent = λ w same. sent.1 w same ∙ sym (some_sent (get (pulse rule z env memory).sent 0) sent.0 sent.2);
  words = state.words;
}

becomes_so : (rule : Statement) (W : ℕ) (z : Sizes) (env : Setting) (old : Between) → CanSee z env → RuleIsCovered W rule
    → always_sends rule ≡ true → 4 * W ≤ z.memory → IsBetween z old
    → NodeBecomes rule z env old (after_pulse rule z env old.memory)
becomes_so rule W z env old sees covered sends room is =
    let u = pulse rule z env old.memory in
    let end = left rule W z env old.memory sees covered sends (omega (arith, room, is.length)) is.bytes in
    let number : unwrap_or (get u.sent 0) 0 ≡ end.number =
    some_sent (get u.sent 0) end.number (end.sent.each 0 (omega (arith, sees.id))) in
    record {
      memory = refl;
      sent = subst (λ (x : ℕ). IsSentTo z.nodes (λ j. Some x) u.sent) (sym number) end.sent;
      between = record {
        length = end.length ∙ is.length;
        bytes = end.bytes;
        sent = omega (arith, number, end.small);
      };
    }

can_see : (z : Sizes) (correct : ℕ → Bool) (nodes : ℕ → Between) (i : ℕ) (env : Setting) → AreSmall z → i < z.nodes
    → Sees z correct nodes i env → CanSee z env
can_see z correct nodes i env small lt sees = record {
  nodes = small.nodes;
  faults = small.faults;
  modulus = small.modulus;
  id = omega (arith, lt, sees.id);
  coin = sees.coin;
  mail = sees.mail;
}

-- ---- a step

module _ (rule : Statement) (step : Step) (uses : List Use) (rule_covered : RuleIsCovered step.words rule)
    (sends : always_sends rule ≡ true) (covered : StepIsCovered step)
    (none : (v : Numbers) → RelationHolds v (begun step) → RelationHolds v (both_paths rule step uses) → ⊥) (free : ℕ → ℕ) (z : Sizes)
    (correct : ℕ → Bool) (small : AreSmall z) (room : 4 * step.words ≤ z.memory) (few : HasFewFaults z.nodes z.faults correct)
    (env : ℕ → Setting) (old : ℕ → Between) (between : EachCorrect z.nodes correct (λ i. IsBetween z (old i)))
    (inside : EachTwo z.nodes correct (meets z free step.before) old)
    (sees : EachCorrect z.nodes correct (λ i. Sees z correct old i (env i) × IsTrue (coins_meet free step.coins (env i)))) where
  abbrev W : ℕ
  W = step.words

  abbrev F : ℕ
  F = step.names

  sees_only : EachCorrect z.nodes correct (λ i. Sees z correct old i (env i))
  sees_only i lt is = (sees i lt is).0

  can : EachCorrect z.nodes correct (λ i. CanSee z (env i))
  can i lt is = can_see z correct old i (env i) small lt (sees_only i lt is)

  abbrev next : ℕ → Between
  next i = after_pulse rule z (env i) (old i).memory

  module _ (p q : ℕ) (p_lt : p < z.nodes) (p_is : IsTrue (correct p)) (q_lt : q < z.nodes) (q_is : IsTrue (correct q)) where
    abbrev See : ℕ → Numbers → Type 0
    See n v = Seen F W step.before (first_start step) (second_start step) z free correct env old p q covered.before room few sees_only can between inside p_lt p_is q_lt q_is n v

    abbrev v1 : Numbers
    v1 = with_node (first_start step) (env p).id (env p).coin (old p).sent (old p).memory (base z free)

    abbrev v2 : Numbers
    v2 = with_node (second_start step) (env q).id (env q).coin (old q).sent (old q).memory v1

    same1 : AgreeBelow (first_start step) v1 (base z free)
    same1 = node_below (first_start step) (env p).id (env p).coin (old p).sent (old p).memory (base z free)

    same2 : AgreeBelow (second_start step) v2 v1
    same2 = node_below (second_start step) (env q).id (env q).coin (old q).sent (old q).memory v1

    at_p : IsPlaced W (first_start step) (fresh_start step) v2 (env p).id (env p).coin (old p).sent (old p).memory
    at_p = placed_more W (first_start step) (second_start step) (fresh_start step) v1 v2 (env p).id (env p).coin (old p).sent (old p).memory
        (omega arith) same2 (placed W (first_start step) (env p).id (env p).coin (old p).sent (old p).memory (base z free))

    at_q : IsPlaced W (second_start step) (fresh_start step) v2 (env q).id (env q).coin (old q).sent (old q).memory
    at_q = placed W (second_start step) (env q).id (env q).coin (old q).sent (old q).memory v1

    names : Names F z free (fresh_start step) v2
    names = names_more F z free (first_start step) (fresh_start step) (base z free) v2 (omega arith)
        (agree_then (first_start step) (second_start step) v2 v1 (base z free) (omega arith) same2 same1) (base_names F z free)

    seen : See (fresh_start step) v2
    seen = record {
      names = names;
      first = shown W (first_start step) (fresh_start step) v2 (env p).id (env p).coin (old p) at_p;
      second = shown W (second_start step) (fresh_start step) v2 (env q).id (env q).coin (old q) at_q;
    }

    words_small : (j : ℕ) → j < z.nodes → IsTrue (correct j) → (i : ℕ) → i < W → word_at i (old j).memory < 2 ^ 32
    words_small = memory_small F W step.before (first_start step) (second_start step) z free correct env old p q covered.before room few sees_only can between inside p_lt p_is q_lt q_is

    begins : Settles (fresh_start step) v2 (begun step)
    begins w same =
        let n = fresh_start step in (
          (
            (omega arith, omega (arith, names.sizes.nodes w same, small.nodes)),
            (
              (omega arith, omega (arith, names.sizes.faults w same, small.faults)),
              (omega arith, omega (arith, names.sizes.modulus w same, small.modulus)),
            ),
          ),
          (
            numbers_hold F w,
            (
              (
                node_is W (first_start step) n v2 z (env p).id (env p).coin (old p).sent (old p).memory (can p p_lt p_is).id (can p p_lt p_is).coin
                    (between p p_lt p_is).sent (words_small p p_lt p_is) names.sizes at_p w same,
                node_is W (second_start step) n v2 z (env q).id (env q).coin (old q).sent (old q).memory (can q q_lt q_is).id (can q q_lt q_is).coin
                    (between q q_lt q_is).sent (words_small q q_lt q_is) names.sizes at_q w same,
              ),
              (
                (
                  coin_holds F step.coins z free n (first_start step) v2 (env p) covered.coins names at_p.coin (sees p p_lt p_is).1 w same,
                  coin_holds F step.coins z free n (second_start step) v2 (env q) covered.coins names at_q.coin (sees q q_lt q_is).1 w same,
                ),
                (
                  stated_is F W z free n v2 (start_view (first_start step)) (start_view (first_start step)) (old p) (old p) names seen.first seen.first
                      step.before covered.before (inside p p_lt p_is p p_lt p_is) w same,
                  correct_at F W step.before (first_start step) (second_start step) z free correct env old p q covered.before room few sees_only can between inside p_lt p_is q_lt q_is
                      (second_start step) n v2 q q_lt q_is seen seen.second w same,
                ),
              ),
            ),
          ),
        )

    node_of_p : IsNode W z (env p) (fresh_start step) v2 (first_start step) (old p).memory
    node_of_p = record {
      sizes = names.sizes;
      me = at_p.me;
      coin = at_p.coin;
      words = at_p.words;
      room = let same = (between p p_lt p_is).length in omega (arith, same, room);
      bytes = (between p p_lt p_is).bytes;
    }

    node_of_q : (n : ℕ) (w : Numbers) → fresh_start step ≤ n → AgreeBelow (fresh_start step) w v2
        → IsNode W z (env q) n w (second_start step) (old q).memory
    node_of_q n w le agree =
        let at = placed_more W (second_start step) (fresh_start step) n v2 w (env q).id (env q).coin (old q).sent (old q).memory le agree at_q in
        let later = names_more F z free (fresh_start step) n v2 w le agree names in
        record {
          sizes = later.sizes;
          me = at.me;
          coin = at.coin;
          words = at.words;
          room = let same = (between q q_lt q_is).length in omega (arith, same, room);
          bytes = (between q q_lt q_is).bytes;
        }

    ends : (to end : Place) (w : Numbers) (a b : Option Expression) → fresh_start step ≤ end.next → AgreeBelow (fresh_start step) w v2
        → StoreSays W z (env p) end.next w to.store (pulse rule z (env p) (old p).memory)
        → AllCounted W z (env p) end.next w to.counts
        → StoreSays W z (env q) end.next w end.store (pulse rule z (env q) (old q).memory)
        → AllCounted W z (env q) end.next w end.counts
        → IsSent end.next w a (pulse rule z (env p) (old p).memory) → IsSent end.next w b (pulse rule z (env q) (old q).memory)
        → meets z free step.after (next p) (next q) ≡ false
        → CanHold end.next w (ended_with step uses to end a b)
    ends to end w None b le agree state_p counts_p state_q counts_q sent_p sent_q e = (w, agree_self end.next w, tt)
    ends to end w (Some a) None le agree state_p counts_p state_q counts_q sent_p sent_q e = (w, agree_self end.next w, tt)
    ends to end w (Some a) (Some b) le agree state_p counts_p state_q counts_q sent_p sent_q e =
        let laws = all_used (pair_of step) to.counts end.counts uses end.next in
        let here = seen_more F W step.before (first_start step) (second_start step) z free correct env old p q covered.before room few sees_only can between inside p_lt p_is q_lt q_is
        (fresh_start step) end.next v2 w le agree seen in
        let made = all_used_is F W step.before (first_start step) (second_start step) z free correct env old p q covered.before room few sees_only can between inside p_lt p_is q_lt q_is
        to.counts end.counts uses end.next w here counts_p counts_q in
        let x = made.fresh in
        let later = names_more F z free end.next laws.next w x made.grows made.agree here.names in
        let first = shows_more W end.next laws.next w x (end_view to.store a) (next p) made.grows made.agree
        (ended_view W end.next w rule z (env p) (old p).memory to a state_p sent_p) in
        let second = shows_more W end.next laws.next w x (end_view end.store b) (next q) made.grows made.agree
        (ended_view W end.next w rule z (env q) (old q).memory end b state_q sent_q) in (
          x,
          made.agree,
          (
            made.facts x (agree_self laws.next x),
            denied_is F W z free laws.next x (end_view to.store a) (end_view end.store b) (next p) (next q) later first second
                step.after covered.after e x (agree_self laws.next x),
          ),
        )

    fails : meets z free step.after (next p) (next q) ≡ false → ⊥
    fails e =
        let n = fresh_start step in
        let found_term = pulse_passes rule W z (env p) (old p).memory (first_start step) n v2 (second_paths rule step uses) (can p p_lt p_is)
        rule_covered node_of_p
        (λ to w le agree there.
        pulse_passes rule W z (env q) (old q).memory (second_start step) to.next w (paths_end step uses to) (can q q_lt q_is) rule_covered
        (node_of_q to.next w le agree)
        (λ end u le2 agree2 there2.
        ends to end u to.sent end.sent (omega (arith, le, le2)) (agree_then n to.next u w v2 le agree2 agree)
        (state_more W z (env p) to.next end.next w u to.store (pulse rule z (env p) (old p).memory) le2 agree2 there.state)
        (counted_more W z (env p) to.next end.next w u to.counts le2 agree2 there.counts) there2.state there2.counts
        (sent_more to.next end.next w u to.sent (pulse rule z (env p) (old p).memory) le2 agree2 there.sent) there2.sent e)) in
        none found_term.0 (begins found_term.0 found_term.1) found_term.2

    pub holds : meets z free step.after (next p) (next q) ≡ true
    holds = elim (either_way (meets z free step.after (next p) (next q))) [
      | inl e ↦ e
      | inr e ↦ absurd (fails e)
    ]

  pub stepped : Stepped rule z correct (meets z free step.after) env old
  stepped = record {
    new = next;
    becomes = λ i lt is. becomes_so rule W z (env i) (old i) (can i lt is) rule_covered sends room (between i lt is);
    each = λ p p_lt p_is q q_lt q_is. holds p q p_lt p_is q_lt q_is;
  }

pub step_holds : (rule : Statement) (step : Step) (uses : List Use) → RuleIsCovered step.words rule → always_sends rule ≡ true
    → StepIsCovered step → ((v : Numbers) → RelationHolds v (begun step) → RelationHolds v (both_paths rule step uses) → ⊥) → (free : ℕ → ℕ)
    → steps.Holds rule (claim_of step free)
step_holds rule step uses rule_covered sends covered none free z correct small covers few env old between inside sees =
    stepped rule step uses rule_covered sends covered none free z correct small (leb-true (4 * step.words) z.memory covers) few env old
    between inside sees
