-- What is sent to all, and the rule `send clock`.
use Rattle.std.proofs.Common.{◌≡◌, ℕ, zero, suc, ◌≤◌, ◌==◌, Bool, true, false, Some, refl, sym, subst, arith}
use Rattle.std.specs.Prelude.{nat_le}
use Rattle.std.specs.FinMap.{empty}
use Rattle.std.proofs.lemmas.Bool.{leb-true, eq-eqb, true≢false}
use Rattle.node_env.specs.Env.{Setting}
use Rattle.clock_nodes.specs.Ends.{IsSentTo}
use Rattle.clock_nodes.proofs.Runs.{nothing_sent, sent_next}
use Rattle.rule_syntax.specs.declared.syntax.Sizes.{Sizes}
use Rattle.rule_syntax.specs.declared.syntax.Statement.{Statement}
use Rattle.rule_syntax.specs.declared.syntax.Statement.TheVariants.{SendAll}
use Rattle.rule_syntax.specs.declared.syntax.Term.TheVariants.{Word}
use Rattle.rule_meaning.specs.Meaning.{NodeState, word_at, sent_below, initial_state}
use Rattle.rule_nodes.proofs.Words.{word_small}
use Rattle.rule_steps.specs.Steps.{Between, IsBetween, NodeBecomes, StepLeads, Holds}

pub sending_keeps : (n v : ℕ) (u : NodeState) → (sent_below n v u).memory ≡ u.memory
sending_keeps zero v u = refl
sending_keeps (suc n) v u = sending_keeps n v u

pub sent_to_each : (n v : ℕ) (u : NodeState) → u.sent ≡ empty → IsSentTo n (λ j. Some v) (sent_below n v u).sent
sent_to_each zero v u e = subst (IsSentTo 0 (λ j. Some v)) (sym e) (nothing_sent (λ j. Some v))
sent_to_each (suc n) v u e = sent_next n v (λ j. Some v) (sent_below n v u).sent refl (sent_to_each n v u e)

-- ---- nobody is correct

pub of_nobody : (rule : Statement) (z : Sizes) (fixed : Setting → Bool) (A B : Between → Between → Bool)
    → StepLeads rule z (λ j. false) fixed A B
of_nobody rule z fixed A B env old between inside sees = record {
  new = old;
  becomes = λ i lt is. absurd (true≢false (sym is));
  each = λ p lt is. absurd (true≢false (sym is));
}

-- ---- send clock

abbrev clock_sent : Between → Between
clock_sent old = record { memory = old.memory; sent = word_at 0 old.memory }

becomes_so : (z : Sizes) (env : Setting) (old : Between) → 4 ≤ z.memory → IsBetween z old
    → NodeBecomes (SendAll (Word 0)) z env old (clock_sent old)
becomes_so z env old long is = record {
  memory = sym (sending_keeps z.nodes (word_at 0 old.memory) (initial_state old.memory));
  sent = sent_to_each z.nodes (word_at 0 old.memory) (initial_state old.memory) refl;
  between = record {
    length = is.length;
    bytes = is.bytes;
    sent = word_small 0 old.memory (omega (arith, long, is.length)) is.bytes;
  };
}

pub clock_kept : (S : Sizes → (ℕ → Bool) → Between → Between → Bool)
    → Holds (SendAll (Word 0)) (record {
      covers = λ z. nat_le 4 z.memory;
      fixed = λ at. true;
      before = S;
      after = λ z correct p q. p.sent == word_at 0 p.memory;
    })
clock_kept S z correct small long few env old between inside sees = record {
  new = λ i. clock_sent (old i);
  becomes = λ i lt is. becomes_so z (env i) (old i) (leb-true 4 z.memory long) (between i lt is);
  each = λ p lt is q lt' is'. eq-eqb _ _ refl;
}
