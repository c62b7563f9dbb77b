-- A pulse of the clock's rule at any sizes.
use Rattle.std.proofs.Common.{◌≡◌, ℕ, ◌+◌, ◌-◌, ◌%◌, ◌^◌, ◌<◌, ◌≤◌, ◌==◌, nat_lt, Bool, false, cond, if◌then◌else◌, List, [], length, slice_set, Some, Result, Ok, sym, ap, ◌∙◌, subst, arith}
use Rattle.std.specs.FinMap.{empty}
use Rattle.std.proofs.Math.Nat.{mod-eq_of_lt}
use Rattle.std.proofs.lemmas.Bool.{ne_eqb}
use Rattle.std.proofs.lemmas.Bool.Decides.{nat_tests}
use Rattle.node_env.specs.Env.{Setting}
use Rattle.bpf_machine.specs.Step.{with_number}
use Rattle.clock_nodes.specs.Rule.{clock_of, mark_of, with_pair, pair_from}
use Rattle.clock_nodes.specs.Ends.{IsSentTo}
use Rattle.clock_nodes.proofs.Bytes.{has_pair, clock_written, mark_written}
use Rattle.clock_nodes.proofs.Pairs.{pair_small}
use Rattle.rule_syntax.specs.declared.syntax.Operation.TheVariants.{Sum, Difference, Remainder}
use Rattle.rule_syntax.specs.declared.syntax.Sizes.{Sizes}
use Rattle.rule_syntax.specs.declared.syntax.Statement.{Statement}
use Rattle.rule_meaning.specs.Meaning.{NodeState, apply, bit_of, truth, count_below, word_at, with_memory_word, message_from, with_local, sent_below, initial_state, pulse}
use Rattle.rule_nodes.proofs.Words.{word_loaded, word_stored, word_length, word_bytes}
use Rattle.rule_text.specs.Forms.{statement_form}
use Rattle.clock_rule.specs.Clock.{clock_statement, new_pair}
use Rattle.clock_rule.proofs.FormMeaning.{form_after, pulse_by_form}
use Rattle.clock_rule.proofs.Choice.{truth_of, with_both, new_pair_is}
use Rattle.rule_steps.specs.Steps.{Between, IsBetween, NodeBecomes}
use Rattle.rule_steps.proofs.Sending.{sending_keeps, sent_to_each}

-- ---- the words of the pair

ok_same : {E : Type 0} (x y : ℕ) (r : Result ℕ E) → r ≡ Ok x → r ≡ Ok y → x ≡ y
ok_same x y r e f = cc

pub clock_is : (m : List ℕ) → 8 ≤ length m → word_at 0 m ≡ clock_of m
clock_is m l = ok_same _ _ _ (word_loaded 0 m (omega (arith, l))) (has_pair m l).clock

pub mark_is : (m : List ℕ) → 8 ≤ length m → word_at 1 m ≡ mark_of m
mark_is m l = ok_same _ _ _ (word_loaded 1 m (omega (arith, l))) (has_pair m l).mark

-- the memory with this pair
abbrev pub with_words : ℕ × ℕ → List ℕ → List ℕ
with_words pair m = with_memory_word 1 pair.1 (with_memory_word 0 pair.0 m)

pub words_are : (pair : ℕ × ℕ) (m : List ℕ) → 8 ≤ length m → with_words pair m ≡ with_pair pair m
words_are pair m l =
    sym (word_stored 1 pair.1 (with_memory_word 0 pair.0 m))
    ∙ ap (λ (bytes : List ℕ). with_number slice_set bytes 4 4 pair.1) (sym (word_stored 0 pair.0 m))
    ∙ (has_pair m l).stored pair

pub words_length : (pair : ℕ × ℕ) (m : List ℕ) → length (with_words pair m) ≡ length m
words_length pair m = word_length 1 pair.1 (with_memory_word 0 pair.0 m) ∙ word_length 0 pair.0 m

pub clock_read : (pair : ℕ × ℕ) (m : List ℕ) → 8 ≤ length m → pair.0 < 2 ^ 32 → word_at 0 (with_words pair m) ≡ pair.0
clock_read pair m l fits =
    clock_is (with_words pair m) (omega (arith, l, words_length pair m))
    ∙ ap clock_of (words_are pair m l) ∙ clock_written pair m fits

pub mark_read : (pair : ℕ × ℕ) (m : List ℕ) → 8 ≤ length m → pair.1 < 2 ^ 32 → word_at 1 (with_words pair m) ≡ pair.1
mark_read pair m l fits =
    mark_is (with_words pair m) (omega (arith, l, words_length pair m))
    ∙ ap mark_of (words_are pair m l) ∙ mark_written pair m fits

-- ---- the numbers of the rule

difference_is : (n f : ℕ) → f ≤ n → n < 2 ^ 32 → apply Difference n f ≡ n - f
difference_is n f less few = omega (arith, less, few)

next_is : (v modulus : ℕ) → v < modulus → modulus < 2 ^ 32
    → apply Remainder (apply Sum v 1) modulus ≡ (v + 1) % modulus
next_is v modulus less most =
    let whole : (v + 1) % 2 ^ 32 ≡ v + 1 = mod-eq_of_lt (omega (arith, less, most)) in
    let some : (modulus == 0) ≡ false = ne_eqb modulus 0 (λ e. omega (arith, less, e)) in
    ap (λ (b : Bool). if b then apply Sum v 1 else apply Sum v 1 % modulus) some ∙ ap (λ (x : ℕ). x % modulus) whole

-- ---- the lets

abbrev pub first_let : ℕ → List ℕ → ℕ
first_let modulus m = if truth (bit_of (nat_lt (word_at 0 m) modulus)) then word_at 0 m else 0

abbrev pub second_let : Sizes → Setting → ℕ → ℕ
second_let z env v = count_below z.nodes (λ j. bit_of (message_from z env j == v))

abbrev with_lets : Sizes → Setting → List ℕ → NodeState
with_lets z env m =
    let v = first_let z.modulus m in with_local 1 (second_let z env v) (with_local 0 v (initial_state m))

pub let_small : (modulus : ℕ) (m : List ℕ) → 0 < modulus → first_let modulus m < modulus
let_small modulus m some =
    subst (λ (v : ℕ). v < modulus)
    (sym (ap (λ (b : Bool). if b then word_at 0 m else 0) (truth_of (nat_lt (word_at 0 m) modulus)))) (small (word_at 0 m))
  where
    small : (clock : ℕ) → cond (nat_lt clock modulus) clock 0 < modulus
    small clock = grind (arith, nat_tests)

-- ---- the whole rule

-- the new pair of a node
abbrev pub pair_of : Sizes → Setting → List ℕ → ℕ × ℕ
pair_of z env m =
    let v = first_let z.modulus m in
    pair_from (z.nodes - z.faults) z.modulus (second_let z env v) v (word_at 1 m) env.coin

-- the node after the pulse
abbrev pub node_after : Sizes → Setting → Between → Between
node_after z env old = record { memory = with_words (pair_of z env old.memory) old.memory; sent = (pair_of z env old.memory).0 }

-- what the rule needs of the sizes
pub record Serves (z : Sizes) : Type 0 where
  pub nodes : z.nodes < 2 ^ 32
  pub faults : z.faults ≤ z.nodes
  pub least : 2 ≤ z.modulus
  pub most : z.modulus < 2 ^ 32
  pub memory : 8 ≤ z.memory

module _ (z : Sizes) (env : Setting) (old : Between) (serves : Serves z) (is : IsBetween z old) (bit : env.coin < 2) where
  abbrev m : List ℕ
  m = old.memory

  abbrev chosen : NodeState
  chosen = form_after new_pair z env 2 [] (with_lets z env m)

  abbrev pair : ℕ × ℕ
  pair = pair_of z env m

  long : 8 ≤ length m
  long = omega (arith, is.length, serves.memory)

  pub pair_fits : (pair.0 < z.modulus) × (pair.1 < 2)
  pair_fits =
      let v = first_let z.modulus m in
      pair_small (z.nodes - z.faults) z.modulus (second_let z env v) v (word_at 1 m) env.coin serves.least bit

  chosen_is : chosen ≡ with_both pair (with_lets z env m)
  chosen_is =
      let v_small = let_small z.modulus m (omega (arith, serves.least)) in
      new_pair_is z env (with_lets z env m) (z.nodes - z.faults) (difference_is z.nodes z.faults serves.faults serves.nodes)
      (next_is (first_let z.modulus m) z.modulus v_small serves.most)

  chosen_memory : chosen.memory ≡ with_words pair m
  chosen_memory = ap (λ (u : NodeState). u.memory) chosen_is

  pulse_is : (rule : Statement) → statement_form rule ≡ clock_statement
      → pulse rule z env m ≡ sent_below z.nodes (word_at 0 chosen.memory) chosen
  pulse_is rule e = pulse_by_form rule clock_statement z env m e

  leaves : (rule : Statement) → statement_form rule ≡ clock_statement
      → (pulse rule z env m).memory ≡ with_words pair m
  leaves rule e =
      ap (λ (u : NodeState). u.memory) (pulse_is rule e)
      ∙ sending_keeps z.nodes (word_at 0 chosen.memory) chosen ∙ chosen_memory

  sends : (rule : Statement) → statement_form rule ≡ clock_statement
      → IsSentTo z.nodes (λ j. Some pair.0) (pulse rule z env m).sent
  sends rule e =
      let number = word_at 0 chosen.memory in
      let number_is : number ≡ pair.0 = ap (word_at 0) chosen_memory
      ∙ clock_read pair m long (omega (arith, pair_fits.0, serves.most)) in
      let none : chosen.sent ≡ empty = ap (λ (u : NodeState). u.sent) chosen_is in
      let sent = sent_to_each z.nodes number chosen none in
      let at_number = subst (λ (u : NodeState). IsSentTo z.nodes (λ j. Some number) u.sent) (sym (pulse_is rule e)) sent in
      subst (λ (c : ℕ). IsSentTo z.nodes (λ j. Some c) (pulse rule z env m).sent) number_is at_number

  pub becomes : (rule : Statement) → statement_form rule ≡ clock_statement → NodeBecomes rule z env old (node_after z env old)
  becomes rule e = record {
    memory = sym (leaves rule e);
    sent = sends rule e;
    between = record {
      length = words_length pair m ∙ is.length;
      bytes = word_bytes 1 pair.1 (with_memory_word 0 pair.0 m) (word_bytes 0 pair.0 m is.bytes);
      sent = omega (arith, pair_fits.0, serves.most);
    };
  }

  pub clock_after : word_at 0 (node_after z env old).memory ≡ pair.0
  clock_after = clock_read pair m long (omega (arith, pair_fits.0, serves.most))

  pub mark_after : word_at 1 (node_after z env old).memory ≡ pair.1
  mark_after = mark_read pair m long (omega (arith, pair_fits.1))
