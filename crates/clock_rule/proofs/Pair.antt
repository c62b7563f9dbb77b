-- What the whole rule leaves and sends.
use Rattle.std.proofs.Common.{◌≡◌, ℕ, zero, suc, ◌+◌, ◌-◌, ◌^◌, ◌<◌, ◌≤◌, ◌==◌, nat_lt, Bool, true, cond, if◌then◌else◌, List, [], length, slice_set, Option, Some, None, Result, Ok, refl, sym, ap, ap₂, ◌∙◌, subst, arith}
use Rattle.std.specs.Prelude.{unwrap_or}
use Rattle.std.specs.FinMap.{empty, get}
use Rattle.std.proofs.lemmas.Bool.{ne_eqb, lt-ltb}
use Rattle.node_env.specs.declared.env.TheConstants.{NO_MAIL}
use Rattle.node_env.specs.Env.{Setting, IsSetting, received}
use Rattle.bpf_machine.specs.Step.{with_number}
use Rattle.clock_nodes.specs.Rule.{IsRule, clock_of, mark_of, with_pair, is_mail, support, clock_below, pair_from, pair_after}
use Rattle.clock_nodes.specs.Ends.{IsSentTo}
use Rattle.clock_nodes.proofs.Bytes.{has_pair, clock_written}
use Rattle.clock_nodes.proofs.Pairs.{clock_small, pair_small}
use Rattle.clock_nodes.proofs.Runs.{nothing_sent, sent_next}
use Rattle.rule_syntax.specs.declared.syntax.Sizes.{Sizes}
use Rattle.rule_syntax.specs.declared.syntax.Statement.{Statement}
use Rattle.rule_meaning.specs.Meaning.{NodeState, bit_of, truth, count_below, word_at, with_memory_word, message_from, with_local, sent_below, initial_state, pulse}
use Rattle.rule_nodes.specs.Ends.{sizes_of}
use Rattle.rule_nodes.proofs.Words.{word_loaded, word_stored}
use Rattle.rule_text.specs.Forms.{statement_form}
use Rattle.clock_rule.specs.Clock.{clock_statement, new_pair}
use Rattle.clock_rule.proofs.FormMeaning.{form_after, pulse_by_form}
use Rattle.clock_rule.proofs.Choice.{truth_of, difference_is, next_is, with_both, new_pair_is}

-- ---- the words of the pair

ok_same : {E : Type 0} (x y : ℕ) (r : Result ℕ E) → r ≡ Ok x → r ≡ Ok y → x ≡ y
ok_same x y r e f = cc

clock_is : (m : List ℕ) → 8 ≤ length m → word_at 0 m ≡ clock_of m
clock_is m l = ok_same _ _ _ (word_loaded 0 m (omega (arith, l))) (has_pair m l).clock

mark_is : (m : List ℕ) → 8 ≤ length m → word_at 1 m ≡ mark_of m
mark_is m l = ok_same _ _ _ (word_loaded 1 m (omega (arith, l))) (has_pair m l).mark

pair_is : (pair : ℕ × ℕ) (m : List ℕ) → 8 ≤ length m → with_memory_word 1 pair.1 (with_memory_word 0 pair.0 m) ≡ with_pair pair m
pair_is pair m l =
    sym (word_stored 1 pair.1 (with_memory_word 0 pair.0 m))
    ∙ ap (λ (bytes : List ℕ). with_number slice_set bytes 4 4 pair.1) (sym (word_stored 0 pair.0 m))
    ∙ (has_pair m l).stored pair

pair_long : (pair : ℕ × ℕ) (m : List ℕ) → 8 ≤ length (with_pair pair m)
pair_long pair m = omega arith

-- ---- the support

mail_same : (v : ℕ) (mail : Option ℕ) → v < NO_MAIL → (unwrap_or mail NO_MAIL == v) ≡ is_mail v mail
mail_same v None small = ne_eqb NO_MAIL v (λ e. omega (arith, small, e))
mail_same v (Some m) small = refl

support_is : (z : Sizes) (env : Setting) (v n : ℕ) → n ≤ z.nodes → v < NO_MAIL
    → count_below n (λ j. bit_of (message_from z env j == v)) ≡ support env.inbox v n
support_is z env v zero few small = refl
support_is z env v (suc n) few small =
    let within : nat_lt n z.nodes ≡ true = lt-ltb n z.nodes (omega (arith, few)) in
    let heard : message_from z env n ≡ received env n = ap (λ (b : Bool). if b then received env n else NO_MAIL) within in
    let one : bit_of (truth (bit_of (message_from z env n == v))) ≡ cond (is_mail v (get env.inbox n)) 1 0 =
    ap bit_of (truth_of (message_from z env n == v) ∙ ap (λ (x : ℕ). x == v) heard
    ∙ mail_same v (get env.inbox n) small) in
    ap₂ ◌+◌ (support_is z env v n (omega (arith, few)) small) one

-- ---- what is sent

sending_keeps : (n v : ℕ) (u : NodeState) → (sent_below n v u).memory ≡ u.memory
sending_keeps zero v u = refl
sending_keeps (suc n) v u = sending_keeps n v u

sent_to_each : (n v : ℕ) (u : NodeState) → u.sent ≡ empty → IsSentTo n (λ j. Some v) (sent_below n v u).sent
sent_to_each zero v u e = subst (IsSentTo 0 (λ j. Some v)) (sym e) (nothing_sent (λ j. Some v))
sent_to_each (suc n) v u e = sent_next n v (λ j. Some v) (sent_below n v u).sent refl (sent_to_each n v u e)

-- ---- the lets

abbrev first_let : ℕ → List ℕ → ℕ
first_let modulus m = if truth (bit_of (nat_lt (word_at 0 m) modulus)) then word_at 0 m else 0

abbrev second_let : Sizes → Setting → ℕ → ℕ
second_let z env v = count_below z.nodes (λ j. bit_of (message_from z env j == v))

abbrev with_lets : Sizes → Setting → List ℕ → NodeState
with_lets z env m =
    let v = first_let z.modulus m in with_local 1 (second_let z env v) (with_local 0 v (initial_state m))

first_let_is : (modulus : ℕ) (m : List ℕ) → 8 ≤ length m → first_let modulus m ≡ clock_below modulus (clock_of m)
first_let_is modulus m l =
    ap (λ (b : Bool). if b then word_at 0 m else 0) (truth_of (nat_lt (word_at 0 m) modulus))
    ∙ ap (clock_below modulus) (clock_is m l)

-- ---- the whole rule

module _ (faults modulus : ℕ) (env : Setting) (m : List ℕ) (ok : IsRule env.shape.nodes faults modulus)
    (l : 8 ≤ length m) where
  abbrev z : Sizes
  z = sizes_of env.shape faults modulus

  abbrev chosen : NodeState
  chosen = form_after new_pair z env 2 [] (with_lets z env m)

  abbrev pair : ℕ × ℕ
  pair = pair_after faults modulus env m

  chosen_is : chosen ≡ with_both pair (with_lets z env m)
  chosen_is =
      let n = env.shape.nodes in
      let q = n - faults in
      let first = first_let modulus m in
      let v = clock_below modulus (clock_of m) in
      let v_is : first ≡ v = first_let_is modulus m l in
      let v_small : v < modulus = clock_small modulus (clock_of m) (omega (arith, ok.least)) in
      let by_lets = new_pair_is z env (with_lets z env m) q (difference_is n faults ok.allowed ok.few)
      (next_is first modulus (omega (arith, v_is, v_small)) ok.most) in
      let same : pair_from q modulus (second_let z env first) first (word_at 1 m) env.coin ≡ pair =
      ap (λ (x : ℕ). pair_from q modulus (second_let z env x) x (word_at 1 m) env.coin) v_is
      ∙ ap (λ (s : ℕ). pair_from q modulus s v (word_at 1 m) env.coin)
      (support_is z env v n (omega arith) (omega (arith, v_small, ok.most)))
      ∙ ap (λ (k : ℕ). pair_from q modulus (support env.inbox v n) v k env.coin) (mark_is m l) in
      by_lets ∙ ap (λ (p : ℕ × ℕ). with_both p (with_lets z env m)) same

  chosen_memory : chosen.memory ≡ with_pair pair m
  chosen_memory = ap (λ (u : NodeState). u.memory) chosen_is ∙ pair_is pair m l

  pulse_is : (rule : Statement) → statement_form rule ≡ clock_statement
      → pulse rule z env m ≡ sent_below env.shape.nodes (word_at 0 chosen.memory) chosen
  pulse_is rule e = pulse_by_form rule clock_statement z env m e

  pub rule_leaves : (rule : Statement) → statement_form rule ≡ clock_statement
      → (pulse rule z env m).memory ≡ with_pair pair m
  rule_leaves rule e =
      ap (λ (u : NodeState). u.memory) (pulse_is rule e)
      ∙ sending_keeps env.shape.nodes (word_at 0 chosen.memory) chosen ∙ chosen_memory

  -- the clock is read again from the memory, in which it was stored
  clock_fits : IsSetting env → pair.0 < 2 ^ 32
  clock_fits is =
      let v = clock_below modulus (clock_of m) in
      let small = pair_small (env.shape.nodes - faults) modulus (support env.inbox v env.shape.nodes) v (mark_of m)
      env.coin ok.least is.coin in
      omega (arith, small.0, ok.most)

  pub rule_sends : (rule : Statement) → statement_form rule ≡ clock_statement → IsSetting env
      → IsSentTo env.shape.nodes (λ j. Some pair.0) (pulse rule z env m).sent
  rule_sends rule e is =
      let n = env.shape.nodes in
      let number = word_at 0 chosen.memory in
      let number_is : number ≡ pair.0 = ap (word_at 0) chosen_memory
      ∙ clock_is (with_pair pair m) (pair_long pair m) ∙ clock_written pair m (clock_fits is) in
      let none : chosen.sent ≡ empty = ap (λ (u : NodeState). u.sent) chosen_is in
      let sent = sent_to_each n number chosen none in
      let at_number = subst (λ (u : NodeState). IsSentTo n (λ j. Some number) u.sent) (sym (pulse_is rule e)) sent in
      subst (λ (c : ℕ). IsSentTo n (λ j. Some c) (pulse rule z env m).sent) number_is at_number
