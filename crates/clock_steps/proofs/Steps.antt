-- The steps of the clock: two quorums share a correct node's message, and n - f correct nodes are a quorum.
use Rattle.std.proofs.Common.{◌≡◌, ℕ, zero, suc, ◌+◌, ◌-◌, ◌*◌, ◌/◌, ◌%◌, ◌<◌, ◌≤◌, ◌==◌, nat_lt, not, ◌&&◌, ◌||◌, Bool, true, false, cond, if◌then◌else◌, List, refl, sym, ap, ap₂, ◌∙◌, subst, arith}
use Rattle.std.specs.Prelude.{IsTrue}
use Rattle.std.proofs.Math.Nat.{mod-eq_of_lt, mod-lt, mod_self, mod-add-div', add-mul-mod_self_right}
use Rattle.std.proofs.lemmas.Bool.{and_parts, and_from, or_right, ltb-true, leb-true, ltb-false, lt-ltb, le-ltb, eqb-true, eq-eqb, ne_eqb}
use Rattle.node_env.specs.Env.{Setting}
use Rattle.clock_nodes.specs.Rule.{pair_from}
use Rattle.rule_syntax.specs.declared.syntax.Sizes.{Sizes}
use Rattle.rule_syntax.specs.declared.syntax.Statement.{Statement}
use Rattle.rule_meaning.specs.Meaning.{bit_of, truth, word_at, message_from}
use Rattle.rule_text.specs.Forms.{statement_form}
use Rattle.clock_rule.specs.Clock.{clock_statement}
use Rattle.clock_rule.proofs.Choice.{truth_of}
use Rattle.quorums.specs.Counts.{count, HasFewFaults}
use Rattle.quorums.proofs.Marks.{count_not, count_implied, one_correct_passes_both}
use Rattle.rule_steps.specs.Steps.{Between, Sees, EachCorrect, EachTwo, StepLeads, AreSmall, Holds, IsRuleRun}
use Rattle.rule_steps.proofs.Runs.{step_of_run}
use Rattle.rule_steps.proofs.Counted.{count_of_marks, heard}
use Rattle.clock_steps.specs.Claims.{fewest, is_clock_size, node_clock, mark_in, common, agreement_claim, next, around}
use Rattle.clock_steps.proofs.Pulse.{Serves, first_let, second_let, pair_of, node_after, becomes, clock_after, mark_after}

-- ---- the sizes

pub record Bounds (z : Sizes) : Type 0 where
  pub third : 3 * z.faults < z.nodes
  pub serves : Serves z

pub bounds_of : (z : Sizes) → AreSmall z → IsTrue (is_clock_size z) → Bounds z
bounds_of z small size =
    let parts = and_parts _ _ size in
    let rest = and_parts _ _ parts.1 in
    let above = ltb-true (fewest z) z.nodes parts.0 in
    let third : 3 * z.faults < z.nodes = omega (arith, above) in
    let least = leb-true 3 z.modulus rest.0 in
    let memory = leb-true 8 z.memory rest.1 in
    record {
      third = third;
      serves = record {
        nodes = small.nodes;
        faults = omega (arith, third);
        least = omega (arith, least);
        most = small.modulus;
        memory = memory;
      };
    }

-- ---- the marks of a node that counts the messages of its clock

abbrev sent_it : Sizes → Setting → ℕ → ℕ → Bool
sent_it z env v j = truth (bit_of (message_from z env j == v))

counted : (z : Sizes) (env : Setting) (v : ℕ) → second_let z env v ≡ count z.nodes (sent_it z env v)
counted z env v = count_of_marks z.nodes (λ j. bit_of (message_from z env j == v))

sent_is : (z : Sizes) (env : Setting) (v j : ℕ) → IsTrue (sent_it z env v j) → message_from z env j ≡ v
sent_is z env v j h = eqb-true (message_from z env j) v (sym (truth_of (message_from z env j == v)) ∙ h)

is_sent : (z : Sizes) (env : Setting) (v j : ℕ) → message_from z env j ≡ v → IsTrue (sent_it z env v j)
is_sent z env v j e = truth_of (message_from z env j == v) ∙ eq-eqb (message_from z env j) v e

-- two nodes that have a quorum have one clock
pub same_clock : (z : Sizes) (correct : ℕ → Bool) (nodes : ℕ → Between) (p q v w : ℕ) (at_p at_q : Setting) → Bounds z
    → HasFewFaults z.nodes z.faults correct → Sees z correct nodes p at_p → Sees z correct nodes q at_q
    → nat_lt (second_let z at_p v) (z.nodes - z.faults) ≡ false
    → nat_lt (second_let z at_q w) (z.nodes - z.faults) ≡ false → v ≡ w
same_clock z correct nodes p q v w at_p at_q bounds few sees_p sees_q many_p many_q =
    let n = z.nodes in
    let more_p = ltb-false (second_let z at_p v) (n - z.faults) many_p in
    let more_q = ltb-false (second_let z at_q w) (n - z.faults) many_q in
    let more : n + z.faults < count n (sent_it z at_p v) + count n (sent_it z at_q w) =
    omega (arith, more_p, more_q, counted z at_p v, counted z at_q w, bounds.third) in
    let shared = one_correct_passes_both n z.faults correct (sent_it z at_p v) (sent_it z at_q w) few more in
    let j = shared.0 in
    sym (sent_is z at_p v j shared.2.1.0) ∙ heard z correct nodes p j at_p sees_p shared.1 shared.2.0
    ∙ sym (heard z correct nodes q j at_q sees_q shared.1 shared.2.0) ∙ sent_is z at_q w j shared.2.1.1

-- ---- agreement

abbrev pub alike : ℕ → ℕ → Bool
alike a b = (a == 0) || ((b == 0) || (a == b))

alike_same : (a : ℕ) → IsTrue (alike a a)
alike_same a = or_right (a == 0) ((a == 0) || (a == a)) (or_right (a == 0) (a == a) (eq-eqb a a refl))

alike_small : (a b : ℕ) → a < 2 → b < 2 → IsTrue (alike a b)
alike_small zero b l m = refl
alike_small (suc zero) zero l m = refl
alike_small (suc zero) (suc zero) l m = refl
alike_small (suc zero) (suc (suc b)) l m = absurd (omega (arith, m))
alike_small (suc (suc a)) b l m = absurd (omega (arith, l))

one_or : (b : Bool) (c : ℕ) → c < 2 → (cond {A = ℕ × ℕ} b (1, 1) (c, c)).0 < 2
one_or true c l = omega arith
one_or false c l = l

-- the clock of a node with a quorum
abbrev pub advanced : ℕ → ℕ → ℕ → ℕ → ℕ × ℕ
advanced modulus v k c = cond {A = ℕ × ℕ} (not (v == 0)) ((v + 1) % modulus, 1) (cond (not (k == 0)) (1, 1) (c, c))

alike_advanced : (modulus v k l c d : ℕ) → c < 2 → d < 2
    → IsTrue (alike (advanced modulus v k c).0 (advanced modulus v l d).0)
alike_advanced modulus v k l c d at_p at_q = by (not (v == 0))
  where
    by : (b : Bool) → IsTrue (alike (cond {A = ℕ × ℕ} b ((v + 1) % modulus, 1) (cond (not (k == 0)) (1, 1) (c, c))).0
        (cond {A = ℕ × ℕ} b ((v + 1) % modulus, 1) (cond (not (l == 0)) (1, 1) (d, d))).0)
    by true = alike_same ((v + 1) % modulus)
    by false = alike_small (cond {A = ℕ × ℕ} (not (k == 0)) (1, 1) (c, c)).0
        (cond {A = ℕ × ℕ} (not (l == 0)) (1, 1) (d, d)).0 (one_or (not (k == 0)) c at_p) (one_or (not (l == 0)) d at_q)

pub alike_pairs : (quorum modulus s t v w k l c d : ℕ) → c < 2 → d < 2
    → (nat_lt s quorum ≡ false → nat_lt t quorum ≡ false → v ≡ w)
    → IsTrue (alike (pair_from quorum modulus s v k c).0 (pair_from quorum modulus t w l d).0)
alike_pairs quorum modulus s t v w k l c d at_p at_q same = by (nat_lt s quorum) (nat_lt t quorum) same
  where
    by : (a b : Bool) → (a ≡ false → b ≡ false → v ≡ w)
        → IsTrue (alike (cond {A = ℕ × ℕ} a (0, 0) (advanced modulus v k c)).0
        (cond {A = ℕ × ℕ} b (0, 0) (advanced modulus w l d)).0)
    by true b h = refl
    by false true h = or_right ((advanced modulus v k c).0 == 0) true refl
    by false false h =
        subst (λ (x : ℕ). IsTrue (alike (advanced modulus v k c).0 (advanced modulus x l d).0)) (h refl refl)
        (alike_advanced modulus v k l c d at_p at_q)

pub agrees : (rule : Statement) → statement_form rule ≡ clock_statement → Holds rule agreement_claim
agrees rule e z correct small size few env old between inside seen =
    let sees : EachCorrect z.nodes correct (λ i. Sees z correct old i (env i)) = λ i lt is. (seen i lt is).0 in
    let bounds = bounds_of z small size in
    let serves = bounds.serves in
    let new = λ (i : ℕ). node_after z (env i) (old i) in
    record {
      new = new;
      becomes = λ i lt is. becomes z (env i) (old i) serves (between i lt is) (sees i lt is).coin rule e;
      each = λ p lt_p is_p q lt_q is_q.
          let v = first_let z.modulus (old p).memory in
          let w = first_let z.modulus (old q).memory in
          let clock_p = clock_after z (env p) (old p) serves (between p lt_p is_p) (sees p lt_p is_p).coin in
          let clock_q = clock_after z (env q) (old q) serves (between q lt_q is_q) (sees q lt_q is_q).coin in
          let pairs = alike_pairs (z.nodes - z.faults) z.modulus (second_let z (env p) v) (second_let z (env q) w) v w
          (word_at 1 (old p).memory) (word_at 1 (old q).memory) (env p).coin (env q).coin (sees p lt_p is_p).coin
          (sees q lt_q is_q).coin
          (same_clock z correct old p q v w (env p) (env q) bounds few (sees p lt_p is_p) (sees q lt_q is_q)) in
          ap₂ alike clock_p clock_q ∙ pairs;
    }

-- ---- persistence

-- where all correct nodes sent v, each has a quorum for it
pub quorum_heard : (z : Sizes) (correct : ℕ → Bool) (nodes : ℕ → Between) (i v : ℕ) (env : Setting) → Bounds z
    → HasFewFaults z.nodes z.faults correct → Sees z correct nodes i env
    → EachCorrect z.nodes correct (λ j. (nodes j).sent ≡ v)
    → nat_lt (second_let z env v) (z.nodes - z.faults) ≡ false
quorum_heard z correct nodes i v env bounds few sees all =
    let n = z.nodes in
    let within = count_implied n correct (sent_it z env v)
    (λ j lt is. is_sent z env v j (heard z correct nodes i j env sees lt is ∙ all j lt is)) in
    le-ltb (second_let z env v) (n - z.faults)
    (omega (arith, within, count_not n correct, few, counted z env v, bounds.third))

pub let_is : (modulus c : ℕ) (m : List ℕ) → word_at 0 m ≡ c → c < modulus → first_let modulus m ≡ c
let_is modulus c m e lt =
    let test : truth (bit_of (nat_lt (word_at 0 m) modulus)) ≡ true =
    truth_of (nat_lt (word_at 0 m) modulus) ∙ lt-ltb (word_at 0 m) modulus (omega (arith, e, lt)) in
    ap (λ (b : Bool). if b then word_at 0 m else 0) test ∙ e

pub pair_next : (quorum modulus s c k coin : ℕ) → 2 ≤ modulus → nat_lt s quorum ≡ false → k ≡ 1
    → pair_from quorum modulus s c k coin ≡ ((c + 1) % modulus, 1)
pair_next quorum modulus s c k coin least many mark =
    ap (λ (b : Bool). cond {A = ℕ × ℕ} b (0, 0) (advanced modulus c k coin)) many
    ∙ ap (λ (x : ℕ). advanced modulus c x coin) mark ∙ by c
  where
    by : (x : ℕ) → advanced modulus x 1 coin ≡ ((x + 1) % modulus, 1)
    by zero = ap (λ (y : ℕ). (y, 1)) (sym (mod-eq_of_lt (omega (arith, least))))
    by (suc x) = ap (λ (b : Bool). cond {A = ℕ × ℕ} (not b) ((suc x + 1) % modulus, 1) (1, 1))
        (ne_eqb (suc x) 0 (λ e. omega (arith, e)))

record Common (c : ℕ) (p : Between) : Type 0 where
  clock : node_clock p ≡ c
  mark : mark_in p ≡ 1
  sent : p.sent ≡ c

common_parts : (c : ℕ) (p q : Between) → IsTrue (common c p q) → Common c p
common_parts c p q h =
    let parts = and_parts _ _ h in
    let rest = and_parts _ _ parts.1 in
    record {
      clock = eqb-true (node_clock p) c parts.0;
      mark = eqb-true (mark_in p) 1 rest.0;
      sent = eqb-true p.sent c rest.1;
    }

pub common_from : (c : ℕ) (p q : Between) → node_clock p ≡ c → mark_in p ≡ 1 → p.sent ≡ c → IsTrue (common c p q)
common_from c p q clock mark sent =
    and_from (node_clock p == c) ((mark_in p == 1) && (p.sent == c)) (eq-eqb (node_clock p) c clock)
    (and_from (mark_in p == 1) (p.sent == c) (eq-eqb (mark_in p) 1 mark) (eq-eqb p.sent c sent))

pub persists : (rule : Statement) (z : Sizes) (correct : ℕ → Bool) (c d : ℕ) → statement_form rule ≡ clock_statement
    → AreSmall z → IsTrue (is_clock_size z) → HasFewFaults z.nodes z.faults correct → c < z.modulus
    → (c + 1) % z.modulus ≡ d → StepLeads rule z correct (λ at. true) (common c) (common d)
persists rule z correct c d e small size few below next env old between inside seen =
    let sees : EachCorrect z.nodes correct (λ i. Sees z correct old i (env i)) = λ i lt is. (seen i lt is).0 in
    let bounds = bounds_of z small size in
    let serves = bounds.serves in
    let all : EachCorrect z.nodes correct (λ i. Common c (old i)) =
    λ i lt is. common_parts c (old i) (old i) (inside i lt is i lt is) in
    let pair_is : EachCorrect z.nodes correct (λ i. pair_of z (env i) (old i).memory ≡ (d, 1)) =
    λ i lt is.
    let m = (old i).memory in
    let v_is = let_is z.modulus c m (all i lt is).clock below in
    let many = quorum_heard z correct old i c (env i) bounds few (sees i lt is) (λ j l s. (all j l s).sent) in
    ap (λ (v : ℕ). pair_from (z.nodes - z.faults) z.modulus (second_let z (env i) v) v (word_at 1 m) (env i).coin)
    v_is
    ∙ pair_next (z.nodes - z.faults) z.modulus (second_let z (env i) c) c (word_at 1 m) (env i).coin serves.least
    many (all i lt is).mark
    ∙ ap (λ (x : ℕ). (x, 1)) next in
    record {
      new = λ i. node_after z (env i) (old i);
      becomes = λ i lt is. becomes z (env i) (old i) serves (between i lt is) (sees i lt is).coin rule e;
      each = λ p lt is q lt_q is_q.
          let coin = (sees p lt is).coin in
          let clock = clock_after z (env p) (old p) serves (between p lt is) coin in
          let mark = mark_after z (env p) (old p) serves (between p lt is) coin in
          let pair = pair_is p lt is in
          common_from d (node_after z (env p) (old p)) (node_after z (env q) (old q))
          (clock ∙ ap (λ (x : ℕ × ℕ). x.0) pair) (mark ∙ ap (λ (x : ℕ × ℕ). x.1) pair) (ap (λ (x : ℕ × ℕ). x.0) pair);
    }

pub advances : (rule : Statement) (c : ℕ) → statement_form rule ≡ clock_statement → Holds rule (next c)
advances rule c e z correct small covered few =
    let parts = and_parts _ _ covered in
    let below = ltb-true (c + 1) z.modulus parts.1 in
    persists rule z correct c (c + 1) e small parts.0 few (omega (arith, below)) (mod-eq_of_lt below)

pub turns : (rule : Statement) → statement_form rule ≡ clock_statement → Holds rule around
turns rule e z correct small size few =
    let least = (bounds_of z small size).serves.least in
    let whole : z.modulus - 1 + 1 ≡ z.modulus = omega (arith, least) in
    persists rule z correct (z.modulus - 1) 0 e small size few (omega (arith, least))
    (ap (λ (x : ℕ). x % z.modulus) whole ∙ mod_self z.modulus)

-- ---- runs

pub next_of_mod : (x modulus : ℕ) → (x % modulus + 1) % modulus ≡ (x + 1) % modulus
next_of_mod x modulus =
    let whole : x % modulus + 1 + x / modulus * modulus ≡ x + 1 = omega (arith, mod-add-div' x modulus) in
    sym (add-mul-mod_self_right (x % modulus + 1) (x / modulus) modulus) ∙ ap (λ (y : ℕ). y % modulus) whole

pub for_good : (rule : Statement) (z : Sizes) (correct : ℕ → Bool) (env : ℕ → ℕ → Setting) (nodes : ℕ → ℕ → Between)
    (first c : ℕ) → statement_form rule ≡ clock_statement → AreSmall z → IsTrue (is_clock_size z)
    → HasFewFaults z.nodes z.faults correct → IsRuleRun rule z correct env nodes → c < z.modulus
    → EachTwo z.nodes correct (common c) (nodes first) → (k : ℕ)
    → EachTwo z.nodes correct (common ((c + k) % z.modulus)) (nodes (first + k))
for_good rule z correct env nodes first c e small size few run below inside zero =
    let same : c ≡ (c + 0) % z.modulus = sym (ap (λ (x : ℕ). x % z.modulus) (omega arith) ∙ mod-eq_of_lt below) in
    let here : first ≡ first + 0 = omega arith in
    subst (λ (i : ℕ). EachTwo z.nodes correct (common ((c + 0) % z.modulus)) (nodes i)) here
    (subst (λ (x : ℕ). EachTwo z.nodes correct (common x) (nodes first)) same inside)
for_good rule z correct env nodes first c e small size few run below inside (suc k) =
    let least = (bounds_of z small size).serves.least in
    let d = (c + k) % z.modulus in
    let next : (d + 1) % z.modulus ≡ (c + suc k) % z.modulus =
    next_of_mod (c + k) z.modulus ∙ ap (λ (x : ℕ). x % z.modulus) (omega arith) in
    let leads = persists rule z correct d ((c + suc k) % z.modulus) e small size few
    (mod-lt (c + k) (omega (arith, least))) next in
    let after = step_of_run rule z correct (λ at. true) (common d) (common ((c + suc k) % z.modulus)) env nodes
    (first + k) leads run (λ i lt is. refl)
    (for_good rule z correct env nodes first c e small size few run below inside k) in
    let there : suc (first + k) ≡ first + suc k = omega arith in
    subst (λ (i : ℕ). EachTwo z.nodes correct (common ((c + suc k) % z.modulus)) (nodes i)) there after
