-- Three nodes, of which node 2 is not correct: it tells node 0 the clock of node 0, and node 1 that of node 1.
use Rattle.std.proofs.Common.{◌≡◌, ℕ, zero, suc, ◌<◌, ◌==◌, nat_lt, not, ◌||◌, Bool, true, false, cond, List, [], ◌∷◌, All, refl, sym, ap, ap₂, ◌∙◌, arith}
use Rattle.std.specs.Prelude.{IsTrue, unwrap_or}
use Rattle.std.proofs.lemmas.Bool.{true≢false, le-ltb, eq-eqb}
use Rattle.std.proofs.lemmas.List.Elements.{All-nil, All-cons}
use Rattle.node_env.specs.Env.{Setting}
use Rattle.rule_syntax.specs.declared.syntax.Sizes.{Sizes}
use Rattle.rule_syntax.specs.declared.syntax.Statement.{Statement}
use Rattle.rule_meaning.specs.Meaning.{bit_of, truth, count_below, message_from}
use Rattle.rule_text.specs.Forms.{statement_form}
use Rattle.clock_rule.specs.Clock.{clock_statement}
use Rattle.clock_rule.proofs.Choice.{truth_of}
use Rattle.quorums.specs.Counts.{HasFewFaults}
use Rattle.rule_steps.specs.Steps.{Between, IsBetween, Sees, EachCorrect, AreSmall, Holds}
use Rattle.rule_steps.proofs.Counted.{heard}
use Rattle.rule_steps.proofs.Runs.{becomes_one}
use Rattle.clock_steps.specs.Claims.{node_clock, agreement_by_halves}
use Rattle.clock_steps.proofs.Pulse.{Serves, second_let, pair_of, node_after, becomes, clock_after}
use Rattle.clock_steps.proofs.Start.{comes, setting, built, seen}

abbrev z : Sizes
z = record { nodes = 3; faults = 1; modulus = 4; memory = 8 }

abbrev correct : ℕ → Bool
correct j = not (j == 2)

-- the clock of a node
abbrev clock_of : ℕ → ℕ
clock_of zero = 1
clock_of (suc i) = 2

abbrev memory_with : ℕ → List ℕ
memory_with x = x ∷ 0 ∷ 0 ∷ 0 ∷ 0 ∷ 0 ∷ 0 ∷ 0 ∷ []

abbrev old : ℕ → Between
old i = record { memory = memory_with (clock_of i); sent = clock_of i }

abbrev env : ℕ → Setting
env i = setting z correct old 0 (λ j. clock_of i) i

small_clock : (i : ℕ) → clock_of i < 4
small_clock zero = omega arith
small_clock (suc i) = omega arith

abbrev zeros : ℕ → List ℕ
zeros zero = []
zeros (suc k) = 0 ∷ zeros k

bytes_zero : (k : ℕ) → All (λ byte. byte < 256) (zeros k)
bytes_zero zero = All-nil (λ byte. byte < 256)
bytes_zero (suc k) = All-cons (λ byte. byte < 256) 0 (zeros k) (omega arith) (bytes_zero k)

bytes : (x : ℕ) → x < 256 → All (λ byte. byte < 256) (memory_with x)
bytes x lt = All-cons (λ byte. byte < 256) x (zeros 7) lt (bytes_zero 7)

between : (i : ℕ) → IsBetween z (old i)
between i = record {
  length = refl;
  bytes = bytes (clock_of i) (omega (arith, small_clock i));
  sent = omega (arith, small_clock i);
}

sees : (i : ℕ) → Sees z correct old i (env i)
sees i = seen z correct old 0 (λ j. clock_of i) i (λ j lt is. between j) (omega arith)
    (λ j. omega (arith, small_clock i))

serves : Serves z
serves = record {
  nodes = omega arith;
  faults = omega arith;
  least = omega arith;
  most = omega arith;
  memory = omega arith;
}

count_two : (h : ℕ → ℕ) (i : ℕ) → i < 2 → truth (h i) ≡ true → truth (h 2) ≡ true → nat_lt (count_below 3 h) 2 ≡ false
count_two h zero lt a b = le-ltb (count_below 3 h) 2 (omega (arith, ap bit_of a, ap bit_of b))
count_two h (suc zero) lt a b = le-ltb (count_below 3 h) 2 (omega (arith, ap bit_of a, ap bit_of b))
count_two h (suc (suc i)) lt a b = absurd (omega (arith, lt))

passes : (i j x : ℕ) → message_from z (env i) j ≡ x → truth (bit_of (message_from z (env i) j == x)) ≡ true
passes i j x e = truth_of (message_from z (env i) j == x) ∙ eq-eqb (message_from z (env i) j) x e

many : (i : ℕ) → i < 2 → IsTrue (correct i) → nat_lt (second_let z (env i) (clock_of i)) 2 ≡ false
many i lt is =
    let x = clock_of i in
    let own : message_from z (env i) i ≡ x = heard z correct old i i (env i) (sees i) (omega (arith, lt)) is in
    let other : message_from z (env i) 2 ≡ x =
    ap (λ mail. unwrap_or mail 4294967295) ((built 3 (comes correct old (λ j. x))).each 2 (omega arith)) in
    count_two (λ j. bit_of (message_from z (env i) j == x)) i lt (passes i i x own) (passes i 2 x other)

pair_zero : pair_of z (env 0) (old 0).memory ≡ (2, 1)
pair_zero = ap (λ (b : Bool). cond {A = ℕ × ℕ} b (0, 0) (2, 1)) (many 0 (omega arith) refl)

pair_one : pair_of z (env 1) (old 1).memory ≡ (3, 1)
pair_one = ap (λ (b : Bool). cond {A = ℕ × ℕ} b (0, 0) (3, 1)) (many 1 (omega arith) refl)

pub refuted : (rule : Statement) → statement_form rule ≡ clock_statement → Holds rule agreement_by_halves → ⊥
refuted rule e law =
    let small : AreSmall z = record { nodes = omega arith; faults = omega arith; modulus = omega arith } in
    let few : HasFewFaults 3 1 correct = omega arith in
    let step = law z correct small refl few env old (λ i lt is. between i) (λ p lt is q lt' is'. refl)
    (λ i lt is. (sees i, refl)) in
    let new_is : EachCorrect 3 correct (λ i. step.new i ≡ node_after z (env i) (old i)) =
    λ i lt is. becomes_one rule z (env i) (old i) (step.new i) (node_after z (env i) (old i)) i lt
    (step.becomes i lt is) (becomes z (env i) (old i) serves (between i) (omega arith) rule e) in
    let clock_zero : node_clock (step.new 0) ≡ 2 = ap node_clock (new_is 0 (omega arith) refl)
    ∙ clock_after z (env 0) (old 0) serves (between 0) (omega arith) ∙ ap (λ (x : ℕ × ℕ). x.0) pair_zero in
    let clock_one : node_clock (step.new 1) ≡ 3 = ap node_clock (new_is 1 (omega arith) refl)
    ∙ clock_after z (env 1) (old 1) serves (between 1) (omega arith) ∙ ap (λ (x : ℕ × ℕ). x.0) pair_one in
    let alike = step.each 0 (omega arith) refl 1 (omega arith) refl in
    true≢false (sym alike ∙ ap₂ (λ (a b : ℕ). (a == 0) || ((b == 0) || (a == b))) clock_zero clock_one)
