-- Counts and messages of the meaning, for the laws of `quorums`.
use Rattle.std.proofs.Common.{◌≡◌, ℕ, zero, suc, ◌+◌, ◌<◌, ◌≤◌, arith, Bool, if◌then◌else◌, refl, sym, ap, ◌∙◌}
use Rattle.std.specs.Prelude.{IsTrue, unwrap_or}
use Rattle.std.proofs.lemmas.Bool.{lt-ltb}
use Rattle.node_env.specs.declared.env.TheConstants.{NO_MAIL}
use Rattle.node_env.specs.Env.{Setting, received}
use Rattle.rule_syntax.specs.declared.syntax.Sizes.{Sizes}
use Rattle.rule_meaning.specs.Meaning.{bit_of, truth, count_below, message_from}
use Rattle.quorums.specs.Counts.{count, SomeNode, SomeCorrect, HasFewFaults}
use Rattle.quorums.proofs.Marks.{count_le, reaches_correct, one_passes_both, one_correct_passes_both}
use Rattle.rule_steps.specs.Steps.{Between, Sees}

pub count_of_marks : (n : ℕ) (holds : ℕ → ℕ) → count_below n holds ≡ count n (λ j. truth (holds j))
count_of_marks zero holds = refl
count_of_marks (suc n) holds = ap (λ (k : ℕ). k + bit_of (truth (holds n))) (count_of_marks n holds)

pub heard : (z : Sizes) (correct : ℕ → Bool) (nodes : ℕ → Between) (p j : ℕ) (env : Setting)
    → Sees z correct nodes p env → j < z.nodes → IsTrue (correct j) → message_from z env j ≡ (nodes j).sent
heard z correct nodes p j env sees lt is =
    ap (λ (b : Bool). if b then received env j else NO_MAIL) (lt-ltb j z.nodes lt)
    ∙ ap (λ mail. unwrap_or mail NO_MAIL) (sees.sent j lt is)

pub both_heard : (z : Sizes) (correct : ℕ → Bool) (nodes : ℕ → Between) (p q j : ℕ) (at_p at_q : Setting)
    → Sees z correct nodes p at_p → Sees z correct nodes q at_q → j < z.nodes → IsTrue (correct j)
    → (message_from z at_p j ≡ (nodes j).sent) × (message_from z at_p j ≡ message_from z at_q j)
both_heard z correct nodes p q j at_p at_q sees_p sees_q lt is =
    let here = heard z correct nodes p j at_p sees_p lt is in
    (here, here ∙ sym (heard z correct nodes q j at_q sees_q lt is))

-- ---- the laws of `quorums`, of the meaning

abbrev marks : (ℕ → ℕ) → ℕ → Bool
marks p j = truth (p j)

pub meaning_le : (n : ℕ) (p : ℕ → ℕ) → count_below n p ≤ n
meaning_le n p = omega (arith, count_of_marks n p, count_le n (marks p))

pub meaning_reaches : (n f : ℕ) (correct : ℕ → Bool) (p : ℕ → ℕ) → HasFewFaults n f correct → f < count_below n p
    → SomeCorrect n correct (λ w. IsTrue (truth (p w)))
meaning_reaches n f correct p few more =
    reaches_correct n f correct (marks p) few (omega (arith, more, count_of_marks n p))

pub meaning_one : (n : ℕ) (p q : ℕ → ℕ) → n < count_below n p + count_below n q
    → SomeNode n (λ w. IsTrue (truth (p w)) × IsTrue (truth (q w)))
meaning_one n p q more =
    one_passes_both n (marks p) (marks q) (omega (arith, more, count_of_marks n p, count_of_marks n q))

pub meaning_two : (n f : ℕ) (correct : ℕ → Bool) (p q : ℕ → ℕ) → HasFewFaults n f correct
    → n + f < count_below n p + count_below n q → SomeCorrect n correct (λ w. IsTrue (truth (p w)) × IsTrue (truth (q w)))
meaning_two n f correct p q few more =
    one_correct_passes_both n f correct (marks p) (marks q) few
    (omega (arith, more, count_of_marks n p, count_of_marks n q))
