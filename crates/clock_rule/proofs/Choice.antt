-- The four cases of the rule: what the statement leaves is the pair of `pair_from`.
use Rattle.std.proofs.Common.{◌≡◌, ℕ, ◌+◌, ◌-◌, ◌%◌, ◌^◌, ◌<◌, ◌≤◌, ◌==◌, nat_lt, not, Bool, true, false, cond, if◌then◌else◌, [], refl, ap, ◌∙◌, arith}
use Rattle.std.proofs.Math.Nat.{mod-eq_of_lt}
use Rattle.std.proofs.lemmas.Bool.{ne_eqb}
use Rattle.node_env.specs.Env.{Setting}
use Rattle.clock_nodes.specs.Rule.{pair_from}
use Rattle.rule_syntax.specs.declared.syntax.Operation.TheVariants.{Sum, Difference, Remainder}
use Rattle.rule_syntax.specs.declared.syntax.Sizes.{Sizes}
use Rattle.rule_syntax.specs.declared.syntax.Target.TheVariants.{ToWord}
use Rattle.rule_meaning.specs.Meaning.{NodeState, apply, bit_of, truth, word_at, assigned}
use Rattle.clock_rule.specs.Clock.{new_pair}
use Rattle.clock_rule.proofs.FormMeaning.{form_after}

pub truth_of : (b : Bool) → truth (bit_of b) ≡ b
truth_of true = refl
truth_of false = refl

-- ---- the numbers of the conditions and of the next clock

pub difference_is : (n f : ℕ) → f < n → n ≤ 64 → apply Difference n f ≡ n - f
difference_is n f less few = omega (arith, less, few)

pub next_is : (v modulus : ℕ) → v < modulus → modulus ≤ 65536
    → apply Remainder (apply Sum v 1) modulus ≡ (v + 1) % modulus
next_is v modulus less most =
    let whole : (v + 1) % 2 ^ 32 ≡ v + 1 = mod-eq_of_lt (omega (arith, less, most)) in
    let some : (modulus == 0) ≡ false = ne_eqb modulus 0 (λ e. omega (arith, less, e)) in
    ap (λ (b : Bool). if b then apply Sum v 1 else apply Sum v 1 % modulus) some ∙ ap (λ (x : ℕ). x % modulus) whole

-- ---- the cases

-- clock and mark of this pair
abbrev pub with_both : ℕ × ℕ → NodeState → NodeState
with_both pair u = assigned (ToWord 1) pair.1 (assigned (ToWord 0) pair.0 u)

abbrev chain : Bool → Bool → Bool → ℕ → ℕ → NodeState → NodeState
chain a b c next k u =
    if truth (bit_of a) then with_both (0, 0) u
    else if truth (bit_of b) then with_both (next, 1) u
    else if truth (bit_of c) then with_both (1, 1) u
    else with_both (k, k) u

chained : (a b c : Bool) (next k : ℕ) (u : NodeState)
    → chain a b c next k u
    ≡ with_both (cond {A = ℕ × ℕ} a (0, 0) (cond b (next, 1) (cond c (1, 1) (k, k)))) u
chained true b c next k u = refl
chained false true c next k u = refl
chained false false true next k u = refl
chained false false false next k u = refl

pub new_pair_is : (z : Sizes) (env : Setting) (u : NodeState) (quorum : ℕ) → apply Difference z.nodes z.faults ≡ quorum
    → apply Remainder (apply Sum (u.locals 0) 1) z.modulus ≡ (u.locals 0 + 1) % z.modulus
    → form_after new_pair z env 2 [] u
    ≡ with_both (pair_from quorum z.modulus (u.locals 1) (u.locals 0) (word_at 1 u.memory) env.coin) u
new_pair_is z env u quorum e f =
    let v = u.locals 0 in
    let b = not (v == 0) in
    let c = not (word_at 1 u.memory == 0) in
    let raw = apply Remainder (apply Sum v 1) z.modulus in
    ap (λ (q : ℕ). chain (nat_lt (u.locals 1) q) b c raw env.coin u) e
    ∙ ap (λ (x : ℕ). chain (nat_lt (u.locals 1) quorum) b c x env.coin u) f
    ∙ chained (nat_lt (u.locals 1) quorum) b c ((v + 1) % z.modulus) env.coin u
