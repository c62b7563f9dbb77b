use Rattle.std.proofs.Common.{◌≡◌, ℕ, suc, ◌+◌, ◌-◌, subst, arith}
use Rattle.rule_paths.specs.Relations.{Variable, RelationHolds}
use Rattle.rule_paths.specs.Paths.{has_32_bits}
use Rattle.rule_formulas.specs.Numbers.{integers, Implies}
use Rattle.step_searches.specs.Laws as laws
use Rattle.certified_steps.proofs.instances.+words_are_numbers.Goals as goal

pub returns : goal.returns
returns t c v h =
    let n = c.args.n - 1 in
    let e : c.args.n ≡ suc n = omega (arith, c.if-n-eq0.false) in
    let whole = subst (λ (m : ℕ). RelationHolds v (laws.words_are_numbers m c.args.k)) e h in
    let last : Implies (has_32_bits (Variable (c.args.k + 3 + n))) c.in_ok-last.last =
    subst (λ (x : ℕ). Implies (has_32_bits (Variable x)) c.in_ok-last.last) c.in_ok-variable.ensures c.in_ok-last.ensures in
    c.in_ok-both.ensures (integers v) (c.in_ok-before.ensures v whole.0) (last v whole.1)
