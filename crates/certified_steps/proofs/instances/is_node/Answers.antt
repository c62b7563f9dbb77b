use Rattle.std.proofs.Common.{◌≡◌, ℕ, ◌+◌, ◌-◌, subst, arith}
use Rattle.rule_paths.specs.Relations.{Constant, Variable, IsAtMost}
use Rattle.rule_paths.specs.Paths.{has_32_bits}
use Rattle.rule_formulas.specs.Numbers.{integers, Implies}
use Rattle.certified_steps.proofs.instances.is_node.Goals as goal

pub returns : goal.returns
returns c v h =
    let i = integers v in
    let end = c.in_ok-end.ensures in
    let told : c.in_ok-end.end - 1 ≡ c.args.k + 2 = omega (arith, end) in
    let flip : c.in_ok-end.end - 2 ≡ c.args.k + 1 = omega (arith, end) in
    let sent = subst (λ (x : ℕ). Implies (has_32_bits (Variable x)) c.in_ok-sent.sent) told c.in_ok-sent.ensures in
    let low = subst (λ (x : ℕ). Implies (IsAtMost (Constant 0) (Variable x)) c.in_ok-low.low) flip c.in_ok-low.ensures in
    let high = subst (λ (x : ℕ). Implies (IsAtMost (Variable x) (Constant 1)) c.in_ok-high.high) flip c.in_ok-high.ensures in
    c.in_ok-both.ensures i (c.in_ok-numbers.ensures v h.0)
    (c.in_ok-rest.ensures i (sent v h.1.0)
    (c.in_ok-last.ensures i (c.in_ok-one.ensures i (c.in_ok-some.ensures v h.1.1.0.0) (c.in_ok-few.ensures v h.1.1.0.1))
    (c.in_ok-flip.ensures i (low v h.1.1.1.0) (high v h.1.1.1.1))))
