use Rattle.std.proofs.Common.{◌≡◌, ℕ, suc, ◌+◌, ◌-◌, subst, arith}
use Rattle.rule_paths.specs.Relations.{Constant, Variable, IsAtMost, RelationHolds}
use Rattle.rule_formulas.specs.Numbers.{integers, Implies}
use Rattle.step_searches.specs.Searches as searches
use Rattle.certified_steps.proofs.steps.+names_are_numbers.Goals as goal

pub returns : goal.returns
returns t c v h =
    let n = c.args.n - 1 in
    let e : c.args.n ≡ suc n = omega (arith, c.if-n-eq0.false) in
    let whole = subst (λ (m : ℕ). RelationHolds v (searches.names_are_numbers m)) e h in
    let last : Implies (IsAtMost (Constant 0) (Variable (3 + n))) c.in_ok-last.last =
    subst (λ (x : ℕ). Implies (IsAtMost (Constant 0) (Variable x)) c.in_ok-last.last) c.in_ok-name.ensures c.in_ok-last.ensures in
    c.in_ok-both.ensures (integers v) (c.in_ok-before.ensures v whole.0) (last v whole.1)
