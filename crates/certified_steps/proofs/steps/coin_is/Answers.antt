use Rattle.std.proofs.Common.{ℕ, ◌+◌, subst}
use Rattle.rule_paths.specs.Relations.{Variable, IsEqual, RelationHolds}
use Rattle.rule_formulas.specs.Numbers.{Implies}
use Rattle.step_searches.specs.declared.claims.Coins.{Coins}
use Rattle.step_searches.specs.Searches as searches
use Rattle.certified_steps.proofs.steps.coin_is.Goals as goal

pub returns-in_ok-equal-in-Named : goal.returns-in_ok-equal-in-Named
returns-in_ok-equal-in-Named c v h =
    let f = c.in_ok-equal-in-Named.field-0 in
    let whole = subst (λ (k : Coins). RelationHolds v (searches.coin_is k c.args.k)) c.in-Named.is h in
    let said : Implies (IsEqual (Variable (c.args.k + 1)) (Variable (3 + c.in-Named.j))) f =
    subst (λ (y : ℕ). Implies (IsEqual (Variable (c.args.k + 1)) (Variable y)) f) c.in_ok-name-in-Named.ensures
    (subst (λ (x : ℕ). Implies (IsEqual (Variable x) (Variable c.in_ok-name-in-Named.name)) f) c.in_ok-coin-in-Named.ensures
    c.in_ok-equal-in-Named.ensures) in
    said v whole
