use Rattle.std.proofs.Common.{ℕ, subst}
use Rattle.rule_formulas.specs.Numbers.{integers, Implies}
use Rattle.step_searches.specs.Views.{start_view, stated}
use Rattle.step_searches.specs.Laws as laws
use Rattle.step_searches.specs.Searches as searches
use Rattle.certified_steps.proofs.steps.begun.Goals as goal

pub returns : goal.returns
returns c v h =
    let i = integers v in
    let step = c.args.step.now in
    let p = c.in_ok-p.ensures in
    let q = c.in_ok-q.ensures in
    let first = subst (λ (k : ℕ). Implies (laws.is_node step.words k) c.in_ok-first.first) p c.in_ok-first.ensures in
    let second = subst (λ (k : ℕ). Implies (laws.is_node step.words k) c.in_ok-second.second) q c.in_ok-second.ensures in
    let flip = subst (λ (k : ℕ). Implies (searches.coin_is step.coins k) c.in_ok-first_coin.first_coin) p c.in_ok-first_coin.ensures in
    let other = subst (λ (k : ℕ). Implies (searches.coin_is step.coins k) c.in_ok-second_coin.second_coin) q c.in_ok-second_coin.ensures in
    let own = subst (λ (k : ℕ). Implies (stated (start_view k) (start_view k) step.before) c.in_ok-own.own) p c.in_ok-own.ensures in
    let correct = subst (λ (k : ℕ). Implies (laws.is_correct (searches.pair_of step) k) c.in_ok-correct.correct) q c.in_ok-correct.ensures in
    c.in_ok-both.ensures i (c.in_ok-sizes.ensures v h.0)
    (c.in_ok-named.ensures i (c.in_ok-names.ensures v h.1.0)
    (c.in_ok-states.ensures i (c.in_ok-nodes.ensures i (first v h.1.1.0.0) (second v h.1.1.0.1))
    (c.in_ok-flips.ensures i (c.in_ok-coins.ensures i (flip v h.1.1.1.0.0) (other v h.1.1.1.0.1))
    (c.in_ok-met.ensures i (own v h.1.1.1.1.0) (correct v h.1.1.1.1.1)))))
