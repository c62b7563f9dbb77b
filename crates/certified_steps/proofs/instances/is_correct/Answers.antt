use Rattle.std.proofs.Common.{ℕ, subst}
use Rattle.rule_paths.specs.Relations.{AllOf}
use Rattle.rule_formulas.specs.Numbers.{integers, Implies}
use Rattle.step_searches.specs.Views as views
use Rattle.step_searches.specs.Views.{View, start_view, end_view}
use Rattle.certified_steps.proofs.instances.is_correct.Goals as goal

pub returns : goal.returns
returns c v h =
    let i = integers v in
    let k = c.args.k in
    let b = c.args.step.now.before in
    let with_first = subst (λ (x : ℕ). Implies (AllOf (views.stated (start_view k) (start_view x) b) (views.stated (start_view x) (start_view k) b))
    c.in_ok-with_first.with_first) c.in_ok-first.ensures c.in_ok-with_first.ensures in
    let with_second = subst (λ (x : ℕ). Implies (AllOf (views.stated (start_view k) (start_view x) b) (views.stated (start_view x) (start_view k) b))
    c.in_ok-with_second.with_second) c.in_ok-second.ensures c.in_ok-with_second.ensures in
    c.in_ok-both.ensures i (c.in_ok-own.ensures v h.0) (c.in_ok-rest.ensures i (with_first v h.1.0) (with_second v h.1.1))
