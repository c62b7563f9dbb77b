use Rattle.std.proofs.Common.{◌≡◌, ℕ, ◌+◌, ◌-◌, subst, arith}
use Rattle.rule_paths.specs.Relations.{Variable}
use Rattle.rule_paths.specs.Stores.{initial_store}
use Rattle.rule_formulas.specs.Numbers.{integers, Implies}
use Rattle.step_searches.specs.Views as views
use Rattle.step_searches.specs.Views.{View, start_view, end_view}
use Rattle.certified_steps.proofs.instances.met.Goals as goal

pub returns : goal.returns
returns c v h =
    let k = c.args.k in
    let j = c.args.j in
    let b = c.args.step.now.before in
    let p : ℕ → View = λ x. end_view (initial_store k) (Variable x) in
    let q : ℕ → View = λ x. end_view (initial_store j) (Variable x) in
    let x = c.in_ok-beyond_node.field-0 - 1 in
    let y = c.in_ok-beyond_node-2.field-0 - 1 in
    let ex : x ≡ k + 2 = omega (arith, c.in_ok-beyond_node.ensures) in
    let ey : y ≡ j + 2 = omega (arith, c.in_ok-beyond_node-2.ensures) in
    let first : Implies (views.stated (start_view k) (start_view j) b) c.in_ok-first.first =
    subst (λ (n : ℕ). Implies (views.stated (start_view k) (q n) b) c.in_ok-first.first) ey
    (subst (λ (n : ℕ). Implies (views.stated (p n) (q y) b) c.in_ok-first.first) ex c.in_ok-first.ensures) in
    let second : Implies (views.stated (start_view j) (start_view k) b) c.in_ok-second.second =
    subst (λ (n : ℕ). Implies (views.stated (q n) (start_view k) b) c.in_ok-second.second) ey
    (subst (λ (n : ℕ). Implies (views.stated (q y) (p n) b) c.in_ok-second.second) ex c.in_ok-second.ensures) in
    c.in_ok-both.ensures (integers v) (first v h.0) (second v h.1)
