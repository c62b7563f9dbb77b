use Rattle.std.proofs.Common.{◌≡◌, pos, ◌+ℤ◌, ap, subst, sym, arith}
use Rattle.std.specs.Prelude.{IfOk}
use Rattle.std.proofs.lemmas.Int.{ints}
use Rattle.std.proofs.lemmas.Result.{IfOk-weaker}
use Rattle.linear_certificates.specs.Meaning.{linear_value}
use Rattle.rule_paths.specs.Relations.{Expression, Numbers, expression_number}
use Rattle.rule_formulas.specs.Numbers.{integers}
use Rattle.step_searches.specs.declared.claims.Total.{Total}
use Rattle.step_searches.specs.Views as views
use Rattle.certified_steps.specs.Views.{view}
use Rattle.certified_steps.proofs.views.+added_total.Goals as goal

pub returns-in_ok-next-in-Plus : goal.returns-in_ok-next-in-Plus
returns-in_ok-next-in-Plus t c =
    let p = view c.args.p.now in
    let q = view c.args.q.now in
    subst (λ (r : Total). IfOk c.added_total.result (λ l. (v : Numbers) → linear_value (integers v) l
    ≡ linear_value (integers v) c.args.sum +ℤ pos (expression_number v (views.summed p q r)))) (sym c.in-Plus.is)
    (IfOk-weaker c.added_total.result _ _ (λ l says v.
    let rest = ap (λ (r : Total). expression_number v (views.summed p q r)) c.deref.ensures in
    let one = ap (λ (e : Expression). expression_number v e) c.in_ok-number-in-Plus.ensures in
    omega (arith, ints, says v, rest, one, c.in_ok-next-in-Plus.ensures v)) c.added_total.ensures)
