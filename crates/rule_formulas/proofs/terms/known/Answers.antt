use Rattle.std.proofs.Common.{◌≡◌, Option, sym, ap, subst}
use Rattle.std.proofs.lemmas.Result.{IfOk-weaker}
use Rattle.std.specs.Prelude.{IfSome}
use Rattle.rule_paths.specs.Paths as paths
use Rattle.rule_formulas.specs.declared.numbers.Number.{Number}
use Rattle.rule_formulas.specs.Numbers.{expression}
use Rattle.rule_formulas.proofs.terms.known.Goals as goal

pub returns-in-Some : goal.returns-in-Some
returns-in-Some c =
    IfOk-weaker c.as_is.result _ _ (λ m says e h.
    let is : expression c.in-Some.x ≡ e = subst (λ (o : Option Number). IfSome o (λ x. expression x ≡ e)) c.in-Some.is h in
    says (paths.Value e) (ap paths.Value (sym is))) c.as_is.ensures
