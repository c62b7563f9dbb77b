use Rattle.std.proofs.lemmas.Result.{IfOk-weaker}
use Rattle.rule_paths.specs.Relations.{Always}
use Rattle.rule_formulas.proofs.terms.any_number.Goals as goal

pub returns : goal.returns
returns c =
    IfOk-weaker c.fresh.result _ _ (λ m says.
    says Always (λ r. Always) (c.in_ok-facts.ensures Always) (c.in_ok-is.ensures Always)) c.fresh.ensures
