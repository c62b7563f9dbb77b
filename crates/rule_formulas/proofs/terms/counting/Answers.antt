use Rattle.std.proofs.lemmas.Result.{IfOk-weaker}
use Rattle.rule_paths.specs.Relations.{Always, IsAtMost}
use Rattle.rule_paths.specs.Stores.{NodeCount}
use Rattle.rule_formulas.proofs.terms.counting.Goals as goal

pub returns : goal.returns
returns c =
    IfOk-weaker c.fresh.result _ _ (λ m says.
    says Always (λ e. IsAtMost e NodeCount) (c.in_ok-facts.ensures Always) c.in_ok-is.ensures) c.fresh.ensures
