use Rattle.rule_formulas.specs.Numbers.{integers}
use Rattle.rule_formulas.proofs.relations.is_number.Goals as goal

pub returns : goal.returns
returns c v h =
    c.in_ok-both.ensures (integers v) (c.in_ok-low.ensures v h.0)
    (c.in_ok-high.ensures v h.1)
