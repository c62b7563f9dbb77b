use Rattle.rule_formulas.specs.Numbers.{integers}
use Rattle.certified_steps.proofs.steps.sizes_are_numbers.Goals as goal

pub returns : goal.returns
returns c v h =
    c.in_ok-both.ensures (integers v) (c.in_ok-nodes.ensures v h.0)
    (c.in_ok-rest.ensures (integers v) (c.in_ok-faults.ensures v h.1.0) (c.in_ok-modulus.ensures v h.1.1))
