use Rattle.std.proofs.Common.{inl, inr}
use Rattle.rule_formulas.specs.Numbers.{integers}
use Rattle.rule_formulas.proofs.relations.unequal.Goals as goal

pub returns : goal.returns
returns c v h =
    c.in_ok-either.ensures (integers v) (elim h [
      | inl below ↦ inl (c.in_ok-below.ensures v below)
      | inr above ↦ inr (c.in_ok-above.ensures v above)
    ])
