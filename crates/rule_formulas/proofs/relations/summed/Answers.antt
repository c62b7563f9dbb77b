use Rattle.std.proofs.Common.{inl, inr}
use Rattle.rule_formulas.specs.Numbers.{integers}
use Rattle.rule_formulas.proofs.relations.summed.Goals as goal

pub returns : goal.returns
returns c v h =
    c.in_ok-either.ensures (integers v) (elim h [
      | inl exact ↦ inl (c.in_ok-exact.ensures v exact)
      | inr wrapped ↦ inr (c.in_ok-wrapped.ensures v wrapped)
    ])
