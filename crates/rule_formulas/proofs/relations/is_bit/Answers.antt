use Rattle.std.proofs.Common.{inl, inr}
use Rattle.rule_formulas.specs.Numbers.{integers}
use Rattle.rule_formulas.proofs.relations.is_bit.Goals as goal

pub returns : goal.returns
returns c p q so not_so v h =
    let i = integers v in
    c.in_ok-either.ensures i (elim h [
      | inl x ↦ inl (c.in_ok-first.ensures i (so v x.0) (c.in_ok-one.ensures v x.1))
      | inr x ↦ inr (c.in_ok-second.ensures i (not_so v x.0) (c.in_ok-none.ensures v x.1))
    ])
