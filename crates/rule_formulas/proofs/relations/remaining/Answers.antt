use Rattle.std.proofs.Common.{inl, inr}
use Rattle.rule_formulas.specs.Numbers.{integers}
use Rattle.rule_formulas.proofs.relations.remaining.Goals as goal

pub returns : goal.returns
returns c v h =
    let i = integers v in
    c.in_ok-either.ensures i (elim h [
      | inl x ↦ inl (c.in_ok-none.ensures i (c.in_ok-zero.ensures v x.0) (c.in_ok-kept.ensures v x.1))
      | inr y ↦ inr (c.in_ok-some.ensures i (elim y [
        | inl x ↦ inl (c.in_ok-low.ensures i (c.in_ok-below.ensures v x.0) (c.in_ok-same.ensures v x.1))
        | inr w ↦ inr (c.in_ok-high.ensures i (elim w [
          | inl x ↦ inl (c.in_ok-next.ensures i (c.in_ok-few.ensures v x.0) (c.in_ok-once.ensures v x.1))
          | inr x ↦ inr (c.in_ok-last.ensures i (c.in_ok-far.ensures v x.0) (c.in_ok-rest.ensures v x.1))
        ]))
      ]))
    ])
