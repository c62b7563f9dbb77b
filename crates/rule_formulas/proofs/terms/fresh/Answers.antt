use Rattle.std.proofs.Common.{refl}
use Rattle.rule_formulas.specs.Numbers.{integers}
use Rattle.rule_formulas.proofs.terms.fresh.Goals as goal

pub returns : goal.returns
returns c p q hp hq = record {
  facts = λ v h. c.in_ok-whole.ensures (integers v) (hp v h.0)
      (c.in_ok-said.ensures (integers v) (c.in_ok-small.ensures v h.1.0) (hq v h.1.1));
  what = refl;
  next = refl;
}
