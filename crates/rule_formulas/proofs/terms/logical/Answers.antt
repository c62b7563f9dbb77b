use Rattle.rule_formulas.specs.Numbers.{integers}
use Rattle.rule_formulas.proofs.terms.logical.Goals as goal

pub returns : goal.returns
returns c f g hx hy = record {
  facts = λ v h. c.in_ok-facts.ensures (integers v) (hx.facts v h.0) (hy.facts v h.1);
  what = c.in_ok-what.ensures f.what g.what (c.in_ok-first.ensures.holds f.what hx.what) (c.in_ok-first.ensures.fails f.what hx.what)
      (c.in_ok-second.ensures.holds g.what hy.what) (c.in_ok-second.ensures.fails g.what hy.what);
  next = hy.next;
}
