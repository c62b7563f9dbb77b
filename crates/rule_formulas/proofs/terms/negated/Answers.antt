use Rattle.std.proofs.Common.{refl}
use Rattle.rule_paths.specs.Paths as paths
use Rattle.rule_formulas.proofs.terms.negated.Goals as goal

pub returns : goal.returns
returns c f h = record {
  facts = h.facts;
  what = (
    paths.fails_of f.what,
    paths.holds_of f.what,
    refl,
    c.in_ok-holds.ensures.fails f.what h.what,
    c.in_ok-holds.ensures.holds f.what h.what,
  );
  next = h.next;
}
