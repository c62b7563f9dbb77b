use Rattle.std.proofs.Common.{refl}
use Rattle.rule_paths.specs.Relations.{Always}
use Rattle.rule_formulas.proofs.terms.as_is.Goals as goal

pub returns : goal.returns
returns c w h = record { facts = c.in_ok-facts.ensures Always; what = h; next = refl }
