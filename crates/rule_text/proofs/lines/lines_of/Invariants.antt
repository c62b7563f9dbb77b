use Rattle.std.proofs.Common.{◌≡◌, ◌++◌, drop}
use Rattle.rule_text.specs.declared.lines.Spot.TheVariants.{Inside}
use Rattle.rule_text.specs.Lines.{token_lines_from}
use Rattle.rule_text.proofs.lines.lines_of.Given as goal

abbrev pub invariant-loop-t : goal.invariant-loop-t
invariant-loop-t l = token_lines_from Inside l.tokens ≡ l.lines.items ++ token_lines_from l.spot (drop l.t-index l.tokens)
