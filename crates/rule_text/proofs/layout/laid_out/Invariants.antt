use Rattle.std.proofs.Common.{◌≡◌, ◌≤◌, ◌++◌, drop}
use Rattle.rule_text.specs.Tokens.{laid_from, first_lines}
use Rattle.rule_text.proofs.layout.laid_out.Given as goal

abbrev pub invariant-loop-t : goal.invariant-loop-t
invariant-loop-t l = record {
  laid : laid_from first_lines l.lexemes ≡ l.tokens.items ++ laid_from l.s (drop l.t-index l.lexemes);
  depth : l.s.depth ≤ l.t-index;
  tokens : l.s.tokens ≤ l.t-index;
  lines : l.s.lines ≤ l.t-index;
  lookups : l.s.lookups ≤ l.t-index;
}
