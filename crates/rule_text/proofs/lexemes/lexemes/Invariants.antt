use Rattle.std.proofs.Common.{◌≡◌, ◌≤◌, ◌+◌, ◌++◌, drop}
use Rattle.rule_text.specs.Tokens.{lexemes_from, lexemes_of}
use Rattle.rule_text.proofs.lexemes.lexemes.Given as goal

abbrev pub invariant-loop-i : goal.invariant-loop-i
invariant-loop-i l = record {
  read : lexemes_of l.text ≡ l.tokens.items ++ lexemes_from l.scan.skip l.scan.end l.at (drop l.i l.text);
  offset : l.at.offset ≡ l.i;
  line : l.at.line ≤ l.i + 1;
  column : l.at.column ≤ l.i + 1;
}
