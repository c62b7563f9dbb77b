use Rattle.std.proofs.Common.{◌≡◌, ◌≤◌, drop}
use Rattle.rule_text.specs.Tokens.{decimal}
use Rattle.rule_text.proofs.lexemes.number_of.Given as goal

abbrev pub invariant-loop-byte : goal.invariant-loop-byte
invariant-loop-byte l = record {
  fits : l.total ≤ 4294967295;
  read : decimal 0 l.digits ≡ decimal l.total (drop l.byte-index l.digits);
}
