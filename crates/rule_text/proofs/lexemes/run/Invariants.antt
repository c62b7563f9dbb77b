use Rattle.std.proofs.Common.{◌≡◌, ◌+◌, drop}
use Rattle.rule_text.specs.Tokens.{run}
use Rattle.rule_text.proofs.lexemes.run.Given as goal

abbrev pub invariant-loop-i : goal.invariant-loop-i
invariant-loop-i l = run l.class l.text ≡ l.i + run l.class (drop l.i l.text)
