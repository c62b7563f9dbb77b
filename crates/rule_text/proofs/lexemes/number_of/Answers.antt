use Rattle.std.proofs.Common.{arith}
use Rattle.rule_text.proofs.TokenLemmas.{too_great}
use Rattle.rule_text.proofs.lexemes.number_of.Goals as goal

pub returns-then-total-gt4294967295 : goal.returns-then-total-gt4294967295
returns-then-total-gt4294967295 c =
    too_great c.args.digits.now c.loop-byte.byte-index c.loop-byte.total (omega arith)
    (omega (arith, c.from.ensures, c.saturating_sub.ensures)) c.loop-byte.invariant.read
