use Rattle.std.proofs.Common.{◌≡◌, ◌∙◌, ap, arith}
use Rattle.rule_text.specs.Tokens.{lexeme_at}
use Rattle.rule_text.proofs.TokenLemmas.{byte_read}
use Rattle.rule_text.proofs.lexemes.push_byte.Goals as goal

pub returns : goal.returns
returns c = λ b bs is.
    let none : c.args.scan.skip ≡ 0 = omega arith in
    byte_read _ _ _ _ _ c.args.at b bs c.lexeme_at-here.result none
    (c.lexeme_at-here.ensures.lexeme ∙ ap (lexeme_at c.args.at) is) c.in_ok-push_kind.ensures c.end_after.ensures
