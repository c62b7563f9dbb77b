use Rattle.std.proofs.Common.{◌≡◌, ◌+ℤ◌, ◌*ℤ◌, ap, ◌∙◌, arith}
use Rattle.std.proofs.lemmas.Int.{ints}
use Rattle.linear_certificates.specs.Meaning.{terms_value}
use Rattle.linear_certificates.proofs.TermSums.{terms_value-push}
use Rattle.rule_formulas.specs.Numbers.{integers}
use Rattle.rule_formulas.proofs.numbers.with_taken.Goals as goal

pub returns : goal.returns
returns c v =
    let i = integers v in
    let old = c.args.sum.terms.items in
    let pushed : terms_value i c.push.new.self.items ≡ terms_value i old +ℤ c.taken-part.result.term.coefficient *ℤ i c.taken-part.result.term.variable =
    ap (terms_value i) c.in_ok-push.ensures.items ∙ terms_value-push i old c.taken-part.result.term in
    omega (arith, ints, pushed, c.taken-part.ensures.says v, c.in_ok-constant.ensures)
