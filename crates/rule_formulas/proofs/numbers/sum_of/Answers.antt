use Rattle.std.proofs.Common.{◌≡◌, ◌*ℤ◌, ap, arith}
use Rattle.std.proofs.lemmas.Int.{ints}
use Rattle.linear_certificates.specs.declared.data.Term.{Term}
use Rattle.rule_formulas.specs.Numbers.{integers}
use Rattle.rule_formulas.proofs.numbers.sum_of.Goals as goal

pub returns-clause-says : goal.returns-clause-says
returns-clause-says c v =
    let term = λ (t : Term). t.coefficient *ℤ integers v t.variable in
    let one : term c.joined.result.first ≡ term c.added.result.term = ap term c.joined.ensures.first in
    let two : term c.joined.result.second ≡ term c.added-2.result.term = ap term c.joined.ensures.second in
    omega (
      arith,
      ints,
      one,
      two,
      c.joined.ensures.constant,
      c.added.ensures.says v,
      c.added-2.ensures.says v,
      c.two_of-a.ensures v,
    )
