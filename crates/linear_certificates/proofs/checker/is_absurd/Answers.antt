use Rattle.std.proofs.Common.{rules, ◌≤ℤ◌, pos, FitsSigned, arith}
use Rattle.std.specs.Int.{w128}
use Rattle.std.proofs.lemmas.Int.{ints}
use Rattle.linear_certificates.specs.Meaning.{linear_value}
use Rattle.linear_certificates.proofs.checker.is_absurd.Goals as goal

pub returns-in-Some-constant_of : goal.returns-in-Some-constant_of
returns-in-Some-constant_of c above v all =
    let fits : FitsSigned w128 c.in-Some-constant_of.c = search rules in
    let low : linear_value v c.in-Some.sum ≤ℤ pos 0 = (rw c.in-Some.is at c.in_ok-sum.ensures) v all in
    omega (arith, ints, above, low, c.in-Some-constant_of.ensures v)
