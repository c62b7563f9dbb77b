use Rattle.std.proofs.Common.{◌≤ℤ◌, pos}
use Rattle.linear_certificates.specs.Meaning.{Assignment, linear_value}
use Rattle.linear_certificates.specs.Facts.{AllHold}
use Rattle.linear_certificates.proofs.checker.sum_of.Given as goal

abbrev pub invariant-loop-multiple : goal.invariant-loop-multiple
invariant-loop-multiple l = (v : Assignment) → AllHold v l.known → linear_value v l.sum ≤ℤ pos 0
