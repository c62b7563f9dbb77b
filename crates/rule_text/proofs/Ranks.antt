-- The functions that read a term call one another in this order, and all call parts with less room.
use Rattle.std.proofs.Common.{ℕ}
use Rattle.rule_text.specs.declared.joints.Chain.{Chain}
use Rattle.rule_text.specs.declared.joints.Chain.TheVariants.{Product, Sum, Both, Either}

abbrev pub rank : Chain → ℕ
rank Product = 4
rank Sum = 6
rank Both = 10
rank Either = 12
