-- Where numbers are found.
use Rattle.std.proofs.Common.{Bool, true, false}
use Rattle.rule_nodes.specs.declared.numbers.Source.{Source}
use Rattle.rule_nodes.specs.declared.numbers.Source.TheVariants.{Constant, FromLocal, FromWord, Computed}

abbrev pub is_found : Source → Bool
is_found (Constant c) = true
is_found (FromLocal k) = true
is_found (FromWord k) = true
is_found Computed = false
