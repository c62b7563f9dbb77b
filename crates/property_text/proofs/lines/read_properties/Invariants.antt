use Rattle.std.proofs.Common.{◌≤◌, All, length}
use Rattle.property_text.specs.declared.lines.TheConstants.{MAX_PROPERTIES}
use Rattle.property_text.specs.Read.{IsBounded}
use Rattle.property_text.proofs.lines.read_properties.Given as goal

abbrev pub invariant-loop : goal.invariant-loop
invariant-loop l = (length l.properties.items ≤ MAX_PROPERTIES) × All IsBounded l.properties.items
