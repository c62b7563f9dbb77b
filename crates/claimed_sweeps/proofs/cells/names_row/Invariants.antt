use Rattle.std.proofs.Common.{◌≡◌, ◌++◌, [], drop, map}
use Rattle.csv.specs.Records.{fields_of, partial_of}
use Rattle.claimed_sweeps.specs.Cells.{claim_names, column_name}
use Rattle.claimed_sweeps.proofs.cells.names_row.Given as goal

-- the names that are put and those still to come are all
abbrev pub invariant-loop-property : goal.invariant-loop-property
invariant-loop-property l = record {
  fields : fields_of l.fields ++ map column_name (drop l.property-index l.properties) ≡ claim_names l.properties;
  part : partial_of l.fields ≡ [];
}
