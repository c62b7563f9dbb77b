use Rattle.std.proofs.Common.{◌≡◌, ◌++◌, [], drop}
use Rattle.csv.specs.Records.{fields_of, partial_of}
use Rattle.properties.specs.Claims.{claimed_in}
use Rattle.claimed_sweeps.specs.Cells.{cells_from, claim_fields}
use Rattle.claimed_sweeps.proofs.cells.claims_row.Given as goal

-- the cells that are put and those still to come are all
abbrev pub invariant-loop-place : goal.invariant-loop-place
invariant-loop-place l = record {
  fields : fields_of l.fields ++ cells_from l.place (drop l.place l.properties) (claimed_in l.pulses)
      ≡ claim_fields l.fn.key l.properties (claimed_in l.pulses);
  part : partial_of l.fields ≡ [];
}
