use Rattle.std.proofs.Common.{◌≡◌, ◌++◌, drop}
use Rattle.std.specs.Prelude.{string_bytes}
use Rattle.claims_json.specs.Data.{property_lines_from}
use Rattle.properties.specs.Claims.{claimed_in}
use Rattle.claims_json.proofs.lines.add_properties.Given as goal

-- what is added and what is still to come are the whole
abbrev pub invariant-loop-place : goal.invariant-loop-place
invariant-loop-place l =
    string_bytes l.text ++ property_lines_from l.place (drop l.place l.properties) (claimed_in l.pulses)
    ≡ string_bytes l.fn.text ++ property_lines_from 0 l.properties (claimed_in l.pulses)
