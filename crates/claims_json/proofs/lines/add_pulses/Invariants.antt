use Rattle.std.proofs.Common.{◌≡◌, ◌++◌, drop}
use Rattle.std.specs.Prelude.{flat_map, string_bytes}
use Rattle.claims_json.specs.Data.{pulse_claims_line}
use Rattle.properties.specs.Claims.{claimed_in}
use Rattle.claims_json.proofs.lines.add_pulses.Given as goal

-- what is added and what is still to come are the whole
abbrev pub invariant-loop-claims : goal.invariant-loop-claims
invariant-loop-claims l =
    string_bytes l.text ++ flat_map pulse_claims_line (claimed_in (drop l.claims-index l.pulses))
    ≡ string_bytes l.fn.text ++ flat_map pulse_claims_line (claimed_in l.pulses)
