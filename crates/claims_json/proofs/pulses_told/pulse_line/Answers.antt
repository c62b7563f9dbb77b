use Rattle.std.proofs.Common.{arith}
use Rattle.json_values.proofs.PlainLemmas.{flat_as, whole_as}
use Rattle.properties.specs.Claims.{claims_in_view}
use Rattle.claims_json.proofs.PlainLemmas.{plain_pulse}
use Rattle.claims_json.proofs.pulses_told.pulse_line.Goals as goal

pub line_of-requires-clause-whole : goal.line_of-requires-clause-whole
line_of-requires-clause-whole c =
    whole_as 2 _ _ c.in_ok-value.ensures (plain_pulse (claims_in_view c.args.claims.now))

pub line_of-requires-clause-flat : goal.line_of-requires-clause-flat
line_of-requires-clause-flat c =
    flat_as 2 _ _ (omega arith) c.in_ok-value.ensures (plain_pulse (claims_in_view c.args.claims.now))
