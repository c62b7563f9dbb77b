use Rattle.std.proofs.Common.{◌≡◌, ◌++◌, drop, map}
use Rattle.serde_json.specs.View.{view}
use Rattle.claims_json.specs.Data.{verdict_data}
use Rattle.claims_json.proofs.pulses_told.verdicts_value.Given as goal

-- what is told and what is still to come are the whole
abbrev pub invariant-loop-verdict : goal.invariant-loop-verdict
invariant-loop-verdict l =
    map view l.values.items ++ map verdict_data (drop l.verdict-index l.verdicts) ≡ map verdict_data l.verdicts
