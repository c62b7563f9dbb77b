use Rattle.std.proofs.Common.{◌≡◌, ◌++◌, drop, map}
use Rattle.properties.specs.Claims.{claimed_in, verdict_at}
use Rattle.claims_json.proofs.counts.verdicts_at.Given as goal

-- what is found and what is still to come are the whole
abbrev pub invariant-loop-claims : goal.invariant-loop-claims
invariant-loop-claims l =
    l.verdicts.items ++ map (verdict_at l.place) (claimed_in (drop l.claims-index l.pulses))
    ≡ map (verdict_at l.place) (claimed_in l.pulses)
