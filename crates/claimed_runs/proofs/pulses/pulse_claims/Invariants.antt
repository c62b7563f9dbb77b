use Rattle.std.proofs.Common.{◌≡◌, ◌++◌, drop, map}
use Rattle.bench_workers.specs.Watching.{seen_of}
use Rattle.claimed_runs.specs.Claims.{property_verdict}
use Rattle.claimed_runs.specs.Views.{memory_lists}
use Rattle.claimed_runs.proofs.pulses.pulse_claims.Given as goal

-- what is judged and what is still to come are the whole
abbrev pub invariant-loop-property : goal.invariant-loop-property
invariant-loop-property l =
    l.verdicts.items ++ map (property_verdict l.sizes (memory_lists l.before) (seen_of l.shown))
    (drop l.property-index l.properties)
    ≡ map (property_verdict l.sizes (memory_lists l.before) (seen_of l.shown)) l.properties
