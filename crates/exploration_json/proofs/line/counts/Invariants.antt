use Rattle.std.proofs.Common.{◌≡◌, ◌++◌, drop, map}
use Rattle.json_values.specs.Values.{number_data}
use Rattle.serde_json.specs.View.{view}
use Rattle.exploration_json.proofs.line.counts.Given as goal

-- what is told and what is still to come are the whole
abbrev pub invariant-loop-count : goal.invariant-loop-count
invariant-loop-count l =
    map view l.values.items ++ map number_data (drop l.count-index l.counts) ≡ map number_data l.counts
