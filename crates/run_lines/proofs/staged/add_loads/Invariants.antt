use Rattle.std.proofs.Common.{◌≡◌, ◌++◌, drop, map}
use Rattle.std.specs.Prelude.{flat_map}
use Rattle.serde_json.specs.View.{view}
use Rattle.run_lines.specs.Data.{staged_data}
use Rattle.run_lines.specs.Staged.{told_load}
use Rattle.run_lines.proofs.staged.add_loads.Given as goal

-- what is told and what is still to come are the whole
abbrev pub invariant-loop-load : goal.invariant-loop-load
invariant-loop-load l =
    map view l.values.items ++ map staged_data (flat_map (told_load l.pulse) (drop l.load-index l.loads))
    ≡ map view l.fn.values.items ++ map staged_data (flat_map (told_load l.pulse) l.loads)
