use Rattle.std.proofs.Common.{◌≡◌, ◌++◌, drop, map}
use Rattle.std.specs.Prelude.{flat_map}
use Rattle.serde_json.specs.View.{view}
use Rattle.run_lines.specs.Data.{staged_data}
use Rattle.run_lines.specs.Staged.{told_unload}
use Rattle.run_lines.proofs.staged.add_unloads.Given as goal

-- what is told and what is still to come are the whole
abbrev pub invariant-loop-unload : goal.invariant-loop-unload
invariant-loop-unload l =
    map view l.values.items ++ map staged_data (flat_map (told_unload l.pulse) (drop l.unload-index l.unloads))
    ≡ map view l.fn.values.items ++ map staged_data (flat_map (told_unload l.pulse) l.unloads)
