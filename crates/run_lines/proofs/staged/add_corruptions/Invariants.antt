use Rattle.std.proofs.Common.{◌≡◌, ◌++◌, drop, map}
use Rattle.std.specs.Prelude.{flat_map}
use Rattle.serde_json.specs.View.{view}
use Rattle.run_lines.specs.Data.{staged_data}
use Rattle.run_lines.specs.Staged.{told_corrupt}
use Rattle.run_lines.proofs.staged.add_corruptions.Given as goal

-- what is told and what is still to come are the whole
abbrev pub invariant-loop-corruption : goal.invariant-loop-corruption
invariant-loop-corruption l =
    map view l.values.items ++ map staged_data (flat_map (told_corrupt l.pulse) (drop l.corruption-index l.corruptions))
    ≡ map view l.fn.values.items ++ map staged_data (flat_map (told_corrupt l.pulse) l.corruptions)
