use Rattle.std.proofs.Common.{◌≡◌, ◌++◌, drop, map}
use Rattle.serde_json.specs.View.{view}
use Rattle.exploration_json.specs.Data.{cells_data}
use Rattle.exploration_json.proofs.spans.all_cells_value.Given as goal

-- what is told and what is still to come are the whole
abbrev pub invariant-loop-cells : goal.invariant-loop-cells
invariant-loop-cells l = map view l.values.items ++ map cells_data (drop l.cells-index l.all) ≡ map cells_data l.all
