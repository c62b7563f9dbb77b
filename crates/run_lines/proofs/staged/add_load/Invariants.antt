use Rattle.std.proofs.Common.{◌≡◌, ◌++◌, drop, map}
use Rattle.serde_json.specs.View.{view}
use Rattle.run_lines.specs.Data.{staged_data}
use Rattle.run_lines.specs.Staged.{Loaded}
use Rattle.run_lines.proofs.staged.add_load.Given as goal

-- what is told and what is still to come are the whole
abbrev pub invariant-loop-node : goal.invariant-loop-node
invariant-loop-node l =
    map view l.values.items ++ map staged_data (map (λ node. Loaded node l.load.kind) (drop l.node-index l.node-items))
    ≡ map view l.fn.values.items ++ map staged_data (map (λ node. Loaded node l.load.kind) l.load.nodes.items)
