use Rattle.std.proofs.Common.{◌≡◌, map, take}
use Rattle.serde_json.specs.View.{view}
use Rattle.run_lines.specs.Data.{ran_data}
use Rattle.run_lines.proofs.nodes.ran.Given as goal

abbrev pub invariant-loop-node : goal.invariant-loop-node
invariant-loop-node l = map view l.values.items ≡ map ran_data (take l.node l.bench.state.nodes)
