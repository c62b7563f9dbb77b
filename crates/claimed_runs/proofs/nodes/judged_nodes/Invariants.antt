use Rattle.std.proofs.Common.{◌≡◌, map}
use Rattle.std.specs.Prelude.{filter}
use Rattle.bench_workers.specs.Watching.{seen_of}
use Rattle.properties.specs.Views.{node_in_view}
use Rattle.bench_scenario.specs.Coins.{places_below}
use Rattle.claimed_runs.specs.Claims.{is_spoken_of, judged_node}
use Rattle.claimed_runs.specs.Views.{memory_lists}
use Rattle.claimed_runs.proofs.nodes.judged_nodes.Given as goal

abbrev pub invariant-loop-node : goal.invariant-loop-node
invariant-loop-node l =
    map node_in_view l.nodes.items ≡ map (judged_node (memory_lists l.before) (seen_of l.shown))
    (filter (is_spoken_of l.looks_back (seen_of l.shown)) (places_below l.node))
