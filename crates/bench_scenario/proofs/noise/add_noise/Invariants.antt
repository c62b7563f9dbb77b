use Rattle.std.proofs.Common.{◌≡◌, ◌++◌, map}
use Rattle.std.specs.Prelude.{flat_map}
use Rattle.bench_workers.specs.Events.{event_of}
use Rattle.bench_scenario.specs.Coins.{keyed, places_below}
use Rattle.bench_scenario.specs.Noise.{noise_of}
use Rattle.bench_scenario.proofs.noise.add_noise.Given as goal

abbrev pub invariant-loop-node : goal.invariant-loop-node
invariant-loop-node l =
    map event_of l.row.items ≡ map event_of l.fn.row.items
    ++ flat_map (noise_of (keyed l.scenario l.draw.key) l.draw.pulse) (places_below l.node)
