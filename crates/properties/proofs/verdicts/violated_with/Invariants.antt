use Rattle.std.proofs.Common.{◌≡◌, drop, map}
use Rattle.properties.specs.Verdicts.{violated_with}
use Rattle.properties.specs.Views.{node_in_view}
use Rattle.properties.proofs.verdicts.violated_with.Given as goal

-- what is still to come decides
abbrev pub invariant-loop-second : goal.invariant-loop-second
invariant-loop-second l =
    violated_with l.t l.sizes (node_in_view l.first) (map node_in_view (drop l.second-index l.nodes))
    ≡ violated_with l.t l.sizes (node_in_view l.first) (map node_in_view l.nodes)
