use Rattle.std.proofs.Common.{◌≡◌, drop, map}
use Rattle.properties.specs.Verdicts.{first_violated}
use Rattle.properties.specs.Views.{node_in_view}
use Rattle.properties.proofs.verdicts.first_violated.Given as goal

-- what is still to come decides
abbrev pub invariant-loop-first : goal.invariant-loop-first
invariant-loop-first l =
    first_violated l.t l.sizes (map node_in_view (drop l.first-index l.nodes)) (map node_in_view l.nodes)
    ≡ first_violated l.t l.sizes (map node_in_view l.nodes) (map node_in_view l.nodes)
