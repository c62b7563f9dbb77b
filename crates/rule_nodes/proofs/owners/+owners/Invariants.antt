use Rattle.std.proofs.Common.{◌≡◌, ◌++◌, [], ◌∷◌}
use Rattle.rule_nodes.specs.Owners.{each_owners, owners_of}
use Rattle.rule_nodes.proofs.owners.+owners.Given as goal

abbrev pub decreases-owners : goal.decreases-owners
decreases-owners l = goal.size-owners l

abbrev pub invariant-loop-node : goal.invariant-loop-node
invariant-loop-node l =
    l.all.items ≡ each_owners (λ j. owners_of l.body.value l.sizes (l.loops ++ j ∷ []) l.depth l.next) l.node
