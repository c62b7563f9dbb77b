use Rattle.certified_steps.proofs.search.+walks.Given as goal

abbrev pub decreases-walk_second : goal.decreases-walk_second
decreases-walk_second l = l.goal.now.depth

abbrev pub decreases-walk : goal.decreases-walk
decreases-walk l = l.goal.now.depth

abbrev pub decreases-walk_let : goal.decreases-walk_let
decreases-walk_let l = l.goal.now.depth

abbrev pub decreases-walk_assign : goal.decreases-walk_assign
decreases-walk_assign l = l.goal.now.depth

abbrev pub decreases-walk_send : goal.decreases-walk_send
decreases-walk_send l = l.goal.now.depth

abbrev pub decreases-walk_if : goal.decreases-walk_if
decreases-walk_if l = l.goal.now.depth
