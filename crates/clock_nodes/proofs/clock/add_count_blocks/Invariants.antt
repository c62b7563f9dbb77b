use Rattle.std.proofs.Common.{◌≡◌, ◌-◌, ◌++◌}
use Rattle.clock_nodes.specs.Listings.{count_blocks}
use Rattle.clock_nodes.proofs.clock.add_count_blocks.Given as goal

-- what is there and the blocks of the nodes that are left are the whole
abbrev pub invariant-loop-sender : goal.invariant-loop-sender
invariant-loop-sender l = l.insns.items ++ count_blocks (l.nodes - l.sender) l.sender ≡ l.fn.insns.items
    ++ count_blocks l.nodes 0
