use Rattle.std.proofs.Common.{◌≡◌, ◌-◌, ◌++◌}
use Rattle.clock_nodes.specs.Listings.{echo_blocks}
use Rattle.clock_nodes.proofs.hostile.add_echo_blocks.Given as goal

-- what is there and the blocks of the nodes that are left are the whole
abbrev pub invariant-loop-node : goal.invariant-loop-node
invariant-loop-node l = l.insns.items ++ echo_blocks (l.nodes - l.node) l.node ≡ l.fn.insns.items
    ++ echo_blocks l.nodes 0
