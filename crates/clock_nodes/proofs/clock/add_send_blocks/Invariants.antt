use Rattle.std.proofs.Common.{◌≡◌, ◌-◌, ◌++◌}
use Rattle.clock_nodes.specs.Listings.{send_blocks}
use Rattle.clock_nodes.proofs.clock.add_send_blocks.Given as goal

-- what is there and the blocks of the nodes that are left are the whole
abbrev pub invariant-loop-receiver : goal.invariant-loop-receiver
invariant-loop-receiver l = l.insns.items ++ send_blocks (l.nodes - l.receiver) l.receiver ≡ l.fn.insns.items
    ++ send_blocks l.nodes 0
