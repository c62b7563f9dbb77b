use Rattle.std.proofs.Common.{◌≡◌, ◌++◌, drop}
use Rattle.clock_nodes.specs.Listings.{say_blocks}
use Rattle.clock_nodes.proofs.hostile.add_say_blocks.Given as goal

-- what is there and the blocks of the values that are left are the whole
abbrev pub invariant-loop-receiver : goal.invariant-loop-receiver
invariant-loop-receiver l = l.insns.items ++ say_blocks l.receiver (drop l.receiver l.values) ≡ l.fn.insns.items
    ++ say_blocks 0 l.values
