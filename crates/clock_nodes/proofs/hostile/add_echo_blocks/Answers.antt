use Rattle.std.proofs.Common.{refl, arith, rules}
use Rattle.clock_nodes.specs.Listings.{echo_block, echo_blocks}
use Rattle.clock_nodes.proofs.Adding.{one_more}
use Rattle.clock_nodes.proofs.hostile.add_echo_blocks.Goals as goal

pub loop-node-preserved : goal.loop-node-preserved
loop-node-preserved c =
    one_more echo_block echo_blocks (λ n j. refl) c.loop-node.insns.items _ _ c.args.nodes c.loop-node.node
    (omega arith) (search rules) c.loop-node.invariant
