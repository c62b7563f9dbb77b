use Rattle.std.proofs.Common.{refl, arith, rules}
use Rattle.clock_nodes.specs.Listings.{count_block, count_blocks}
use Rattle.clock_nodes.proofs.Adding.{one_more}
use Rattle.clock_nodes.proofs.clock.add_count_blocks.Goals as goal

pub loop-sender-preserved : goal.loop-sender-preserved
loop-sender-preserved c =
    one_more count_block count_blocks (λ n j. refl) c.loop-sender.insns.items _ _ c.args.nodes c.loop-sender.sender
    (omega arith) (search rules) c.loop-sender.invariant
