use Rattle.std.proofs.Common.{refl, arith, rules}
use Rattle.clock_nodes.specs.Listings.{send_block, send_blocks}
use Rattle.clock_nodes.proofs.Adding.{one_more}
use Rattle.clock_nodes.proofs.clock.add_send_blocks.Goals as goal

pub loop-receiver-preserved : goal.loop-receiver-preserved
loop-receiver-preserved c =
    one_more send_block send_blocks (λ n j. refl) c.loop-receiver.insns.items _ _ c.args.nodes c.loop-receiver.receiver
    (omega arith) (search rules) c.loop-receiver.invariant
