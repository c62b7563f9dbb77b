use Rattle.std.proofs.Common.{refl}
use Rattle.rule_nodes.proofs.Lengths.{let_within}
use Rattle.rule_nodes.proofs.owners.+owners.Goals as goal

pub let_of-requires-clause-within : goal.let_of-requires-clause-within
let_of-requires-clause-within t c =
    let_within _ _ _ _ _ c.args.sizes c.args.loops.now c.args.depth c.in-Let.is refl c.requires.memory c.requires.fits
