use Rattle.std.proofs.Common.{arith}
use Rattle.node_env.specs.declared.shape.TheConstants.{MAX_MEMORY}
use Rattle.command_line.proofs.RangeLemmas.{part_is}
use Rattle.command_line.proofs.lists.places_in.Goals as goal

pub returns-then-span-ge-MAX_MEMORY-clause-none : goal.returns-then-span-ge-MAX_MEMORY-clause-none
returns-then-span-ge-MAX_MEMORY-clause-none c = λ part.
    let fits = part_is MAX_MEMORY c.args.part.now c.in_ok-span.span.first c.in_ok-span.span.last
    c.in_ok-span.ensures.span.range part in
    let below = fits.1 in omega arith
