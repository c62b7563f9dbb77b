use Rattle.std.proofs.Common.{◌^◌, arith}
use Rattle.command_line.proofs.RangeLemmas.{part_is}
use Rattle.command_line.proofs.lists.rising.Goals as goal

pub returns-then-span-clause-none : goal.returns-then-span-clause-none
returns-then-span-clause-none c = λ part.
    let fits = part_is (2 ^ 32) c.args.part.now c.in-Ok.span.first c.in-Ok.span.last c.in-Ok.ensures.range part in
    let rises = fits.0 in omega arith
