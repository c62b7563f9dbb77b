use Rattle.std.proofs.Common.{arith}
use Rattle.command_line.proofs.RangeLemmas.{part_is}
use Rattle.command_line.proofs.lists.byte_span_in.Goals as goal

pub returns-then-span-gt-LAST_BYTE-clause-none : goal.returns-then-span-gt-LAST_BYTE-clause-none
returns-then-span-gt-LAST_BYTE-clause-none c = λ part.
    let fits = part_is 256 c.args.part.now c.in_ok-span.span.first c.in_ok-span.span.last
    c.in_ok-span.ensures.span.range part in
    let below = fits.1 in omega arith
