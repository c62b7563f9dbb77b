use Rattle.command_line.proofs.RangeLemmas.{adds_part}
use Rattle.command_line.proofs.lists.add_bytes.Goals as goal

pub returns-clause-added : goal.returns-clause-added
returns-clause-added c = adds_part c.args.part.now c.in-Some.span.first c.in-Some.span.last
    c.args.bytes.now.keys c.insert_span.new.numbers.keys c.in-Some.ensures.span.range c.in_ok-insert_span.ensures
