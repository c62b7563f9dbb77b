use Rattle.std.proofs.Common.{rules}
use Rattle.command_line.proofs.SpanLemmas.{narrow_more}
use Rattle.command_line.proofs.lists.narrowed.Goals as goal

pub loop-span-preserved : goal.loop-span-preserved
loop-span-preserved c = narrow_more c.args.wide.now c.loop-span.span-index c.loop-span.spans.items
    c.push.new.self.items c.byte_span_of.result (record { first = 0; last = 0 }) (search rules) c.loop-span.invariant
    c.in_ok-push.ensures.items (search rules)
