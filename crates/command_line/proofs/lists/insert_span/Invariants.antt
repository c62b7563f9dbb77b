use Rattle.command_line.specs.inner.Spans.{AddsUpTo}
use Rattle.command_line.proofs.lists.insert_span.Given as goal

abbrev pub invariant-loop-number : goal.invariant-loop-number
invariant-loop-number l = AddsUpTo l.fn.numbers.keys l.numbers.keys l.fn.span.first l.number
