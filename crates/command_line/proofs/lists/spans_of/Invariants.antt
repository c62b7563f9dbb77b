use Rattle.std.proofs.Common.{◌≡◌, [], fold, map}
use Rattle.std.specs.Map.Iter.{deref}
use Rattle.command_line.specs.Lists.{mail_spans}
use Rattle.command_line.specs.inner.Spans.{with_span_number}
use Rattle.command_line.proofs.lists.spans_of.Given as goal

abbrev pub invariant-loop-number : goal.invariant-loop-number
invariant-loop-number l = mail_spans l.spans.items ≡ fold with_span_number [] (map deref l.yielded)
