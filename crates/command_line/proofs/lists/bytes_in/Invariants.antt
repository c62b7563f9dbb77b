use Rattle.std.proofs.Common.{map}
use Rattle.command_line.specs.inner.Spans.{AreNumbersOf}
use Rattle.command_line.proofs.lists.bytes_in.Given as goal

abbrev pub invariant-loop-part : goal.invariant-loop-part
invariant-loop-part l = AreNumbersOf 256 (map (λ part. part.now) l.yielded) l.bytes.keys
