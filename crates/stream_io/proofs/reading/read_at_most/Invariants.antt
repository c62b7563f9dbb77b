use Rattle.std.proofs.Common.{◌+◌, ◌<◌, ◌≤◌, vec_len}
use Rattle.std.specs.Io.KnownBytes.{Consumes}
use Rattle.stream_io.proofs.reading.read_at_most.Given as goal

-- each call so far brought a byte, and the limit isn't reached
abbrev pub invariant-loop : goal.invariant-loop
invariant-loop g l =
    record {
      room : vec_len l.bytes < l.limit;
      taken : Consumes (g.R.Source.remaining l.fn.reader) (g.R.Source.remaining l.reader) l.bytes.items;
      cost : g.R.Source.calls l.reader ≤ g.R.Source.calls l.fn.reader + l.counter;
      each_brings : l.counter ≤ vec_len l.bytes;
    }
