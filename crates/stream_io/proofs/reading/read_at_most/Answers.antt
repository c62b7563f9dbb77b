use Rattle.std.proofs.Common.{rules, arith, ◌≤◌, ◌++◌, length, take, length-append}
use Rattle.std.proofs.KnownBytes.{Consumes-trans}
use Rattle.stream_io.proofs.reading.read_at_most.Goals as goal

-- what this call took goes behind what the earlier ones took
pub returns-then-is_err-clause-front : goal.returns-then-is_err-clause-front
returns-then-is_err-clause-front g c = (
  c.loop.bytes.items ++ take c.in-Ok.count c.read_once.new.buf,
  Consumes-trans _ _ _ c.loop.bytes.items _ c.loop.invariant.taken c.in-Ok.ensures.bytes.0,
  let room : length c.read_once.new.buf ≤ c.min-room.result = search rules in
      omega (
        arith,
        length-append c.loop.bytes.items
            (take c.in-Ok.count c.read_once.new.buf),
        c.in-Ok.ensures.bound.0,
        c.in-Ok.ensures.bound.1,
        c.min-room.ensures,
      ),
)

pub returns-then-len-limit-clause-front : goal.returns-then-len-limit-clause-front
returns-then-len-limit-clause-front g c = (
  c.loop.bytes.items ++ take c.in-Ok.count c.read_once.new.buf,
  Consumes-trans _ _ _ c.loop.bytes.items _ c.loop.invariant.taken c.in-Ok.ensures.bytes.0,
  let room : length c.read_once.new.buf ≤ c.min-room.result = search rules in
      omega (
        arith,
        length-append c.loop.bytes.items
            (take c.in-Ok.count c.read_once.new.buf),
        c.in-Ok.ensures.bound.0,
        c.in-Ok.ensures.bound.1,
        c.min-room.ensures,
      ),
)
