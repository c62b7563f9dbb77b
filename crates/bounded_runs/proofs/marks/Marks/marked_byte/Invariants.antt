use Rattle.bounded_runs.specs.Bounded.{StayInKept}
use Rattle.bounded_runs.specs.inner.Marks.{has_mark}
use Rattle.bounded_runs.proofs.marks.Marks.marked_byte.Given as goal

abbrev pub invariant-loop-byte : goal.invariant-loop-byte
invariant-loop-byte l = StayInKept l.kept l.byte (λ p. has_mark l.self.bytes p)
