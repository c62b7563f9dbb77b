use Rattle.std.proofs.Common.{◌≡◌, ℕ, ◌&&◌, not}
use Rattle.bpf_verify.specs.inner.Marks.{is_marked}
use Rattle.bpf_verify.specs.Outcomes.{is_between}
use Rattle.bpf_verify.proofs.marks.Marks.take_all.Given as goal

abbrev pub invariant-loop-byte : goal.invariant-loop-byte
invariant-loop-byte l = (other : ℕ) → is_marked l.self.words other ≡
    (not (is_between l.first l.byte other) && is_marked l.initial.self.words other)
