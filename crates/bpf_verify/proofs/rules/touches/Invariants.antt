use Rattle.std.proofs.Common.{◌≡◌, ◌-◌}
use Rattle.bpf_verify.specs.inner.Rows.{abstract_of}
use Rattle.bpf_verify.specs.Rules as rules
use Rattle.bpf_verify.proofs.rules.touches.Given as goal

abbrev pub invariant-loop-byte : goal.invariant-loop-byte
invariant-loop-byte l = rules.touches_written (abstract_of l.known) l.first (l.end - l.first) ≡ rules.touches_written
    (abstract_of l.known) l.byte (l.end - l.byte)
