use Rattle.std.proofs.Common.{◌≡◌, ◌≤◌}
use Rattle.bpf_verify.specs.Findings.{abstract_of}
use Rattle.bpf_explain.specs.Known.{first_unwritten}
use Rattle.bpf_explain.proofs.loaded.first_unwritten.Given as goal

abbrev pub invariant-loop-byte : goal.invariant-loop-byte
invariant-loop-byte l = record {
  past : l.first ≤ l.byte;
  same : first_unwritten (abstract_of l.known) l.first l.end ≡ first_unwritten (abstract_of l.known) l.byte l.end;
}
