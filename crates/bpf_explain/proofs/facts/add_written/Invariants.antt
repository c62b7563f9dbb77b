use Rattle.std.proofs.Common.{◌≡◌, ◌++◌, string_bytes}
use Rattle.bpf_verify.specs.Findings.{abstract_of}
use Rattle.bpf_explain.specs.Facts.{fact_list}
use Rattle.bpf_explain.specs.Known.{facts_below, written_from}
use Rattle.bpf_explain.proofs.facts.add_written.Given as goal

abbrev pub invariant-loop-byte : goal.invariant-loop-byte
invariant-loop-byte l =
    string_bytes l.told ≡ string_bytes l.fn.told
    ++ fact_list (facts_below (written_from (abstract_of l.known)) l.byte)
