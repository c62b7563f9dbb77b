use Rattle.std.proofs.Common.{◌≡◌, ◌++◌, string_bytes}
use Rattle.bpf_verify.specs.Findings.{abstract_of}
use Rattle.bpf_explain.specs.Facts.{fact_list}
use Rattle.bpf_explain.specs.Known.{facts_below, known_dword}
use Rattle.bpf_explain.proofs.facts.add_dwords.Given as goal

abbrev pub invariant-loop-number : goal.invariant-loop-number
invariant-loop-number l =
    string_bytes l.told ≡ string_bytes l.fn.told
    ++ fact_list (facts_below (λ number. known_dword number ((abstract_of l.known).entries number)) l.number)
