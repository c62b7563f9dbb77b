use Rattle.std.proofs.Common.{◌≡◌}
use Rattle.std.specs.Prelude.{string_bytes}
use Rattle.bpf_asm.specs.Canonical.{canonical_text}
use Rattle.bpf_asm.proofs.Beginnings.{insns_before}
use Rattle.bpf_asm.proofs.printing.disassemble.Given as goal

abbrev pub invariant-loop-slot : goal.invariant-loop-slot
invariant-loop-slot l = string_bytes l.text ≡ canonical_text (insns_before l.program l.slot)
