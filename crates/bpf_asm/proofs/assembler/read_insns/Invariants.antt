use Rattle.std.proofs.Common.{◌≤◌, ◌+◌, length}
use Rattle.bpf_asm.proofs.LabelLemmas.{bytes_left}
use Rattle.bpf_asm.proofs.InsnLemmas.{SoFar}
use Rattle.bpf_asm.proofs.assembler.read_insns.Given as goal

abbrev pub invariant-loop-rest : goal.invariant-loop-rest
invariant-loop-rest l = record {
  so_far : SoFar l.labels l.text l.insns.items l.slot l.rest;
  counted : l.line + bytes_left l.rest ≤ length l.text + 2;
}

abbrev pub decreases-loop-rest : goal.decreases-loop-rest
decreases-loop-rest l = bytes_left l.rest
