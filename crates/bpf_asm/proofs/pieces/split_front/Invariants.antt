use Rattle.bpf_asm.specs.inner.Pieces.{is_among}
use Rattle.bpf_asm.proofs.RunLemmas.{Fronts}
use Rattle.bpf_asm.proofs.pieces.split_front.Given as goal

abbrev pub invariant-loop-i : goal.invariant-loop-i
invariant-loop-i l = Fronts (is_among l.letters) l.text l.i
