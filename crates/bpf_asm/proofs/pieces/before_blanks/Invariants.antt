use Rattle.std.proofs.Common.{◌≡◌, ◌≤◌, take}
use Rattle.bpf_asm.specs.Pieces.{before_blanks}
use Rattle.bpf_asm.proofs.pieces.before_blanks.Given as goal

abbrev pub invariant-loop-i : goal.invariant-loop-i
invariant-loop-i l = (l.end ≤ l.i) × (before_blanks (take l.i l.text) ≡ take l.end l.text)
