use Rattle.std.proofs.Common.{◌≡◌, ◌+◌, ◌-◌}
use Rattle.bpf_machine.specs.inner.Cells.{with_marks}
use Rattle.bpf_machine.proofs.state.mark.Given as goal

abbrev pub invariant-loop-i : goal.invariant-loop-i
invariant-loop-i l = with_marks l.marks (l.first + l.i) (l.count - l.i) ≡ with_marks l.fn.marks l.first l.count
