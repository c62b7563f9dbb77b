use Rattle.std.proofs.Common.{◌≡◌, ◌+◌, ◌-◌}
use Rattle.bpf_machine.specs.inner.Cells.{without_marks}
use Rattle.bpf_machine.proofs.state.unmark.Given as goal

abbrev pub invariant-loop-i : goal.invariant-loop-i
invariant-loop-i l = without_marks l.marks (l.first + l.i) (l.count - l.i) ≡ without_marks l.fn.marks l.first l.count
