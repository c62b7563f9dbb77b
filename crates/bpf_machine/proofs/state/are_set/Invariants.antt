use Rattle.std.proofs.Common.{◌≡◌, ◌+◌, ◌-◌}
use Rattle.bpf_machine.specs.inner.Cells.{are_set}
use Rattle.bpf_machine.proofs.state.are_set.Given as goal

abbrev pub invariant-loop-i : goal.invariant-loop-i
invariant-loop-i l = l.all ≡ are_set l.marks (l.first + l.i) (l.count - l.i)
