use Rattle.std.proofs.Common.{◌≡◌, ◌+◌, ◌-◌, slice_set}
use Rattle.bpf_machine.specs.Step.{with_number}
use Rattle.bpf_machine.proofs.bytes.put_number.Given as goal

abbrev pub invariant-loop-i : goal.invariant-loop-i
invariant-loop-i l =
    with_number slice_set l.bytes (l.first + l.i)
    (l.count - l.i) l.rest ≡ with_number slice_set l.fn.bytes l.first l.count l.value
