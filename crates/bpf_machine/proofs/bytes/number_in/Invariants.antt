use Rattle.std.proofs.Common.{◌≡◌, ◌+◌, ◌-◌, ◌^◌, ◌<◌, Ok}
use Rattle.std.specs.Prelude.{slice_get}
use Rattle.bpf_machine.specs.Step.{number_at}
use Rattle.bpf_machine.proofs.bytes.number_in.Given as goal

abbrev pub invariant-loop-i : goal.invariant-loop-i
invariant-loop-i l = record {
  so_far : number_at (slice_get l.bytes) (l.first + l.i) (l.count - l.i) ≡ Ok l.value;
  small : l.value < 256 ^ (l.count - l.i);
}
