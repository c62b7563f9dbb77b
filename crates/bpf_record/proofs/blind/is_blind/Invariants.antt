use Rattle.std.proofs.Common.{◌≡◌, length}
use Rattle.bpf_insn.specs.Programs.{slots_of}
use Rattle.bpf_record.specs.inner.Marks.{is_marked_at, HidesBefore}
use Rattle.bpf_record.proofs.blind.is_blind.Given as goal

abbrev pub invariant-loop-slot : goal.invariant-loop-slot
invariant-loop-slot l = record {
  long : length l.marks.items ≡ slots_of l.program;
  before : HidesBefore l.program l.slot (is_marked_at l.marks.items);
}
