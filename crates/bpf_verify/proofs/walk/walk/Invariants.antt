use Rattle.std.proofs.Common.{◌≡◌, ◌-◌, vec_len}
use Rattle.bpf_insn.specs.Programs.{slots_of}
use Rattle.bpf_verify.specs.inner.Walk.{come_of, table_of, IsStop, Walks}
use Rattle.bpf_verify.proofs.walk.walk.Given as goal

abbrev pub invariant-loop-insn : goal.invariant-loop-insn
invariant-loop-insn l = record {
  long : vec_len l.rows ≡ slots_of l.program;
  stop : IsStop l.program l.slot;
  walks : Walks l.program l.shape l.slot (come_of l.front) (table_of l.rows.items);
}

abbrev pub decreases-loop-insn : goal.decreases-loop-insn
decreases-loop-insn l = slots_of l.program - l.slot
