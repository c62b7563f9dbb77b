use Rattle.std.proofs.Common.{◌≡◌, ◌-◌, vec_len}
use Rattle.bpf_insn.specs.Programs.{slots_of}
use Rattle.bpf_verify.specs.inner.Walk.{come_of, table_of, IsStop, Keeps}
use Rattle.bpf_verify.proofs.findings.explain.Given as goal

abbrev pub invariant-loop-insn : goal.invariant-loop-insn
invariant-loop-insn l = record {
  long : vec_len l.states ≡ slots_of l.program;
  stop : IsStop l.program l.slot;
  keeps : Keeps l.program l.shape l.slot (come_of l.front) (table_of l.states.items);
}

abbrev pub decreases-loop-insn : goal.decreases-loop-insn
decreases-loop-insn l = slots_of l.program - l.slot
