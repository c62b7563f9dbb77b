use Rattle.std.proofs.Common.{Some, inl, ap, sym, ◌∙◌}
use Rattle.bpf_insn.specs.Encoding.{slots_taken}
use Rattle.bpf_verify.specs.inner.Walk.{come_of, table_of}
use Rattle.bpf_verify.proofs.Walking.{walk_begins, walk_done, stop_next, walks_next}
use Rattle.bpf_verify.proofs.walk.walk.Goals as goal

pub loop-insn-init : goal.loop-insn-init
loop-insn-init c = record {
  long = c.in-Ok.ensures.long ∙ c.slot_count.ensures.count;
  stop = inl c.slot_count.ensures.first;
  walks = walk_begins c.args.program.now c.args.shape _ (table_of c.in-Ok.rows.items)
      (ap (λ A. Some A) c.entry.ensures) c.in-Ok.ensures.empty;
}

pub loop-insn-preserved : goal.loop-insn-preserved
loop-insn-preserved c =
    let here = sym c.insn_at.ensures.found ∙ c.in-Some.is in
    record {
      long = c.in_ok-walk_slot.ensures.long ∙ c.loop-insn.invariant.long;
      stop = stop_next c.args.program.now c.loop-insn.slot c.slots.result c.in-Some.insn here c.slots.ensures.count;
      walks = walks_next c.args.program.now c.args.shape c.loop-insn.slot (slots_taken c.in-Some.insn) c.slots.result
          (come_of c.walk_slot.new.front) (table_of c.walk_slot.new.rows.items)
          c.slots.ensures.count c.in_ok-walk_slot.ensures.walks;
    }

pub returns-clause-typable : goal.returns-clause-typable
returns-clause-typable c =
    walk_done c.args.program.now c.args.shape c.loop-insn.slot (come_of c.loop-insn.front)
    (table_of c.loop-insn.rows.items) c.loop-insn.invariant.walks c.loop-insn.invariant.stop
    (sym c.insn_at.ensures.found ∙ c.in_default-insn_at.is)
