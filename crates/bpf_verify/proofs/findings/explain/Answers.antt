use Rattle.std.proofs.Common.{Some, inl, ap, sym, ◌∙◌}
use Rattle.bpf_verify.specs.inner.Walk.{come_of, table_of}
use Rattle.bpf_verify.proofs.Walking.{stop_next}
use Rattle.bpf_verify.proofs.Keeping.{keeps_first, keeps_step, keeps_done}
use Rattle.bpf_verify.proofs.findings.explain.Goals as goal

pub loop-insn-init : goal.loop-insn-init
loop-insn-init c = record {
  long = c.in_ok-states.ensures.long ∙ c.slot_count.ensures.count;
  stop = inl c.slot_count.ensures.first;
  keeps = keeps_first c.args.program.now c.args.shape _ (table_of c.in_ok-states.states.items)
      (ap (λ A. Some A) c.entry.ensures) c.in_ok-states.ensures.empty;
}

pub loop-insn-preserved : goal.loop-insn-preserved
loop-insn-preserved c =
    let here = sym c.insn_at.ensures.found ∙ c.in-Some.is in
    record {
      long = c.step.ensures.long ∙ c.loop-insn.invariant.long;
      stop = stop_next c.args.program.now c.loop-insn.slot c.slots.result c.in-Some.insn here c.slots.ensures.count;
      keeps = keeps_step c.args.program.now c.args.shape c.loop-insn.slot c.slots.result c.in-Some.insn
          (come_of c.step.new.front) (table_of c.step.new.rows.items) c.in_ok-rule.field-0 c.in_default-2.is
          c.slots.ensures.count c.in_ok-rule.ensures.step;
    }

pub longest-requires : goal.longest-requires
longest-requires c = (
  table_of c.loop-insn.states.items,
  keeps_done c.args.program.now c.args.shape c.loop-insn.slot (come_of c.loop-insn.front)
      (table_of c.loop-insn.states.items) c.slot_count.ensures.first c.loop-insn.invariant.keeps
      c.loop-insn.invariant.stop (sym c.insn_at.ensures.found ∙ c.in_default.is),
)

pub returns : goal.returns
returns c =
    let types = keeps_done c.args.program.now c.args.shape c.loop-insn.slot (come_of c.loop-insn.front)
    (table_of c.loop-insn.states.items) c.slot_count.ensures.first c.loop-insn.invariant.keeps
    c.loop-insn.invariant.stop (sym c.insn_at.ensures.found ∙ c.in_default.is) in
    record {
      verdict = ((table_of c.loop-insn.states.items, types), c.in_ok-announced.ensures);
      types = types;
    }
