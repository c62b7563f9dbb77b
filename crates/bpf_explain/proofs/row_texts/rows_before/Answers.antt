use Rattle.std.proofs.Common.{◌≡◌, sym, ap, ◌∙◌, arith, ℕ}
use Rattle.std.specs.Prelude.{string_bytes}
use Rattle.bpf_insn.specs.Programs.{insn_at}
use Rattle.bpf_verify.specs.Findings.{table_in}
use Rattle.bpf_explain.specs.Rows.{rows_before}
use Rattle.bpf_explain.proofs.Rowing.{none_before, insns_next, few_more, no_rows, rows_next}
use Rattle.bpf_explain.proofs.row_texts.rows_before.Goals as goal

pub loop-slot-init : goal.loop-slot-init
loop-slot-init c = record {
  few = omega arith;
  count = sym (none_before c.args.program.now);
  text = c.new-text.ensures.bytes
      ∙ no_rows c.args.program.now c.args.shape (table_in c.args.findings.now) c.args.detail c.args.lines.now;
}

pub loop-slot-preserved : goal.loop-slot-preserved
loop-slot-preserved c = record {
  few = omega (
    arith,
    few_more (insn_at c.args.program.now c.loop-slot.slot),
    c.count_to-count.ensures,
    c.loop-slot.invariant.few,
  );
  count = insns_next c.args.program.now c.loop-slot.slot c.loop-slot.count c.count_to-count.result
      c.loop-slot.invariant.count c.count_to-count.ensures;
  text = rows_next c.args.program.now c.args.shape (table_in c.args.findings.now) c.args.detail c.args.lines.now
      c.loop-slot.slot c.loop-slot.count c.line_at-line.result (string_bytes c.loop-slot.text)
      (string_bytes c.add_row_at.new.text) c.loop-slot.invariant.count c.line_at-line.ensures
      c.loop-slot.invariant.text c.in_ok-add_row_at.ensures;
}

pub returns : goal.returns
returns c =
    let end : c.loop-slot.slot ≡ c.args.end = omega
    (arith, c.loop-slot-test.false, c.loop-slot.auto.slot-end) in
    c.loop-slot.invariant.text ∙ ap (λ (k : ℕ). rows_before c.args.program.now c.args.shape
    (table_in c.args.findings.now) c.args.detail c.args.lines.now k) end
