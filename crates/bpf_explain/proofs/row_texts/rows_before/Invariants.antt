use Rattle.std.proofs.Common.{◌≡◌, ◌≤◌, string_bytes}
use Rattle.bpf_verify.specs.Findings.{table_in}
use Rattle.bpf_explain.specs.Rows.{insn_count_before, rows_before}
use Rattle.bpf_explain.proofs.row_texts.rows_before.Given as goal

abbrev pub invariant-loop-slot : goal.invariant-loop-slot
invariant-loop-slot l = record {
  few : l.count ≤ l.slot;
  count : l.count ≡ insn_count_before l.program l.slot;
  text : string_bytes l.text ≡ rows_before l.program l.shape (table_in l.findings) l.detail l.lines l.slot;
}
