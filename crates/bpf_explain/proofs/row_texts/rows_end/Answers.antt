use Rattle.std.proofs.Common.{sym, ◌∙◌, arith}
use Rattle.bpf_explain.proofs.Rowing.{slot_within}
use Rattle.bpf_explain.proofs.row_texts.rows_end.Goals as goal

pub overflow_add-result : goal.overflow_add-result
overflow_add-result c =
    let within = slot_within c.args.program.now c.args.shape c.args.findings.now c.in-Refused.slot _ c.requires
    (sym c.verdict.ensures ∙ c.in-Refused.is) in
    omega (arith, within, c.slot_count-count.ensures.count, c.slot_count-count.type_inv)
