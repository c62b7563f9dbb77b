use Rattle.std.proofs.Common.{◌≡◌, true, false, sym, ◌∙◌}
use Rattle.bpf_record.specs.inner.Marks.{is_marked_at}
use Rattle.bpf_record.proofs.Marking.{nothing_begins, not_held, passed_by}
use Rattle.bpf_record.proofs.blind.read_slot.Goals as goal

pub returns-in_default-clause-hides : goal.returns-in_default-clause-hides
returns-in_default-clause-hides c _ =
    nothing_begins (λ insn. insn.now) c.at.result c.args.program.now c.args.slot (is_marked_at c.args.marks.now)
    c.at.ensures.found c.in_default.is c.requires.before

pub returns-then-not-marks-slot-clause-hides : goal.returns-then-not-marks-slot-clause-hides
returns-then-not-marks-slot-clause-hides c _ =
    not_held (λ insn. insn.now) c.at.result c.in-Some.insn c.args.program.now c.args.slot (is_marked_at c.args.marks.now)
    c.at.ensures.found c.in-Some.is (sym c.calls_id.ensures ∙ c.if-calls_id.false) c.if-not-marks-slot.true
    c.requires.before

pub returns-clause-hides : goal.returns-clause-hides
returns-clause-hides c passed =
    passed_by (λ insn. insn.now) c.at.result c.in-Some.insn c.args.program.now c.args.slot
    (is_marked_at c.args.marks.now) (is_marked_at c.pass.new.marks) c.at.ensures.found c.in-Some.is
    (sym c.calls_id.ensures ∙ c.if-calls_id.false) c.pass.ensures.grows (c.pass.ensures.passed passed)
    c.requires.before
