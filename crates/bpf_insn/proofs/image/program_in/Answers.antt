use Rattle.std.proofs.Common.{ap, ◌∙◌, sym}
use Rattle.bpf_insn.specs.Programs.{image_of}
use Rattle.bpf_insn.specs.inner.Programs.{insns_at_slots}
use Rattle.bpf_insn.proofs.LayoutLaws.{insns_in-layout, is_laid_out}
use Rattle.bpf_insn.proofs.image.program_in.Goals as goal

pub invariant_of-result : goal.invariant_of-result
invariant_of-result c =
    let read = c.in_ok-slots.ensures.program in
    let same = ap insns_at_slots read.3 ∙ insns_in-layout read.0 in (
      is_laid_out read.0 c.in_ok-slots.slots.items read.1 read.3,
      c.in-Ok.ensures.items ∙ (read.2 ∙ ap image_of (sym same)),
    )

pub returns-clause-program : goal.returns-clause-program
returns-clause-program c =
    let read = c.in_ok-slots.ensures.program in
    let same = ap insns_at_slots read.3 ∙ insns_in-layout read.0 in
    (rw same read.1, read.2 ∙ ap image_of (sym same))
