use Rattle.std.proofs.Common.{◌≡◌, ◌∙◌, ◌++◌, ap, sym, arith, ℕ, Option}
use Rattle.std.specs.Prelude.{string_bytes}
use Rattle.bpf_insn.specs.declared.forms.Insn.{Insn}
use Rattle.bpf_insn.specs.Programs.{slots_of}
use Rattle.bpf_asm.specs.Canonical.{canonical_text}
use Rattle.bpf_asm.specs.inner.Canonical.{found_insns}
use Rattle.bpf_asm.proofs.Beginnings.{insns_before, before_none, before_all, text_more}
use Rattle.bpf_asm.proofs.printing.disassemble.Goals as goal

pub loop-slot-init : goal.loop-slot-init
loop-slot-init c = c.new-text.ensures.bytes ∙ ap canonical_text (sym (before_none c.args.program.now))

pub loop-slot-preserved : goal.loop-slot-preserved
loop-slot-preserved c =
    text_more c.args.program.now c.loop-slot.slot _ _ c.loop-slot.invariant
    (c.in_ok-push_line.ensures ∙ ap (λ (found : Option Insn). string_bytes c.loop-slot.text
    ++ canonical_text (found_insns found)) c.insn_at.ensures.found)

pub returns-clause-text : goal.returns-clause-text
returns-clause-text c =
    let end : c.loop-slot.slot ≡ slots_of c.args.program.now = omega
    (arith, c.loop-slot-test.false, c.loop-slot.auto.slot-end, c.slot_count-slot-end.ensures.count) in
    c.loop-slot.invariant ∙ ap (λ (k : ℕ). canonical_text (insns_before c.args.program.now k)) end
    ∙ ap canonical_text (before_all c.args.program.now)
