use Rattle.std.proofs.Common.{List, Option, ap, ◌∙◌}
use Rattle.std.specs.List.{flat_map}
use Rattle.bpf_insn.specs.declared.forms.Insn.{Insn}
use Rattle.bpf_insn.specs.inner.Programs.{spelling_at, insns_at_slots}
use Rattle.bpf_insn.proofs.LayoutLaws.{insns_in-layout, is_laid_out, image_by_slots}
use Rattle.bpf_insn.proofs.listing.with_image.Goals as goal

pub invariant_of-result : goal.invariant_of-result
invariant_of-result c =
    let slots = c.in_ok-slots.slots.items in
    let laid = is_laid_out c.args.insns.now slots c.requires c.in_ok-slots.ensures in (
      laid,
      c.in_ok-image.ensures
          ∙ (ap (λ (s : List (Option Insn)). flat_map spelling_at s) c.deref.ensures.value
          ∙ image_by_slots slots),
    )

pub returns : goal.returns
returns c = ap insns_at_slots c.in_ok-slots.ensures ∙ insns_in-layout c.args.insns.now
