use Rattle.std.proofs.Common.{arith, ◌∙◌, ap, subst, List}
use Rattle.std.specs.Prelude.{IsSome}
use Rattle.bpf_insn.specs.declared.forms.Insn.{Insn}
use Rattle.bpf_insn.specs.Programs.{slots_of, insn_at}
use Rattle.bpf_insn.specs.inner.Programs.{insns_at_slots}
use Rattle.bpf_insn.proofs.LayoutLaws.{slot_total, first_slot}
use Rattle.bpf_insn.proofs.listing.Program.slot_count.Goals as goal

pub overflow_cast-result : goal.overflow_cast-result
overflow_cast-result c =
    omega (
      arith,
      slot_total c.self.inside.slots.items c.self.invariant.0,
      c.self.invariant.0.program.few_slots,
      c.self.inside.slots.ok.0,
    )

pub returns-clause-count : goal.returns-clause-count
returns-clause-count c =
    c.len.ensures ∙ c.self.inside.slots.ok.0 ∙ slot_total c.self.inside.slots.items c.self.invariant.0
    ∙ ap slots_of c.self.view_is

pub returns-clause-first : goal.returns-clause-first
returns-clause-first c = subst (λ (p : List Insn). IsSome (insn_at p 0)) c.self.view_is
    (first_slot (insns_at_slots c.self.inside.slots.items) c.self.invariant.0.program)
