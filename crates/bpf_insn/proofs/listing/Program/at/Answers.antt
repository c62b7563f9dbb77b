use Rattle.std.proofs.Common.{◌∙◌, ap, subst, List, Option}
use Rattle.std.specs.Prelude.{slice_get}
use Rattle.bpf_insn.specs.declared.forms.Insn.{Insn}
use Rattle.bpf_insn.specs.Programs.{IsProgram, insn_at}
use Rattle.bpf_insn.specs.inner.Programs.{inner}
use Rattle.bpf_insn.proofs.LayoutLaws.{slot_is, mapped_within}
use Rattle.bpf_insn.proofs.listing.Program.at.Goals as goal

pub returns-clause-found : goal.returns-clause-found
returns-clause-found c =
    c.find.ensures ∙ ap (λ (s : List (Option Insn)). inner (slice_get s c.args.slot)) c.deref.ensures.value
    ∙ slot_is c.self.inside.slots.items c.args.slot c.self.invariant.0
    ∙ ap (λ (p : List Insn). insn_at p c.args.slot) c.self.view_is

pub returns-clause-within : goal.returns-clause-within
returns-clause-within c = mapped_within (λ insn. insn.now) c.find.result c.args.self.now c.args.slot
    (returns-clause-found c)

pub returns-clause-program : goal.returns-clause-program
returns-clause-program c = subst IsProgram c.self.view_is c.self.invariant.0.program
