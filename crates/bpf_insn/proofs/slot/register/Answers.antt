use Rattle.std.proofs.Common.{◌≡◌, Option, Some, None, refl, ap, ◌∙◌}
use Rattle.std.specs.Option.{ok_or}
use Rattle.bpf_insn.specs.declared.forms.Reg.{Reg}
use Rattle.bpf_insn.specs.declared.slot.SlotFault.TheVariants.{BadRegister}
use Rattle.bpf_insn.specs.inner.Reading.{found}
use Rattle.bpf_insn.proofs.OpcodeLaws.{register_is}
use Rattle.bpf_insn.proofs.slot.register.Goals as goal

or_found : (r : Option Reg) → ok_or r BadRegister ≡ found BadRegister r
or_found None = refl
or_found (Some register) = refl

pub returns : goal.returns
returns c = c.ok_or.ensures.value ∙ (or_found c.of.result
    ∙ ap (found BadRegister) (register_is c.of.result c.args.number c.of.ensures.some c.of.ensures.none))
