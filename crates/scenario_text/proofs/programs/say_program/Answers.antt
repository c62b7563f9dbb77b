use Rattle.std.proofs.Common.{List, subst, sym}
use Rattle.bpf_insn.specs.declared.forms.Insn.{Insn}
use Rattle.bpf_verify.specs.Typable.{Typable}
use Rattle.clock_nodes.proofs.TakenHostile.{say_typable}
use Rattle.scenario_text.proofs.programs.say_program.Goals as goal

pub taken-requires : goal.taken-requires
taken-requires c =
    subst (λ (p : List Insn). Typable p c.args.shape) (sym c.in_ok-listing.ensures.listing)
    (say_typable _ _ c.requires.extent c.requires.values)
