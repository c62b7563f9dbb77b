use Rattle.std.proofs.Common.{List, subst, sym}
use Rattle.bpf_insn.specs.declared.forms.Insn.{Insn}
use Rattle.bpf_verify.specs.Typable.{Typable}
use Rattle.clock_nodes.proofs.TakenHostile.{echo_typable}
use Rattle.scenario_text.proofs.programs.echo_program.Goals as goal

pub taken-requires : goal.taken-requires
taken-requires c =
    subst (λ (p : List Insn). Typable p c.args.shape) (sym c.in_ok-listing.ensures.listing)
    (echo_typable _ c.requires.extent)
