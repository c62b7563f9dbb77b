use Rattle.std.proofs.Common.{List, subst, sym}
use Rattle.bpf_insn.specs.declared.forms.Insn.{Insn}
use Rattle.bpf_verify.specs.Typable.{Typable}
use Rattle.clock_nodes.proofs.TakenClock.{clock_typable}
use Rattle.scenario_text.proofs.programs.rule_clock.Goals as goal

pub taken-requires : goal.taken-requires
taken-requires c =
    subst (λ (p : List Insn). Typable p c.args.shape) (sym c.in_ok-listing.ensures.listing)
    (clock_typable _ _ c.requires.rule c.requires.extent c.requires.nodes)
