use Rattle.std.proofs.Common.{List, None, ap, subst, ◌∙◌}
use Rattle.bpf_insn.specs.declared.forms.Insn.{Insn}
use Rattle.bench_moves.proofs.Rows.{ok_mapped}
use Rattle.program_commands.specs.Dis.{dis_text}
use Rattle.run_commands.specs.NodeRule.{IsRuleOf, sizes_for}
use Rattle.run_commands.proofs.NodeRuleLemmas.{plain_text}
use Rattle.run_commands.proofs.node_program.program_text.Goals as goal

pub returns-in-None : goal.returns-in-None
returns-in-None c =
    let s = c.args.scenario.now in
    let own = c.program-program.ensures.value in
    let none : IsRuleOf s c.args.program.now.program None = subst (λ (p : List Insn). IsRuleOf s p None) own
    (rw c.in-None.is at c.in_ok-rule_of.ensures) in
    ok_mapped c.text_of.result
    (λ told is. (
      None,
      none,
      plain_text (sizes_for s) c.args.program.now.program c.args.list told.items
          (is ∙ ap (λ (p : List Insn). dis_text c.args.list p) own),
    )) c.text_of.ensures
