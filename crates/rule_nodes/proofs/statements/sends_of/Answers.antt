use Rattle.std.proofs.Common.{◌∙◌, ◌++◌, [], ◌∷◌, List, pos, ap}
use Rattle.bpf_insn.specs.declared.forms.Reg.TheVariants.{R1}
use Rattle.bpf_insn.specs.declared.forms.Insn.{Insn}
use Rattle.bpf_insn.specs.declared.forms.Insn.TheVariants as i
use Rattle.rule_nodes.specs.Code.{set_node}
use Rattle.rule_nodes.proofs.Loops.{send_more}
use Rattle.rule_nodes.proofs.statements.sends_of.Goals as goal

pub loop-node-preserved : goal.loop-node-preserved
loop-node-preserved c =
    let n = c.loop-node.node in
    c.in_ok-sends.ensures ∙ ap (λ (x : List Insn). c.loop-node.sends.items ++ x) c.send_of.ensures
    ∙ ap (λ (x : Insn). c.loop-node.sends.items ++ (set_node R1 n ∷ x ∷ i.Call (pos 3) ∷ [])) c.get_of-get.ensures
    ∙ send_more c.args.source n c.loop-node.sends.items c.loop-node.invariant
