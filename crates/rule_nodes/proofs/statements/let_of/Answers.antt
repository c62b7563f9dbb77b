use Rattle.std.proofs.Common.{◌≡◌, IfOk, List, subst}
use Rattle.bpf_insn.specs.declared.forms.Insn.{Insn}
use Rattle.rule_nodes.proofs.Shared.{count_let, least_let}
use Rattle.rule_nodes.proofs.statements.let_of.Goals as goal

pub returns-in-Count : goal.returns-in-Count
returns-in-Count c =
    subst (λ (x : List Insn). IfOk c.joined.result (λ y. y.items ≡ x))
    (count_let c.args.e.now _ _ c.args.sizes c.args.loops.now c.args.depth c.args.code.items c.without_last.result.items
    c.args.rest.now c.in-Count.is c.requires.code c.without_last.ensures) c.joined.ensures

pub returns-in-Least : goal.returns-in-Least
returns-in-Least c =
    subst (λ (x : List Insn). IfOk c.joined-in-Least.result (λ y. y.items ≡ x))
    (least_let c.args.e.now _ _ c.args.sizes c.args.loops.now c.args.depth c.args.code.items
    c.without_last-in-Least.result.items c.args.rest.now c.in-Least.is c.requires.code c.without_last-in-Least.ensures)
    c.joined-in-Least.ensures
