use Rattle.std.proofs.Common.{List, Contains, length, ap, sym, subst, arith}
use Rattle.scenario_text.specs.declared.scenario.Load.{Load}
use Rattle.run_commands.proofs.NodeRuleLemmas.{load_has, no_rule}
use Rattle.run_commands.proofs.node_rule.rule_of.Goals as goal

pub returns-in-Some-load_with : goal.returns-in-Some-load_with
returns-in-Some-load_with c =
    load_has c.args.scenario.now c.requires.reads.0 c.in-Some-load_with.text.now c.args.program.now c.load-item.result
    c.requires.reads.1 (subst (λ (loads : List Load). Contains loads c.load-item.result)
    c.deref-load-items.ensures.value (c.loop-load.load-index, c.loop-load-test.true, sym c.load-item.is))
    c.in-Some-load_with.ensures

pub returns : goal.returns
returns c =
    let end = c.loop-load-test.false in
    let all = ap length c.deref-load-items.ensures.value in
    no_rule c.args.alloc c.args.scenario.now c.requires.reads.0 c.args.program.now c.requires.reads.1
    (rw c.in_default.is at c.in_ok-text.ensures)
    (λ k d lt. c.loop-load.invariant k d (omega (arith, lt, end, all)))
