use Rattle.run_commands.proofs.NodeRuleLemmas.{not_refused}
use Rattle.run_commands.proofs.node_rule.rule_lines.Goals as goal

pub unreachable-requires : goal.unreachable-requires
unreachable-requires c =
    not_refused c.args.alloc c.args.scenario.now c.args.shape c.args.program.now c.args.text.now c.in-Err._refusal
    c.requires.shape c.requires.rule (rw c.in-Err.is at c.in_ok-found.ensures.refused)
