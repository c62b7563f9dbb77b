use Rattle.std.proofs.Common.{ℕ, ◌<◌, slice_index_or}
use Rattle.scenario_text.specs.declared.scenario.Load.{Load}
use Rattle.run_commands.proofs.NodeRuleLemmas.{IsOther}
use Rattle.run_commands.proofs.node_rule.rule_of.Given as goal

abbrev pub invariant-loop-load : goal.invariant-loop-load
invariant-loop-load l =
    (k : ℕ) (d : Load) → k < l.load-index → IsOther l.program (slice_index_or l.scenario.loads.items k d)
