use Rattle.std.proofs.Common.{◌≡◌}
use Rattle.rule_nodes.specs.Code.{send_codes}
use Rattle.rule_nodes.proofs.statements.sends_of.Given as goal

abbrev pub invariant-loop-node : goal.invariant-loop-node
invariant-loop-node l = l.sends.items ≡ send_codes l.source l.node
