use Rattle.std.proofs.Common.{rules}
use Rattle.node_env.proofs.Numbers.{are_sendings}
use Rattle.node_env.proofs.outbox.Outbox.clear.Goals as goal

pub invariant_of-self : goal.invariant_of-self
invariant_of-self c = record {
  sendings = are_sendings c.fill.new.self.items (search rules) (search rules);
  fit = search rules;
}
