use Rattle.clock_rule.proofs.Pair.{rule_leaves, rule_sends}
use Rattle.clock_rule.proofs.laws.the_clock_rule_means_the_pair.Goals as goal

pub returns-clause-memory : goal.returns-clause-memory
returns-clause-memory c = λ rule faults modulus env before e ok l. rule_leaves faults modulus env before ok l rule e

pub returns-clause-sent : goal.returns-clause-sent
returns-clause-sent c = λ rule faults modulus env before e ok is l.
    rule_sends faults modulus env before ok l rule e is
