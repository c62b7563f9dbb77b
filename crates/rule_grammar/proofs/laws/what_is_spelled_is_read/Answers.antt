use Rattle.rule_grammar.proofs.ReadRules.{spelled_read, spelled_not_rejected, spelled_once}
use Rattle.rule_grammar.proofs.laws.what_is_spelled_is_read.Goals as goal

pub returns-clause-read : goal.returns-clause-read
returns-clause-read c = spelled_read

pub returns-clause-rejected : goal.returns-clause-rejected
returns-clause-rejected c = spelled_not_rejected

pub returns-clause-one : goal.returns-clause-one
returns-clause-one c = spelled_once
