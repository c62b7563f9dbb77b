use Rattle.rule_text.proofs.SpelledStatements.{read_spelled}
use Rattle.rule_text.proofs.laws.what_is_read_is_spelled.Goals as goal

pub returns : goal.returns
returns c = read_spelled
