use Rattle.rule_text.proofs.LineLemmas.{one_line_each}
use Rattle.rule_text.proofs.laws.each_statement_has_a_line.Goals as goal

pub returns : goal.returns
returns c = one_line_each
