use Rattle.rule_programs.proofs.TableMeaning.{table_means}
use Rattle.rule_programs.proofs.laws.what_a_table_means.Goals as goal

pub returns : goal.returns
returns c = table_means
