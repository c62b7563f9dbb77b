use Rattle.rule_text.proofs.TableLemmas.{table_added}
use Rattle.rule_text.proofs.tables.with_table.Goals as goal

pub returns : goal.returns
returns c = table_added _ _ (record { cells = c.args.cells }) c.in_ok-push.ensures.items c.requires
