use Rattle.scenario_text.proofs.FrontLemmas.{front_is_due, front_reads}
use Rattle.scenario_text.proofs.laws.front_reads_as_whole.Goals as goal

pub returns-clause-reads : goal.returns-clause-reads
returns-clause-reads c = front_reads

pub returns-clause-due : goal.returns-clause-due
returns-clause-due c = front_is_due
