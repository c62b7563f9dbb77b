use Rattle.commands.proofs.CauseLemmas.{threads_have_cause, unshaped_reads_nothing}
use Rattle.commands.proofs.ReadingLemmas.{reading_has_cause}
use Rattle.commands.proofs.WritingLemmas.{starting_has_cause, writing_has_cause}
use Rattle.commands.proofs.laws.faults_have_causes.Goals as goal

pub returns-clause-thread : goal.returns-clause-thread
returns-clause-thread c = threads_have_cause

pub returns-clause-start : goal.returns-clause-start
returns-clause-start c = starting_has_cause

pub returns-clause-read : goal.returns-clause-read
returns-clause-read c = reading_has_cause

pub returns-clause-write : goal.returns-clause-write
returns-clause-write c = writing_has_cause

pub returns-clause-unshaped : goal.returns-clause-unshaped
returns-clause-unshaped c = unshaped_reads_nothing
