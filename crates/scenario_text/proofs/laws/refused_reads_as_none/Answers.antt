use Rattle.scenario_text.proofs.RefusedLaws.{refused_reads_as_none}
use Rattle.scenario_text.proofs.laws.refused_reads_as_none.Goals as goal

pub returns : goal.returns
returns c = refused_reads_as_none
