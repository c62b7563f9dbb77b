use Rattle.step_searches.proofs.Steps.{step_holds}
use Rattle.step_searches.proofs.laws.a_search_proves_a_step.Goals as goal

pub returns : goal.returns
returns c = step_holds
