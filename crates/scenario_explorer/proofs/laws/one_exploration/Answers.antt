use Rattle.scenario_explorer.proofs.OneExploration.{one_exploration}
use Rattle.scenario_explorer.proofs.laws.one_exploration.Goals as goal

pub returns : goal.returns
returns c = one_exploration
