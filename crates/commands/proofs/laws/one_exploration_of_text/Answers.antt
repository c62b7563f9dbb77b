use Rattle.scenario_explorer.proofs.SameBeds.{finding_back}
use Rattle.commands.proofs.laws.one_exploration_of_text.Goals as goal

pub returns : goal.returns
returns c = λ text asked other s t mine theirs same read reread first second.
    c.one_exploration.ensures asked other s mine theirs same first
    (finding_back other s t (c.one_scenario.ensures text s t read reread) theirs second)
