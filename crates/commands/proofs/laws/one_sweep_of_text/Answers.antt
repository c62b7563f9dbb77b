use Rattle.commands.proofs.SameTexts.{sweep_back}
use Rattle.commands.proofs.laws.one_sweep_of_text.Goals as goal

pub returns : goal.returns
returns c = λ text s t start count told other read reread first second.
    c.one_sweep.ensures s start count told other first
    (sweep_back s t (c.one_scenario.ensures text s t read reread) start count other second)
