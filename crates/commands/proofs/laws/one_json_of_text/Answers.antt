use Rattle.commands.proofs.SameTexts.{lines_back}
use Rattle.commands.proofs.laws.one_json_of_text.Goals as goal

pub returns : goal.returns
returns c = λ text s t form told other agrees verdict read reread first second.
    c.one_text_of_lines.ensures s form told other agrees verdict first
    (lines_back s t (c.one_scenario.ensures text s t read reread) form other verdict second)
