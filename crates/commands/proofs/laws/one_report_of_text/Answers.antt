use Rattle.commands.proofs.SameTexts.{report_back}
use Rattle.commands.proofs.laws.one_report_of_text.Goals as goal

pub returns-clause-verdict : goal.returns-clause-verdict
returns-clause-verdict c = λ text line other agrees verdict first second.
    let s = first.scenario in
    let t = second.scenario in
    let same = c.one_scenario.ensures text s t first.reads second.reads in
    c.one_report.ensures s line other agrees verdict first.told (report_back s t same other verdict second.told)

pub returns-clause-line : goal.returns-clause-line
returns-clause-line c = λ text line other first second.
    (returns-clause-verdict c text line other first.0 second.0 first.1 second.1).0
