use Rattle.run_lines.proofs.JudgingLaws.{judges_as_the_report}
use Rattle.run_lines.proofs.LineLaws.{one_line_one_pulse, tells_its_pulse}
use Rattle.run_lines.proofs.laws.lines.Goals as goal

pub returns : goal.returns
returns c = record { tells = tells_its_pulse; apart = one_line_one_pulse; judges = judges_as_the_report }
