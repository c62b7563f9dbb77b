use Rattle.commands.proofs.LineLaws.{one_text}
use Rattle.commands.proofs.laws.one_text_of_lines.Goals as goal

pub returns : goal.returns
returns c = one_text c.one_showing.ensures
