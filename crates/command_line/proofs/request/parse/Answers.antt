use Rattle.std.proofs.Common.{inr}
use Rattle.clap.specs.Matches.{found_of}
use Rattle.command_line.proofs.request.parse.Goals as goal

pub returns-in-Ok : goal.returns-in-Ok
returns-in-Ok g c = inr (c.in-Some.name.now, found_of c.in-Some.options.now, c.in-Ok.ensures)
