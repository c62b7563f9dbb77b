use Rattle.std.proofs.Common.{map}
use Rattle.command_line.specs.Lists.{AreEntries}
use Rattle.command_line.proofs.lists.cells_in.Given as goal

abbrev pub invariant-loop-part : goal.invariant-loop-part
invariant-loop-part l = AreEntries (map (λ part. part.now) l.yielded) l.all.items
