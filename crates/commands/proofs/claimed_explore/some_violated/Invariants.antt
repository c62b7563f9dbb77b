use Rattle.std.proofs.Common.{◌≡◌, drop}
use Rattle.commands.specs.ClaimedExplore.{is_violated, some_from}
use Rattle.commands.proofs.claimed_explore.some_violated.Given as goal

-- those that are left decide
abbrev pub invariant-loop-place : goal.invariant-loop-place
invariant-loop-place l = some_from is_violated l.place (drop l.place l.properties) l.found ≡ some_from is_violated 0 l.properties l.found
