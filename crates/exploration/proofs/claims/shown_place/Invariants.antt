use Rattle.std.proofs.Common.{◌≡◌, drop}
use Rattle.exploration.specs.Claims.{shown_from}
use Rattle.exploration.proofs.claims.shown_place.Given as goal

-- those that are left decide
abbrev pub invariant-loop-place : goal.invariant-loop-place
invariant-loop-place l = shown_from l.place (drop l.place l.found) ≡ shown_from 0 l.found
