use Rattle.std.proofs.Common.{◌≡◌, ◌++◌, drop}
use Rattle.std.specs.Prelude.{string_bytes}
use Rattle.exploration.specs.Claims.{lines_from}
use Rattle.exploration.proofs.claims_text.add_lines.Given as goal

-- what is added and what is still to come are the whole
abbrev pub invariant-loop-place : goal.invariant-loop-place
invariant-loop-place l =
    string_bytes l.text ++ lines_from l.claims.mark.now l.claims.shown l.place (drop l.place l.properties) l.claims.found.now
    ≡ string_bytes l.fn.text ++ lines_from l.claims.mark.now l.claims.shown 0 l.properties l.claims.found.now
