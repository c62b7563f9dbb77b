use Rattle.std.proofs.Common.{◌≡◌, ◌++◌, drop}
use Rattle.std.specs.Prelude.{string_bytes}
use Rattle.exploration_json.specs.Claims.{claim_lines_from}
use Rattle.exploration_json.proofs.claims.add_lines.Given as goal

-- what is added and what is still to come are the whole
abbrev pub invariant-loop-place : goal.invariant-loop-place
invariant-loop-place l =
    string_bytes l.text ++ claim_lines_from l.place (drop l.place l.properties) l.found
    ≡ string_bytes l.fn.text ++ claim_lines_from 0 l.properties l.found
