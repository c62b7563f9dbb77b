use Rattle.std.proofs.Common.{All}
use Rattle.claim_text.specs.Claims.{IsMeant}
use Rattle.claim_text.proofs.claims.Claims.lines.Given as goal

abbrev pub invariant-loop : goal.invariant-loop
invariant-loop l = All IsMeant l.claims.items
