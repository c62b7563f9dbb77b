use Rattle.std.proofs.Common.{length}
use Rattle.claim_text.proofs.claims.all_of.Given as goal

abbrev pub decreases-loop-part : goal.decreases-loop-part
decreases-loop-part l = length l.parts.items
