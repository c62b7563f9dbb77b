use Rattle.std.proofs.Common.{length}
use Rattle.certified_steps.proofs.instances.+all_used.Given as goal

abbrev pub decreases-all_used : goal.decreases-all_used
decreases-all_used l = length l.uses.now
