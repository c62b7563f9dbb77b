use Rattle.claim_proofs.proofs.reader.+plan_within.Given as goal

abbrev pub decreases-plan_within : goal.decreases-plan_within
decreases-plan_within l = l.depth
