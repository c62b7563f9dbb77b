use Rattle.certified_steps.proofs.instances.+two_used.Given as goal

abbrev pub decreases-two_used : goal.decreases-two_used
decreases-two_used l = l.first.now.tested.count
